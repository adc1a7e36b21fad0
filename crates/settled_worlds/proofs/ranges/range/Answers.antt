use Rattle.std.proofs.Common.{◌≡◌, ◌≤◌, ◌+ℤ◌, ℤ, Some, slice_get, refl, sym, ap, subst, ◌∙◌, arith, pos}
use Rattle.std.proofs.lemmas.Int.{ints}
use Rattle.rsml_meaning.specs.Cells.{InputCell, cells}
use Rattle.rsml_ground.specs.Rests.{IsSmall}
use Rattle.spelled_numbers.specs.Spelling.{total}
use Rattle.spelled_numbers.specs.Sums.{total_weight}
use Rattle.world_levels.specs.Spelling.{cell_part}
use Rattle.phrase_diagrams.specs.Signs.{IsWithin}
use Rattle.phrase_diagrams.proofs.WorldLemmas.{item_at}
use Rattle.settled_worlds.proofs.RangeLemmas.{range_is, weights, within}
use Rattle.settled_worlds.proofs.ranges.range.Goals as goal

pub weight-above-requires : goal.weight-above-requires
weight-above-requires c =
    let k = c.args.levels.now in
    subst (λ n. n ≤ 2000000000) (sym (ap total_weight c.cell_bits.ensures ∙ weights k c.args.cell)) (c.keys.ensures.law.layout.small (cell_part k.base.spec c.args.cell))

pub range_from-requires-clause-low : goal.range_from-requires-clause-low
range_from-requires-clause-low c =
    let k = c.args.levels.now in
    let there = item_at (cells k.base.spec) c.args.cell c.requires in
    let low : c.low-low.result ≡ there.0.numbers.low = c.low-low.ensures there.0 (ap (λ s. slice_get (cells s) c.args.cell) c.layout-layout.ensures.spec ∙ there.1) in
    let small : IsWithin 1000000000 c.low-low.result = within c.low-low.result (subst IsSmall (sym low) (c.keys.ensures.law.layout.lows c.args.cell there.0 there.1)) in
    record { least = omega (arith, ints, small.least, small.most, c.low-low.type_inv); most = omega (arith, ints, small.least, small.most, c.low-low.type_inv) }

pub range_from-requires-clause-above : goal.range_from-requires-clause-above
range_from-requires-clause-above c =
    let k = c.args.levels.now in
    let weight : c.weight-above.result ≡ pos (total (cell_part k.base.spec c.args.cell) k.slots) = c.weight-above.ensures ∙ ap pos (ap total_weight c.cell_bits.ensures ∙ weights k c.args.cell) in
    let few : total (cell_part k.base.spec c.args.cell) k.slots ≤ 2000000000 = c.keys.ensures.law.layout.small (cell_part k.base.spec c.args.cell) in
    record { least = omega (arith, ints, weight, few); most = omega (arith, ints, weight, few) }

pub returns : goal.returns
returns c =
    let k = c.args.levels.now in
    let there = item_at (cells k.base.spec) c.args.cell c.requires in
    let low : (x : InputCell) → slice_get (cells k.base.spec) c.args.cell ≡ Some x → c.low-low.result ≡ x.numbers.low =
    λ x at. c.low-low.ensures x (ap (λ s. slice_get (cells s) c.args.cell) c.layout-layout.ensures.spec ∙ at) in
    let small : IsWithin 1000000000 c.low-low.result = within c.low-low.result (subst IsSmall (sym (low there.0 there.1)) (c.keys.ensures.law.layout.lows c.args.cell there.0 there.1)) in
    let weight : c.weight-above.result ≡ pos (total (cell_part k.base.spec c.args.cell) k.slots) = c.weight-above.ensures ∙ ap pos (ap total_weight c.cell_bits.ensures ∙ weights k c.args.cell) in
    let few : total (cell_part k.base.spec c.args.cell) k.slots ≤ 2000000000 = c.keys.ensures.law.layout.small (cell_part k.base.spec c.args.cell) in
    let low_is : c.range_from.result.low ≡ c.low-low.result = omega (arith, ints, c.range_from.ensures.low, small.least, small.most, c.low-low.type_inv) in
    let high_is : c.range_from.result.high ≡ c.range_from.result.low +ℤ pos (total (cell_part k.base.spec c.args.cell) k.slots) =
    omega (arith, ints, c.range_from.ensures.high, low_is, weight, few, small.least, small.most, c.low-low.type_inv) in
    range_is k c.args.cell c.range_from.result (total (cell_part k.base.spec c.args.cell) k.slots) c.keyed_laws.ensures.worlds c.keys.ensures.law c.requires
    (λ x at. low_is ∙ low x at) high_is refl
