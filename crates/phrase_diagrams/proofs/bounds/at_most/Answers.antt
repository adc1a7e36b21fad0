use Rattle.std.proofs.Common.{◌≡◌, leb, arith, pos, ◌-ℤ◌, ◌<ℤ◌}
use Rattle.std.proofs.lemmas.Int.{ints}
use Rattle.std.proofs.lemmas.Result.{IfOk-weaker}
use Rattle.bdd_core.specs.Calls.{Represents}
use Rattle.spelled_numbers.specs.Sums.{weight_sum}
use Rattle.world_levels.specs.Spelling.{cell_part}
use Rattle.phrase_diagrams.proofs.TellLemmas.{part_levels, part_adds, part_small, bound_tells, never_below}
use Rattle.phrase_diagrams.proofs.bounds.at_most.Goals as goal

pub at_most-requires-clause-levels : goal.at_most-requires-clause-levels
at_most-requires-clause-levels c =
    let l = c.args.layout.now in
    part_levels c.args.arena.now (cell_part l.spec c.args.cell) l.slots c.cell_bits.result.now c.cell_bits.ensures c.requires.levels

pub at_most-requires-clause-add : goal.at_most-requires-clause-add
at_most-requires-clause-add c =
    let l = c.args.layout.now in
    part_adds (cell_part l.spec c.args.cell) l.slots c.cell_bits.result.now c.cell_bits.ensures

pub at_most-requires-clause-small : goal.at_most-requires-clause-small
at_most-requires-clause-small c =
    let l = c.args.layout.now in
    part_small (cell_part l.spec c.args.cell) l.slots c.cell_bits.result.now c.cell_bits.ensures (c.law.ensures.small (cell_part l.spec c.args.cell))

pub returns-in-None-clause-answer : goal.returns-in-None-clause-answer
returns-in-None-clause-answer c =
    let below : c.args.number <ℤ c.low.result = omega (arith, ints, c.in-None.ensures, c.ranges.number, c.low.type_inv) in
    never_below c.args.arena.now c.args.layout.now c.args.cell c.constant.result c.low.result c.args.number c.requires.cell c.low.ensures below c.constant.ensures

pub returns-in-Some-clause-answer : goal.returns-in-Some-clause-answer
returns-in-Some-clause-answer c =
    let is : pos c.in-Some.most ≡ c.args.number -ℤ c.low.result = omega (arith, ints, c.in-Some.ensures, c.ranges.number, c.low.type_inv) in
    IfOk-weaker c.at_most.result (Represents c.at_most.new.arena (λ v. leb (weight_sum v c.cell_bits.result.now) c.in-Some.most)) _
    (λ r h. bound_tells c.at_most.new.arena c.args.layout.now c.args.cell c.in-Some.most r c.low.result c.args.number c.cell_bits.result.now c.requires.cell c.low.ensures c.cell_bits.ensures is h)
    c.at_most.ensures.answer
