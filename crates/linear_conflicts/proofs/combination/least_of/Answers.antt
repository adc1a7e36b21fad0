use Rattle.std.proofs.Common.{◌<◌, length, get_or, arith, pos, ◌+ℤ◌, ◌*ℤ◌, ◌≤ℤ◌, w64, to_z, of_z}
use Rattle.std.proofs.lemmas.Int.{ints}
use Rattle.linear_conflicts.proofs.CombinationLemmas.{least_added, least_whole}
use Rattle.linear_conflicts.proofs.RowLemmas.{range_met}
use Rattle.linear_conflicts.proofs.combination.least_of.Goals as goal

pub loop-variable-preserved : goal.loop-variable-preserved
loop-variable-preserved c v all =
    let i = c.loop-variable.variable in
    let here : i < length c.args.factors.now = omega (arith, c.loop-variable-test.true, c.loop-variable.auto.variable-end) in
    let range = range_met c.args.ranges.now v i c.in_ok-get.field-0.now all c.in_ok-get.ensures.lookup.3.0 c.in_ok-get.ensures.lookup.1 in
    let least = to_z w64 c.loop-variable.least-bits in
    let more : to_z w64 (of_z w64 c.in_ok-least.least) ≤ℤ (least +ℤ get_or c.args.factors.now i (pos 0) *ℤ v i) =
    omega (arith, ints, c.in_ok-least.ensures.1, c.in_ok-product.ensures (v i) range.0 range.1) in
    least_added v c.args.factors.now i (pos 0) least (to_z w64 (of_z w64 c.in_ok-least.least)) _ here more (c.loop-variable.invariant v all)

pub returns : goal.returns
returns c v all = least_whole v c.args.factors.now c.loop-variable.variable _ _ (omega (arith, c.loop-variable-test.false, c.loop-variable.auto.variable-end)) (c.loop-variable.invariant v all)
