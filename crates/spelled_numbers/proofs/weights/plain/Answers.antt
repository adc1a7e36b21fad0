use Rattle.std.proofs.Common.{◌+◌, ◌-◌, ◌/◌, ◌%◌, sym, subst, arith}
use Rattle.spelled_numbers.proofs.WeightLemmas.{AreWeights, one_weight, all_cover}
use Rattle.spelled_numbers.proofs.weights.plain.Goals as goal

pub loop-left-preserved : goal.loop-left-preserved
loop-left-preserved c =
    subst (AreWeights c.args.span (c.loop-left.left - (c.loop-left.left / 2 + c.loop-left.left % 2))) (sym c.in_ok-push.ensures.items)
    (one_weight c.args.span (c.loop-left.left - (c.loop-left.left / 2 + c.loop-left.left % 2)) c.loop-left.left (c.loop-left.left / 2 + c.loop-left.left % 2) c.loop-left.weights.items
    c.loop-left.invariant (omega arith) (omega arith))

pub returns-clause-covers : goal.returns-clause-covers
returns-clause-covers c = all_cover c.args.span c.loop-left.left c.loop-left.weights.items c.loop-left.invariant (omega (arith, c.loop-left-test.false))
