use Rattle.std.proofs.Common.{◌-◌, sym, subst, arith}
use Rattle.spelled_numbers.proofs.WeightLemmas.{AreWeights, one_weight, all_cover}
use Rattle.spelled_numbers.proofs.weights.powers.Goals as goal

pub loop-left-preserved : goal.loop-left-preserved
loop-left-preserved c = record {
  weights = subst (AreWeights c.args.span (c.loop-left.left - c.loop-left.power)) (sym c.in_ok-push.ensures.items)
      (one_weight c.args.span (c.loop-left.left - c.loop-left.power) c.loop-left.left c.loop-left.power c.loop-left.weights.items
      c.loop-left.invariant.weights (omega (arith, c.if-power-left.false, c.loop-left.invariant.some)) (omega (arith, c.if-power-left.false)));
  some = c.loop-left.invariant.some;
}

pub returns-clause-covers : goal.returns-clause-covers
returns-clause-covers c = all_cover c.args.span c.loop-left.left c.loop-left.weights.items c.loop-left.invariant.weights (omega (arith, c.loop-left-test.false))
