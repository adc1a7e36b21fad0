use Rattle.std.proofs.Common.{◌+◌, ◌≤◌}
use Rattle.spelled_numbers.proofs.WeightLemmas.{AreWeights}
use Rattle.spelled_numbers.proofs.weights.powers.Given as goal

abbrev pub invariant-loop-left : goal.invariant-loop-left
invariant-loop-left l = record {
  weights : AreWeights l.span l.left l.weights.items;
  some : 1 ≤ l.power;
}

abbrev pub decreases-loop-left : goal.decreases-loop-left
decreases-loop-left l = l.left + l.power
