use Rattle.spelled_numbers.proofs.WeightLemmas.{AreWeights}
use Rattle.spelled_numbers.proofs.weights.plain.Given as goal

abbrev pub invariant-loop-left : goal.invariant-loop-left
invariant-loop-left l = AreWeights l.span l.left l.weights.items

abbrev pub decreases-loop-left : goal.decreases-loop-left
decreases-loop-left l = l.left
