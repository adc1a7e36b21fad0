use Rattle.std.proofs.Common.{◌≡◌, drop}
use Rattle.std.specs.Cmp.Lexicographic.{pointwise}
use Rattle.spec_frames.specs.helpers.Sameness.{same_transition}
use Rattle.spec_frames.proofs.states.same_transitions.Given as goal

abbrev pub invariant-loop-transition : goal.invariant-loop-transition
invariant-loop-transition l = pointwise same_transition (drop l.transition-index l.one) l.others ≡ pointwise same_transition l.one l.two
