use Rattle.guard_encode.specs.Encoding.{Keeps}
use Rattle.group_verdicts.proofs.ChildSteps.{NoneBefore}
use Rattle.group_verdicts.proofs.choices.least_child.Given as goal

-- none of the children so far
abbrev pub invariant-loop-place : goal.invariant-loop-place
invariant-loop-place l = record {
  keeps : Keeps l.fn.encoder l.encoder;
  none : NoneBefore l.fn.encoder l.component l.place l.f;
}
