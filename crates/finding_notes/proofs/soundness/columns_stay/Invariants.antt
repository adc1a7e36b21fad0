use Rattle.guard_encode.specs.Encoding.{Keeps}
use Rattle.finding_notes.proofs.soundness.columns_stay.Given as goal

abbrev pub invariant-loop-place : goal.invariant-loop-place
invariant-loop-place l = Keeps l.fn.encoder l.encoder
