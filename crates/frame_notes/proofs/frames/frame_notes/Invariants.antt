use Rattle.source_notes.specs.Comments.{AreComments}
use Rattle.frame_notes.proofs.frames.frame_notes.Given as goal

abbrev pub invariant-loop-difference : goal.invariant-loop-difference
invariant-loop-difference l = AreComments l.bytes.items
