use Rattle.source_notes.specs.Comments.{AreComments}
use Rattle.source_notes.proofs.comments.Comments.bytes.Given as goal

abbrev pub invariant-loop-line : goal.invariant-loop-line
invariant-loop-line l = AreComments l.bytes.items
