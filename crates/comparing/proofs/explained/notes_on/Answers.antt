use Rattle.comparing.proofs.ExplainedLemmas.{of_one_frame}
use Rattle.comparing.proofs.explained.notes_on.Goals as goal

pub difference_notes-requires-clause-frame : goal.difference_notes-requires-clause-frame
difference_notes-requires-clause-frame c = of_one_frame _ _ _ _ c.in-Different.is c.requires.comparison
