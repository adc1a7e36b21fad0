-- What `explain` answers and writes of a text.
use Rattle.std.specs.Prelude.{◌≡◌, ◌++◌}
use Rattle.rsml_meaning.specs.EventLines.{Bytes}
use Rattle.source_notes.specs.Comments.{AreComments}
use Rattle.answering.specs.declared.status.Status.{Status}
use Rattle.checking.specs.Outputs.{CheckOutput}

-- The bytes are those of a report that is such, and comment lines behind it.
pub record WithNotes (Is : Bytes → Type 0) (bytes : Bytes) : Type 0 where
  pub report : Bytes
  pub notes : Bytes
  pub split : bytes ≡ report ++ notes
  pub reported : Is report
  pub comments : AreComments notes

-- what `explain` answers and writes: what `check` does, and comment lines behind it
abbrev pub ExplainOutput : Bytes → Status → Bytes → Type 0
ExplainOutput text answer = WithNotes (CheckOutput text answer)
