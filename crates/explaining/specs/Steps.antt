-- What the steps of `explain` leave.
use Rattle.std.specs.Prelude.{◌≡◌, ◌++◌}
use Rattle.rsml_meaning.specs.EventLines.{Bytes}
use Rattle.answering.specs.Outcomes.{answer_of, bytes_of}
use Rattle.answering.specs.declared.outcome.Outcome.{Outcome}
use Rattle.answering.specs.declared.outcome.Outcome.TheVariants as outcome

-- a text with more behind it, and the same status; what is no text stays
abbrev pub IsFollowed : Outcome → Bytes → Outcome → Type 0
IsFollowed (outcome.Text answer text) more o = (answer_of o ≡ answer) × (bytes_of o ≡ text.items ++ more)
IsFollowed outcome.Unread more o = o ≡ outcome.Unread
IsFollowed outcome.Long more o = o ≡ outcome.Long
