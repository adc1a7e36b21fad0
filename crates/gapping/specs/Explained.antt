-- What `explain gaps` answers and writes of a text.
use Rattle.std.specs.Prelude.{◌≡◌, ℕ}
use Rattle.rsml_meaning.specs.EventLines.{Bytes}
use Rattle.answering.specs.Outcomes.{answer_of, bytes_of}
use Rattle.answering.specs.declared.outcome.Outcome.{Outcome}
use Rattle.answering.specs.declared.status.Status.{Status}
use Rattle.answering.specs.declared.status.Status.TheVariants as status
use Rattle.explaining.specs.Outputs.{WithNotes}
use Rattle.gapping.specs.Outputs.{GapsOutput}

-- what `gaps` does, and comment lines behind it
abbrev pub ExplainGapsOutput : ℕ → Bytes → Status → Bytes → Type 0
ExplainGapsOutput most text answer = WithNotes (GapsOutput most text answer)

-- the line of a fault, and comment lines behind it
abbrev pub IsExplainedFault : Bytes → Outcome → Type 0
IsExplainedFault line o = (answer_of o ≡ status.SpecFault) × WithNotes (λ bytes. bytes ≡ line) (bytes_of o)
