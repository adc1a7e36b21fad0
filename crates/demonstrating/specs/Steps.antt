-- What `demo` leaves.
use Rattle.std.specs.Prelude.{◌≡◌, ℕ}
use Rattle.rsml_meaning.specs.EventLines.{Bytes}
use Rattle.answering.specs.Uses.{SinkUse, WritesNothing}
use Rattle.answering.specs.Writing.{HasWritten}
use Rattle.answering.specs.declared.status.Status.{Status}
use Rattle.answering.specs.declared.status.Status.TheVariants as status
use Rattle.demonstrating.specs.Summary.{IsSummary}

-- What `demo` wrote for so many units, and how it ended.
pub data HasDemonstrated (n : ℕ) (k : SinkUse) (answer : Status) : Type 0 where
  no_memory : answer ≡ status.NoMemory → WritesNothing k → HasDemonstrated n k answer
  summed : (bytes : Bytes) → IsSummary n bytes → HasWritten k bytes status.Done answer → HasDemonstrated n k answer
