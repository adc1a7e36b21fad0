-- What a command leaves that writes a text.
use Rattle.std.specs.Prelude.{◌≡◌, ◌≢◌}
use Rattle.rsml_meaning.specs.EventLines.{Bytes}
use Rattle.answering.specs.Uses.{SinkUse, WriteRefused, Writes, WritesPrefix}
use Rattle.answering.specs.declared.status.Status.{Status}
use Rattle.answering.specs.declared.status.Status.TheVariants as status

-- a status that tells neither of a refused write nor of missing memory
pub record IsWritten (answer : Status) : Type 0 where
  pub no_write_fault : answer ≢ status.WriteFault
  pub no_memory : answer ≢ status.NoMemory

-- the status of a text: it also tells of no refused read, and of no wrong words
pub record IsOfText (answer : Status) : Type 0 where
  pub written : IsWritten answer
  pub no_read_fault : answer ≢ status.ReadFault
  pub no_usage : answer ≢ status.Usage

-- The bytes were all written, and the status is that which was asked for; or a write was refused, and a prefix of them stands.
pub record HasWritten (k : SinkUse) (bytes : Bytes) (asked answer : Status) : Type 0 where
  pub all : answer ≢ status.WriteFault → (answer ≡ asked) × Writes k bytes
  pub prefix : answer ≡ status.WriteFault → WriteRefused k × WritesPrefix k bytes
