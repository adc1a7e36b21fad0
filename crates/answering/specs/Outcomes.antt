-- What a command comes to that reads one file, for any relation of what it answers and writes to the file's text.
use Rattle.std.specs.Prelude.{◌≡◌, ◌≢◌, ℕ, ◌<◌, length, Result, Ok, Err, IfOk, IfSome}
use Rattle.rsml_base.specs.declared.no_memory.NoMemory.{NoMemory}
use Rattle.rsml_io.specs.declared.read_error.ReadError.{ReadError}
use Rattle.rsml_io.specs.declared.read_error.ReadError.TheVariants as error
use Rattle.rsml_meaning.specs.EventLines.{Bytes}
use Rattle.answering.specs.Lines as lines
use Rattle.answering.specs.Uses.{FileUse, SinkUse, ReadRefused, WritesNothing}
use Rattle.answering.specs.Writing.{IsOfText, HasWritten}
use Rattle.answering.specs.declared.outcome.Outcome.{Outcome}
use Rattle.answering.specs.declared.outcome.Outcome.TheVariants as outcome
use Rattle.answering.specs.declared.status.Status.{Status}
use Rattle.answering.specs.declared.status.Status.TheVariants as status

-- how many bytes of a file are read
abbrev pub greatest_file : ℕ
greatest_file = 1048576

-- how a command ends, by what it comes to
abbrev pub answer_of : Outcome → Status
answer_of (outcome.Text answer text) = answer
answer_of outcome.Unread = status.ReadFault
answer_of outcome.Long = status.TooLong

-- what it writes
abbrev pub bytes_of : Outcome → Bytes
bytes_of (outcome.Text answer text) = text.items
bytes_of outcome.Unread = lines.read
bytes_of outcome.Long = lines.long

-- what a command comes to whose file was not read
abbrev pub ComesOf : ReadError → Result Outcome NoMemory → Type 0
ComesOf error.ReadFault r = r ≡ Ok outcome.Unread
ComesOf error.TooLong r = r ≡ Ok outcome.Long
ComesOf error.NoMemory r = IfOk r (λ o. ⊥)

-- What a command answers and writes of a text tells neither of wrong words nor of refused reads, writes and memory; and it tells of a
-- text that is too long as of a file that is.
pub record IsOfTexts (OfText : Bytes → Status → Bytes → Type 0) : Type 0 where
  pub answers : (text : Bytes) (answer : Status) (bytes : Bytes) → OfText text answer bytes → IsOfText answer
  pub long : (text : Bytes) → greatest_file < length text → OfText text status.TooLong lines.long

-- What a command came to on a file: that of the text that it read, which is what the file told, if it told it; a read was refused; or the
-- file is too long.
pub data CameTo (OfText : Bytes → Status → Bytes → Type 0) (f : FileUse) (o : Outcome) : Type 0 where
  read : (text : Bytes) → IfSome f.told (λ told. text ≡ told) → OfText text (answer_of o) (bytes_of o) → CameTo OfText f o
  unread : o ≡ outcome.Unread → ReadRefused f → CameTo OfText f o
  long : o ≡ outcome.Long → IfSome f.told (λ text. greatest_file < length text) → CameTo OfText f o

-- what it came to was written; or memory was refused, and nothing was
abbrev pub HasAnswered : SinkUse → Result Outcome NoMemory → Status → Type 0
HasAnswered k (Ok o) answer = HasWritten k (bytes_of o) (answer_of o) answer
HasAnswered k (Err e) answer = (answer ≡ status.NoMemory) × WritesNothing k

-- what a command left of its file and of the sink
abbrev pub HasActed : (Bytes → Status → Bytes → Type 0) → FileUse → SinkUse → Status → Type 0
HasActed OfText f k answer = (came : Result Outcome NoMemory) × IfOk came (CameTo OfText f) × HasAnswered k came answer
