-- What the steps of a command on two files leave.
use Rattle.std.specs.Prelude.{◌≡◌, ◌≢◌, ◌≤◌, ◌<◌, [], length, Result, Ok, IfOk, IfSome}
use Rattle.rsml_base.specs.declared.no_memory.NoMemory.{NoMemory}
use Rattle.rsml_io.specs.declared.read_error.ReadError.{ReadError}
use Rattle.rsml_io.specs.declared.read_error.ReadError.TheVariants as error
use Rattle.rsml_meaning.specs.EventLines.{Bytes}
use Rattle.rsml_syntax.specs.declared.syntax.Spec.{Spec}
use Rattle.source_notes.specs.Comments.{AreComments}
use Rattle.answering.specs.Outcomes.{HasAnswered, answer_of, bytes_of, greatest_file}
use Rattle.answering.specs.Uses.{FileUse, SinkUse, ReadRefused}
use Rattle.answering.specs.declared.outcome.Outcome.{Outcome}
use Rattle.answering.specs.declared.outcome.Outcome.TheVariants as outcome
use Rattle.answering.specs.declared.status.Status.{Status}
use Rattle.answering.specs.declared.status.Status.TheVariants as status
use Rattle.comparing.specs.Outputs.{of_first}
use Rattle.pairing.specs.Kept.{IsKeptText}
use Rattle.pairing.specs.Outputs.{FirstFault, SecondOutput, Shows}
use Rattle.pairing.specs.declared.pair_action.PairAction.{PairAction}
use Rattle.pairing.specs.declared.pair_action.PairAction.TheVariants as action
use Rattle.pairing.specs.declared.starting.Start.{Start}
use Rattle.pairing.specs.declared.starting.Start.TheVariants as start

-- It tells of a file that is too long, by these bytes.
pub record IsLong (bytes : Bytes) (o : Outcome) : Type 0 where
  pub answer : answer_of o ≡ status.TooLong
  pub text : bytes_of o ≡ bytes

-- what a command comes to on a file that was not read: these bytes, where it is too long
abbrev pub ComesOf : Bytes → ReadError → Result Outcome NoMemory → Type 0
ComesOf bytes error.ReadFault r = r ≡ Ok outcome.Unread
ComesOf bytes error.TooLong r = IfOk r (IsLong bytes)
ComesOf bytes error.NoMemory r = IfOk r (λ o. ⊥)

-- What a command came to on a file, for any relation of what it answers and writes to the file's text: that of the text that it read, which
-- is what the file told, if it told it; a read was refused; or the file is too long, and what it came to is that of each text that is.
pub data CameTo (OfText : Bytes → Status → Bytes → Type 0) (f : FileUse) (o : Outcome) : Type 0 where
  read : (text : Bytes) → IfSome f.told (λ told. text ≡ told) → OfText text (answer_of o) (bytes_of o) → CameTo OfText f o
  unread : o ≡ outcome.Unread → ReadRefused f → CameTo OfText f o
  long : IfSome f.told (λ text. greatest_file < length text) → ((text : Bytes) → greatest_file < length text → OfText text (answer_of o) (bytes_of o))
      → answer_of o ≡ status.TooLong → CameTo OfText f o

-- what a command left of a file and of the sink
abbrev pub HasActed : (Bytes → Status → Bytes → Type 0) → FileUse → SinkUse → Status → Type 0
HasActed OfText f k answer = (came : Result Outcome NoMemory) × IfOk came (CameTo OfText f) × HasAnswered k came answer

-- what is answered and written of a first text that is not kept, with the comment lines of the action
abbrev pub StoppedOutput : PairAction → Bytes → Status → Bytes → Type 0
StoppedOutput does text answer = Shows does (FirstFault text answer)

-- what is answered and written of a second text, with the comment lines of the action
abbrev pub ShownOutput : PairAction → Spec → Bytes → Status → Bytes → Type 0
ShownOutput does s other answer = Shows does (SecondOutput does s other answer)

-- comment lines, where the action writes some; else nothing
abbrev pub AreNotes : PairAction → Bytes → Type 0
AreNotes action.Prove notes = notes ≡ []
AreNotes action.ExplainProve notes = AreComments notes
AreNotes action.Same notes = notes ≡ []
AreNotes action.ExplainSame notes = AreComments notes

-- It tells the fault of a first text by this line, with the comment lines of the action.
pub record IsFault (does : PairAction) (line : Bytes) (o : Outcome) : Type 0 where
  pub answer : answer_of o ≡ status.SpecFault
  pub text : Shows does (λ bytes. bytes ≡ of_first line) (bytes_of o)

-- what a command starts with, on a text: a text that is kept is given back
abbrev pub Starts : PairAction → Bytes → Start → Type 0
Starts does text (start.Kept s shown) = (shown.items ≡ text) × IsKeptText text s
Starts does text (start.Stopped came) = IfOk came (λ o. StoppedOutput does text (answer_of o) (bytes_of o))

-- what it starts with, on a file: a text that was read is what the file told, if it told it
abbrev pub StartsOn : PairAction → FileUse → Start → Type 0
StartsOn does f (start.Kept s shown) = IfSome f.told (λ told. shown.items ≡ told) × IsKeptText shown.items s
StartsOn does f (start.Stopped came) = IfOk came (CameTo (StoppedOutput does) f)

-- What is made of the second file once the first was read, of all that is made of it.
pub record IsRestOf (file other : Bytes) (all rest : FileUse) : Type 0 where
  pub told : rest.told ≡ all.told
  pub refusals : all.refusals ≤ rest.refusals
  pub refusals_after : rest.refusals_after ≡ all.refusals_after
  pub reach : file ≢ other → rest.reach ≡ all.reach
  pub reach_after : rest.reach_after ≡ all.reach_after

-- What a command left of its files and of the sink. Where the text of the first is not kept, nothing was read of the second.
pub data HasPaired (does : PairAction) (file other : Bytes) (files : Bytes → FileUse) (k : SinkUse) (answer : Status) : Type 0 where
  stopped : HasActed (StoppedOutput does) (files file) k answer → (file ≢ other → (files other).reach_after ≡ (files other).reach)
      → HasPaired does file other files k answer
  paired : (text : Bytes) (s : Spec) (rest : FileUse) → IfSome (files file).told (λ told. text ≡ told) → IsKeptText text s
      → IsRestOf file other (files other) rest → HasActed (ShownOutput does s) rest k answer → HasPaired does file other files k answer
