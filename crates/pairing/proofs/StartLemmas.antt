-- What a command on two files starts with, from what its steps answered, and what may be written then.
use Rattle.std.proofs.Common.{◌≡◌, ◌<◌, ℕ, Vec, Result, Ok, Err, length, refl, sym, subst}
use Rattle.std.specs.Prelude.{codes, IfOk, IfSome}
use Rattle.std.specs.declared.alloc.Global.{Global}
use Rattle.rsml_base.specs.declared.no_memory.NoMemory.{NoMemory}
use Rattle.rsml_io.specs.declared.read_error.ReadError.{ReadError}
use Rattle.rsml_io.specs.declared.read_error.ReadError.TheVariants as errors
use Rattle.rsml_meaning.specs.EventLines.{Bytes}
use Rattle.rsml_syntax.specs.declared.syntax.Spec.{Spec}
use Rattle.judging.specs.Judgements.{IsKept}
use Rattle.judging.specs.Texts.{greatest_text}
use Rattle.judging.specs.declared.kept_text.Kept.{Kept}
use Rattle.judging.specs.declared.kept_text.Kept.TheVariants as kept
use Rattle.answering.specs.Outcomes.{answer_of, bytes_of, greatest_file}
use Rattle.answering.specs.Uses.{FileUse, ReadRefused}
use Rattle.answering.specs.Writing.{IsWritten}
use Rattle.answering.specs.declared.outcome.Outcome.{Outcome}
use Rattle.answering.specs.declared.status.Status.{Status}
use Rattle.answering.specs.declared.status.Status.TheVariants as status
use Rattle.checking.specs.Outputs.{TextFault}
use Rattle.checking.specs.Outputs as output
use Rattle.comparing.specs.Outputs.{of_first}
use Rattle.pairing.specs.Kept.{IsKeptText}
use Rattle.pairing.specs.Outputs.{FirstFault, Shows}
use Rattle.pairing.specs.Steps.{CameTo, ComesOf, IsFault, IsLong, Starts, StartsOn, StoppedOutput}
use Rattle.pairing.specs.declared.pair_action.PairAction.{PairAction}
use Rattle.pairing.specs.declared.starting.Start.{Start}
use Rattle.pairing.specs.declared.starting.Start.TheVariants as start
use Rattle.pairing.proofs.CameLemmas.{came_read, came_unread, came_written}
use Rattle.pairing.proofs.ShowLemmas.{report_of, shown_as, shown_bare}
use Rattle.pairing.proofs.StatusLemmas.{IsOfPair, fault_answers, is_of_text}

-- what is written of a first file that is too long
abbrev pub long_first : Bytes
long_first = codes "file 1\nfault long\n"

-- of a first text that is too long
pub long_stopped : (does : PairAction) (text : Bytes) → greatest_text < length text → StoppedOutput does text status.TooLong long_first
long_stopped does text l =
    let fault : FirstFault text status.TooLong long_first = record { line = codes "fault long\n"; fault = output.TextFault.too_long l refl refl; split = refl } in
    shown_bare does (FirstFault text status.TooLong) long_first fault

-- of a first text whose fault a line tells
fault_stopped : (does : PairAction) (text line : Bytes) (answer : Status) (bytes : Bytes) → TextFault text answer line → Shows does (λ b. b ≡ of_first line) bytes
    → StoppedOutput does text answer bytes
fault_stopped does text line answer bytes fault shown =
    shown_as does (λ b. b ≡ of_first line) (FirstFault text answer) (λ b e. record { line = line; fault = fault; split = e }) bytes shown

-- What it starts with, by what the text is.

pub kept_is : (text : Bytes) (k l : Kept) → k ≡ l → IsKept text k → IsKept text l
kept_is text k l e h = subst (IsKept text) e h

pub starts_long : (does : PairAction) (text : Bytes) (r : Result Outcome NoMemory) → IsKept text kept.TooLong → IfOk r (IsLong long_first)
    → IfOk r (λ o. StoppedOutput does text (answer_of o) (bytes_of o))
starts_long does text (Ok o) is h =
    subst (λ (a : Status). StoppedOutput does text a (bytes_of o)) (sym h.answer)
    (subst (λ (b : Bytes). StoppedOutput does text status.TooLong b) (sym h.text) (long_stopped does text is))
starts_long does text (Err e) is h = h

starts_fault : (does : PairAction) (text line : Bytes) (r : Result Outcome NoMemory) → TextFault text status.SpecFault line → IfOk r (IsFault does line)
    → IfOk r (λ o. StoppedOutput does text (answer_of o) (bytes_of o))
starts_fault does text line (Ok o) fault h =
    subst (λ (a : Status). StoppedOutput does text a (bytes_of o)) (sym h.answer) (fault_stopped does text line status.SpecFault (bytes_of o) fault h.text)
starts_fault does text line (Err e) fault h = h

pub starts_unread_text : (does : PairAction) (text : Bytes) (line : Vec ℕ Global) (r : Result Outcome NoMemory) → IsKept text (kept.Unread line)
    → IfOk r (IsFault does line.items) → IfOk r (λ o. StoppedOutput does text (answer_of o) (bytes_of o))
starts_unread_text does text line r is h = starts_fault does text line.items r (output.TextFault.unread is refl) h

pub starts_broken : (does : PairAction) (text : Bytes) (line : Vec ℕ Global) (r : Result Outcome NoMemory) → IsKept text (kept.Broken line)
    → IfOk r (IsFault does line.items) → IfOk r (λ o. StoppedOutput does text (answer_of o) (bytes_of o))
starts_broken does text line r is h = starts_fault does text line.items r (output.broken is.0 is.1 is.2 refl) h

pub starts_kept : (text : Bytes) (s : Spec) → IsKept text (kept.Checked s) → IsKeptText text s
starts_kept text s is = record { reads = is.0; keeps = is.1 }

-- On a file, by the text that was read of it.
pub starts_on : (does : PairAction) (f : FileUse) (text : Bytes) (x : Start) → IfSome f.told (λ told. text ≡ told) → Starts does text x → StartsOn does f x
starts_on does f text (start.Kept s shown) told h = (
  subst (λ (t : Bytes). IfSome f.told (λ told. t ≡ told)) (sym h.0) told,
  subst (λ (t : Bytes). IsKeptText t s) (sym h.0) h.1,
)
starts_on does f text (start.Stopped came) told h = came_read (StoppedOutput does) f text text came told refl h

-- or by why it was not read
pub starts_unread : (does : PairAction) (f : FileUse) (error : ReadError) (came : Result Outcome NoMemory) → ComesOf long_first error came
    → (error ≡ errors.ReadFault → ReadRefused f) → (error ≡ errors.TooLong → IfSome f.told (λ text. greatest_file < length text))
    → IfOk came (CameTo (StoppedOutput does) f)
starts_unread does f error came h = came_unread (StoppedOutput does) f long_first (long_stopped does) error came h

-- what it starts with, by cases
pub start_is_kept : (does : PairAction) (f : FileUse) (x : Start) (s : Spec) (shown : Vec ℕ Global) → x ≡ start.Kept s shown → StartsOn does f x
    → IfSome f.told (λ told. shown.items ≡ told) × IsKeptText shown.items s
start_is_kept does f x s shown e h = subst (λ (y : Start). StartsOn does f y) e h

pub start_is_stopped : (does : PairAction) (f : FileUse) (x : Start) (came : Result Outcome NoMemory) → x ≡ start.Stopped came → StartsOn does f x
    → IfOk came (CameTo (StoppedOutput does) f)
start_is_stopped does f x came e h = subst (λ (y : Start). StartsOn does f y) e h

-- the status of what is answered and written of a first text that is not kept
pub stopped_answers : (does : PairAction) (text : Bytes) (answer : Status) (bytes : Bytes) → StoppedOutput does text answer bytes → IsOfPair answer
stopped_answers does text answer bytes h =
    let r = report_of does (FirstFault text answer) bytes h in
    fault_answers text answer r.1.line r.1.fault

pub stopped_written : (does : PairAction) (f : FileUse) (came : Result Outcome NoMemory) → IfOk came (CameTo (StoppedOutput does) f)
    → IfOk came (λ o. IsWritten (answer_of o))
stopped_written does f came h =
    came_written (StoppedOutput does) f (λ text answer bytes o. is_of_text answer (stopped_answers does text answer bytes o)) came h
