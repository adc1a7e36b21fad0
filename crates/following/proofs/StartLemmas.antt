-- What a command starts with, and what it leaves, from what its steps answered.
use Rattle.std.proofs.Common.{◌≡◌, ◌≢◌, ◌<◌, ℕ, Vec, Result, Ok, Err, length, refl, sym, ap, subst}
use Rattle.std.specs.Prelude.{IfOk, IfSome}
use Rattle.std.specs.declared.alloc.Global.{Global}
use Rattle.rsml_base.specs.declared.no_memory.NoMemory.{NoMemory}
use Rattle.rsml_io.specs.declared.read_error.ReadError.{ReadError}
use Rattle.rsml_io.specs.declared.read_error.ReadError.TheVariants as errors
use Rattle.rsml_meaning.specs.EventFiles.{Limits, program_limits}
use Rattle.rsml_meaning.specs.EventLines.{Bytes}
use Rattle.rsml_syntax.specs.declared.syntax.Spec.{Spec}
use Rattle.simulator.specs.Outputs.{RunTexts}
use Rattle.simulator.specs.Simulating.{Follows, Meeting}
use Rattle.simulator.specs.declared.sim_end.SimEnd.{SimEnd}
use Rattle.judging.specs.Judgements.{IsJudgement}
use Rattle.judging.specs.declared.judging.Judgement.{Judgement}
use Rattle.judging.specs.declared.judging.Judgement.TheVariants as judgement
use Rattle.answering.specs.Lines as lines
use Rattle.answering.specs.Outcomes.{CameTo, ComesOf, IsOfTexts, answer_of, bytes_of, greatest_file}
use Rattle.answering.specs.Uses.{FileUse, ReadRefused}
use Rattle.answering.specs.Writing.{IsOfText, IsWritten}
use Rattle.answering.specs.declared.outcome.Outcome.{Outcome}
use Rattle.answering.specs.declared.status.Status.{Status}
use Rattle.answering.specs.declared.status.Status.TheVariants as status
use Rattle.answering.proofs.OutcomeLemmas.{came_read, came_unread, came_written}
use Rattle.checking.specs.Outputs.{CheckOutput}
use Rattle.checking.specs.Outputs as output
use Rattle.checking.specs.Steps.{outcome_of}
use Rattle.checking.proofs.CheckLemmas.{check_output, check_answers}
use Rattle.explaining.specs.Outputs.{ExplainOutput}
use Rattle.following.specs.Outputs.{IsCertifiedText, Shows}
use Rattle.following.specs.Steps.{StoppedOutput, Starts, StartsOn}
use Rattle.following.specs.declared.starting.Start.{Start}
use Rattle.following.specs.declared.starting.Start.TheVariants as start
use Rattle.following.specs.declared.event_action.EventAction.{EventAction}
use Rattle.following.specs.declared.event_action.EventAction.TheVariants as action
use Rattle.following.proofs.NoteLemmas.{report_of, shown_bare}

-- a specification that is judged to be certified
pub certified_text : (text : Bytes) (j : Judgement) (report : Vec ℕ Global) (checked : Spec) → j ≡ judgement.Certified report checked
    → IsJudgement text j → IsCertifiedText text checked
certified_text text j report checked e h =
    let is : IsJudgement text (judgement.Certified report checked) = subst (IsJudgement text) e h in
    subst (λ (s : Spec). IsCertifiedText text s) (sym is.2.0)
    (record { reads = is.1; keeps = is.2.1; certified = is.2.2.certified; deterministic = is.2.2.deterministic })

-- a judgement that is no certificate
abbrev IsOther : Judgement → Type 0
IsOther j = (report : Vec ℕ Global) (checked : Spec) → j ≢ judgement.Certified report checked

pub not_done : (j : Judgement) → IsOther j → answer_of (outcome_of j) ≢ status.Done
not_done judgement.TooLong n e = cc e
not_done (judgement.Unread line) n e = cc e
not_done (judgement.Broken line) n e = cc e
not_done (judgement.Refused report checked verdicts) n e = cc e
not_done (judgement.Certified report checked) n e = n report checked refl

-- what is answered and written without comment lines, where it is not Done
pub bare_stopped : (does : EventAction) (text : Bytes) (j : Judgement) (o : Outcome) → Shows does (CheckOutput text (answer_of o)) (bytes_of o)
    → answer_of o ≡ answer_of (outcome_of j) → answer_of (outcome_of j) ≢ status.Done → StoppedOutput does text (answer_of o) (bytes_of o)
bare_stopped does text j o shown same n = (subst (λ (a : Status). a ≢ status.Done) (sym same) n, shown)

-- with them
pub noted_stopped : (text : Bytes) (j : Judgement) (r : Result Outcome NoMemory) → answer_of (outcome_of j) ≢ status.Done
    → IfOk r (λ o. ExplainOutput text (answer_of o) (bytes_of o)) → IfOk r (λ o. answer_of o ≡ answer_of (outcome_of j))
    → IfOk r (λ o. StoppedOutput action.ExplainCover text (answer_of o) (bytes_of o))
noted_stopped text j (Ok o) n h same = bare_stopped action.ExplainCover text j o h same n
noted_stopped text j (Err x) n h same = h

-- what a command starts with, where the judgement is no certificate: without comment lines
pub starts_stopped : (does : EventAction) (text : Bytes) (j : Judgement) (o : Outcome) → answer_of (outcome_of j) ≢ status.Done → o ≡ outcome_of j
    → IsJudgement text j → StoppedOutput does text (answer_of o) (bytes_of o)
starts_stopped does text j o n e h =
    bare_stopped does text j o (shown_bare does (CheckOutput text (answer_of o)) (bytes_of o) (check_output text j o e h)) (ap answer_of e) n

-- on a file, by the text that was read of it
pub starts_on : (does : EventAction) (f : FileUse) (text : Bytes) (x : Start) → IfSome f.told (λ told. text ≡ told) → Starts does text x → StartsOn does f x
starts_on does f text (start.Certified s shown) told h = (text, told, h)
starts_on does f text (start.Stopped came) told h = came_read (StoppedOutput does) f text came told h

-- or by why it was not read
pub starts_unread : (does : EventAction) (f : FileUse) (error : ReadError) (came : Result Outcome NoMemory) → ComesOf error came
    → (error ≡ errors.ReadFault → ReadRefused f) → (error ≡ errors.TooLong → IfSome f.told (λ text. greatest_file < length text))
    → IfOk came (CameTo (StoppedOutput does) f)
starts_unread does = came_unread (StoppedOutput does)

-- what it starts with, by cases
pub start_is_certified : (does : EventAction) (f : FileUse) (x : Start) (s : Spec) (shown : Vec ℕ Global) → x ≡ start.Certified s shown → StartsOn does f x
    → (text : Bytes) × IfSome f.told (λ told. text ≡ told) × IsCertifiedText text s
start_is_certified does f x s shown e h = subst (λ (y : Start). StartsOn does f y) e h

pub start_is_stopped : (does : EventAction) (f : FileUse) (x : Start) (came : Result Outcome NoMemory) → x ≡ start.Stopped came → StartsOn does f x
    → IfOk came (CameTo (StoppedOutput does) f)
start_is_stopped does f x came e h = subst (λ (y : Start). StartsOn does f y) e h

-- what is answered and written of a text that is no certified specification may be answered and written of texts
stopped_answers : (does : EventAction) (text : Bytes) (answer : Status) (bytes : Bytes) → StoppedOutput does text answer bytes → IsOfText answer
stopped_answers does text answer bytes h = let r = report_of does (CheckOutput text answer) bytes h.1 in check_answers text answer r.0 r.1

pub stopped_texts : (does : EventAction) → IsOfTexts (StoppedOutput does)
stopped_texts does = record {
  answers = stopped_answers does;
  long = λ text l. (
    λ e. cc e,
    shown_bare does (CheckOutput text status.TooLong) lines.long (output.fault (output.TextFault.too_long l refl refl)),
  );
}

pub may_be_written : (does : EventAction) (f : FileUse) (came : Result Outcome NoMemory) → IfOk came (CameTo (StoppedOutput does) f)
    → IfOk came (λ o. IsWritten (answer_of o))
may_be_written does f = came_written (StoppedOutput does) f (stopped_texts does)

-- what is promised with the limits of the program
pub with_limits : (texts : RunTexts) (s t : Spec) (l : Limits) (m : Meeting) (ended : SimEnd) → s ≡ t → l ≡ program_limits
    → Follows texts s l m ended → Follows texts t program_limits m ended
with_limits texts s t l m ended e f h =
    subst (λ (x : Limits). Follows texts t x m ended) f (subst (λ (x : Spec). Follows texts x l m ended) e h)
