-- What a command on two files comes to on the second, from what its steps answered.
use Rattle.std.proofs.Common.{◌≡◌, ◌<◌, Result, length, refl}
use Rattle.std.specs.Prelude.{List, codes, IfOk, IfSome}
use Rattle.rsml_base.specs.declared.no_memory.NoMemory.{NoMemory}
use Rattle.rsml_io.specs.declared.read_error.ReadError.{ReadError}
use Rattle.rsml_io.specs.declared.read_error.ReadError.TheVariants as errors
use Rattle.rsml_meaning.specs.EventLines.{Bytes}
use Rattle.rsml_syntax.specs.declared.syntax.Spec.{Spec}
use Rattle.answering.specs.Lines as lines
use Rattle.answering.specs.Outcomes.{answer_of, greatest_file}
use Rattle.answering.specs.Uses.{FileUse, ReadRefused}
use Rattle.answering.specs.Writing.{IsWritten}
use Rattle.answering.specs.declared.outcome.Outcome.{Outcome}
use Rattle.answering.specs.declared.status.Status.{Status}
use Rattle.answering.specs.declared.status.Status.TheVariants as status
use Rattle.checking.specs.Outputs as checks
use Rattle.comparing.specs.Outputs.{SameOutput}
use Rattle.comparing.specs.Outputs as comparing
use Rattle.proving.specs.Outputs.{ClaimsFault, ClaimsOutput, ProveOutput}
use Rattle.claim_syntax.specs.declared.claim.Claim.{Claim}
use Rattle.proving.specs.Outputs as proving
use Rattle.pairing.specs.Outputs.{SecondOutput}
use Rattle.pairing.specs.Steps.{CameTo, ComesOf, ShownOutput}
use Rattle.pairing.specs.declared.pair_action.PairAction.{PairAction}
use Rattle.pairing.specs.declared.pair_action.PairAction.TheVariants as action
use Rattle.pairing.proofs.CameLemmas.{came_unread, came_written}
use Rattle.pairing.proofs.ShowLemmas.{report_of, shown_bare}
use Rattle.pairing.proofs.StatusLemmas.{IsOfPair, fault_answers, is_of_text}
use Rattle.pairing.proofs.StatusLemmas as statuses

-- what is written of a second file that is too long
abbrev pub long_second : Bytes
long_second = codes "file 2\nfault long\n"

-- of a second text that is too long
long_compared : (s : Spec) (text : Bytes) → greatest_file < length text → SameOutput s text status.TooLong long_second
long_compared s text l = comparing.unfit (codes "fault long\n") (checks.TextFault.too_long l refl refl) refl

long_proved : (s : Spec) (text : Bytes) → greatest_file < length text → ProveOutput s text status.TooLong long_second
long_proved s text l = proving.fault lines.long (proving.too_long l refl refl) refl

long_output : (does : PairAction) (s : Spec) (text : Bytes) → greatest_file < length text → SecondOutput does s text status.TooLong long_second
long_output action.Prove s text l = long_proved s text l
long_output action.ExplainProve s text l = long_proved s text l
long_output action.Same s text l = long_compared s text l
long_output action.ExplainSame s text l = long_compared s text l

pub second_unread : (does : PairAction) (s : Spec) (f : FileUse) (error : ReadError) (came : Result Outcome NoMemory) → ComesOf long_second error came
    → (error ≡ errors.ReadFault → ReadRefused f) → (error ≡ errors.TooLong → IfSome f.told (λ text. greatest_file < length text))
    → IfOk came (CameTo (ShownOutput does s) f)
second_unread does s f error came h =
    came_unread (ShownOutput does s) f long_second
    (λ text l. shown_bare does (SecondOutput does s text status.TooLong) long_second (long_output does s text l)) error came h

-- The statuses of what is answered and written of a second text.

pair_answers : (s t : Spec) (answer : Status) (bytes : Bytes) → comparing.PairOutput s t answer bytes → IsOfPair answer
pair_answers s t answer bytes (comparing.unlike _ e _) = statuses.refused e
pair_answers s t answer bytes (comparing.uncertified _ _ _ e _) = statuses.refused e
pair_answers s t answer bytes (comparing.different _ _ _ _ e _) = statuses.refused e
pair_answers s t answer bytes (comparing.same _ _ _ e _) = statuses.done e

same_answers : (s : Spec) (other : Bytes) (answer : Status) (bytes : Bytes) → SameOutput s other answer bytes → IsOfPair answer
same_answers s other answer bytes (comparing.unfit line fault _) = fault_answers other answer line fault
same_answers s other answer bytes (comparing.compared t _ _ o) = pair_answers s t answer bytes o

claims_answers : (s : Spec) (cs : List Claim) (answer : Status) (bytes : Bytes) → ClaimsOutput s cs answer bytes → IsOfPair answer
claims_answers s cs answer bytes (proving.uncertified _ _ e _) = statuses.refused e
claims_answers s cs answer bytes (proving.initial _ _ _ e _) = statuses.refused e
claims_answers s cs answer bytes (proving.breaks _ _ _ _ _ e _) = statuses.refused e
claims_answers s cs answer bytes (proving.proved _ e _) = statuses.done e

claims_fault_answers : (s : Spec) (claims : Bytes) (answer : Status) (line : Bytes) → ClaimsFault s claims answer line → IsOfPair answer
claims_fault_answers s claims answer line (proving.too_long _ e _) = statuses.long e
claims_fault_answers s claims answer line (proving.unread _ e) = statuses.fault e
claims_fault_answers s claims answer line (proving.other _ _ _ _ e _) = statuses.fault e
claims_fault_answers s claims answer line (proving.broken _ _ _ e) = statuses.fault e

prove_answers : (s : Spec) (claims : Bytes) (answer : Status) (bytes : Bytes) → ProveOutput s claims answer bytes → IsOfPair answer
prove_answers s claims answer bytes (proving.fault line f _) = claims_fault_answers s claims answer line f
prove_answers s claims answer bytes (proving.judged cs _ o) = claims_answers s cs answer bytes o

second_answers : (does : PairAction) (s : Spec) (other : Bytes) (answer : Status) (bytes : Bytes) → SecondOutput does s other answer bytes → IsOfPair answer
second_answers action.Prove s other answer bytes h = prove_answers s other answer bytes h
second_answers action.ExplainProve s other answer bytes h = prove_answers s other answer bytes h
second_answers action.Same s other answer bytes h = same_answers s other answer bytes h
second_answers action.ExplainSame s other answer bytes h = same_answers s other answer bytes h

pub shown_answers : (does : PairAction) (s : Spec) (other : Bytes) (answer : Status) (bytes : Bytes) → ShownOutput does s other answer bytes → IsOfPair answer
shown_answers does s other answer bytes h =
    let r = report_of does (SecondOutput does s other answer) bytes h in
    second_answers does s other answer r.0 r.1

pub second_written : (does : PairAction) (s : Spec) (f : FileUse) (came : Result Outcome NoMemory) → IfOk came (CameTo (ShownOutput does s) f)
    → IfOk came (λ o. IsWritten (answer_of o))
second_written does s f came h =
    came_written (ShownOutput does s) f (λ text answer bytes o. is_of_text answer (shown_answers does s text answer bytes o)) came h
