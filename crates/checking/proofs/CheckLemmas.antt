-- What these commands come to on a text, by what their steps answered.
use Rattle.std.proofs.Common.{◌≡◌, ℕ, Vec, Result, Ok, Err, refl, sym, subst}
use Rattle.std.specs.Prelude.{IfOk}
use Rattle.std.specs.declared.alloc.Global.{Global}
use Rattle.rsml_base.specs.declared.no_memory.NoMemory.{NoMemory}
use Rattle.rsml_meaning.specs.EventLines.{Bytes}
use Rattle.rsml_syntax.specs.declared.syntax.Spec.{Spec}
use Rattle.rsml_syntax.specs.grammar.Grammar.{tokens_of}
use Rattle.rsml_syntax.specs.grammar.Layout.{layout}
use Rattle.rsml_syntax.specs.grammar.WellFormed.{WellFormed}
use Rattle.judging.specs.Judgements.{IsJudgement}
use Rattle.judging.specs.Steps.{IsRead, IsReadByFirst}
use Rattle.judging.specs.declared.judging.Judgement.{Judgement}
use Rattle.judging.specs.declared.judging.Judgement.TheVariants as judgement
use Rattle.judging.specs.declared.texts.ReadText.{ReadText}
use Rattle.judging.specs.declared.texts.ReadText.TheVariants as texts
use Rattle.answering.specs.Outcomes.{IsOfTexts, answer_of, bytes_of}
use Rattle.answering.specs.Writing.{IsOfText}
use Rattle.answering.specs.declared.outcome.Outcome.{Outcome}
use Rattle.answering.specs.declared.outcome.Outcome.TheVariants as outcome
use Rattle.answering.specs.declared.status.Status.{Status}
use Rattle.answering.specs.declared.status.Status.TheVariants as status
use Rattle.answering.proofs.OutcomeLemmas.{fault_of_text, done_of_text, refused_of_text, long_of_text}
use Rattle.checking.specs.Outputs.{TextFault, SpecificationOutput, CheckOutput, FormatOutput, MigrateOutput}
use Rattle.checking.specs.Outputs as output
use Rattle.checking.specs.Steps.{outcome_of, IsFormed, IsLaidOut}

-- `check`.

-- by what the text is judged to be
pub judged_output : (text : Bytes) (j : Judgement) → IsJudgement text j → CheckOutput text (answer_of (outcome_of j)) (bytes_of (outcome_of j))
judged_output text judgement.TooLong h = output.fault (output.TextFault.too_long h refl refl)
judged_output text (judgement.Unread line) h = output.fault (output.TextFault.unread h refl)
judged_output text (judgement.Broken line) h = output.fault (output.broken h.0 h.1 h.2 refl)
judged_output text (judgement.Refused report checked verdicts) h = output.judged h.0 h.1 h.2.1 (output.refused h.2.2 refl)
judged_output text (judgement.Certified report checked) h = output.judged h.0 h.1 h.2.1 (output.certified h.2.2 refl)

pub check_output : (text : Bytes) (j : Judgement) (o : Outcome) → o ≡ outcome_of j → IsJudgement text j → CheckOutput text (answer_of o) (bytes_of o)
check_output text j o e h = subst (λ (x : Outcome). CheckOutput text (answer_of x) (bytes_of x)) (sym e) (judged_output text j h)

-- Layouts.

-- what was read is well-formed
pub read_formed : (text : Bytes) (r : ReadText) → IsRead text r → IsFormed r
read_formed text (texts.Specification s) h = h.reads.2.well_formed
read_formed text (texts.Fault line) h = tt

pub first_formed : (text : Bytes) (r : ReadText) → IsReadByFirst text r → IsFormed r
first_formed text (texts.Specification s) h = h.reads.well_formed
first_formed text (texts.Fault line) h = tt

pub formed_is : (r : ReadText) (s : Spec) → r ≡ texts.Specification s → IsFormed r → WellFormed s
formed_is r s e h = subst (λ (x : ReadText). IsFormed x) e h

-- by what was read
specification_laid_out : (s : Spec) (r : Result Outcome NoMemory) → IfOk r (λ o. answer_of o ≡ status.Done) → IfOk r (λ o. bytes_of o ≡ layout (tokens_of s))
    → IfOk r (IsLaidOut (texts.Specification s))
specification_laid_out s (Ok o) e t = (e, t)
specification_laid_out s (Err x) e t = e

pub laid_out : (read : ReadText) (s : Spec) (r : Result Outcome NoMemory) → read ≡ texts.Specification s → IfOk r (λ o. answer_of o ≡ status.Done)
    → IfOk r (λ o. bytes_of o ≡ layout (tokens_of s)) → IfOk r (IsLaidOut read)
laid_out read s r f e t = subst (λ (x : ReadText). IfOk r (IsLaidOut x)) (sym f) (specification_laid_out s r e t)

pub fault_laid_out : (read : ReadText) (line : Vec ℕ Global) → read ≡ texts.Fault line → IsLaidOut read (outcome.Text status.SpecFault line)
fault_laid_out read line e = subst (λ (x : ReadText). IsLaidOut x (outcome.Text status.SpecFault line)) (sym e) refl

-- `format`.

formatted : (text : Bytes) (read : ReadText) (o : Outcome) → IsRead text read → IsLaidOut read o → FormatOutput text (answer_of o) (bytes_of o)
formatted text (texts.Specification s) o is h = output.formatted s is h.0 h.1
formatted text (texts.Fault line) o is h = subst (λ (x : Outcome). FormatOutput text (answer_of x) (bytes_of x)) (sym h) (output.FormatOutput.unread is refl)

pub format_output : (text : Bytes) (read : ReadText) (r : Result Outcome NoMemory) → IsRead text read → IfOk r (IsLaidOut read)
    → IfOk r (λ o. FormatOutput text (answer_of o) (bytes_of o))
format_output text read (Ok o) is h = formatted text read o is h
format_output text read (Err x) is h = h

-- `migrate`.

migrated : (text : Bytes) (read : ReadText) (o : Outcome) → IsReadByFirst text read → IsLaidOut read o → MigrateOutput text (answer_of o) (bytes_of o)
migrated text (texts.Specification s) o is h = output.migrated s is h.0 h.1
migrated text (texts.Fault line) o is h = subst (λ (x : Outcome). MigrateOutput text (answer_of x) (bytes_of x)) (sym h) (output.MigrateOutput.unread is refl)

pub migrate_output : (text : Bytes) (read : ReadText) (r : Result Outcome NoMemory) → IsReadByFirst text read → IfOk r (IsLaidOut read)
    → IfOk r (λ o. MigrateOutput text (answer_of o) (bytes_of o))
migrate_output text read (Ok o) is h = migrated text read o is h
migrate_output text read (Err x) is h = h

-- They answer and write what may be answered and written of texts.

pub fault_answers : (text : Bytes) (answer : Status) (bytes : Bytes) → TextFault text answer bytes → IsOfText answer
fault_answers text answer bytes (output.TextFault.too_long _ e _) = long_of_text answer e
fault_answers text answer bytes (output.TextFault.unread _ e) = fault_of_text answer e
fault_answers text answer bytes (output.broken s t _ e) = fault_of_text answer e

specification_answers : (s : Spec) (answer : Status) (bytes : Bytes) → SpecificationOutput s answer bytes → IsOfText answer
specification_answers s answer bytes (output.refused _ e) = refused_of_text answer e
specification_answers s answer bytes (output.certified _ e) = done_of_text answer e

pub check_answers : (text : Bytes) (answer : Status) (bytes : Bytes) → CheckOutput text answer bytes → IsOfText answer
check_answers text answer bytes (output.fault f) = fault_answers text answer bytes f
check_answers text answer bytes (output.judged s t keeps o) = specification_answers s answer bytes o

format_answers : (text : Bytes) (answer : Status) (bytes : Bytes) → FormatOutput text answer bytes → IsOfText answer
format_answers text answer bytes (output.FormatOutput.too_long _ e _) = long_of_text answer e
format_answers text answer bytes (output.FormatOutput.unread _ e) = fault_of_text answer e
format_answers text answer bytes (output.formatted s t e _) = done_of_text answer e

migrate_answers : (text : Bytes) (answer : Status) (bytes : Bytes) → MigrateOutput text answer bytes → IsOfText answer
migrate_answers text answer bytes (output.MigrateOutput.too_long _ e _) = long_of_text answer e
migrate_answers text answer bytes (output.MigrateOutput.unread _ e) = fault_of_text answer e
migrate_answers text answer bytes (output.migrated s t e _) = done_of_text answer e

pub checks_texts : IsOfTexts CheckOutput
checks_texts = record { answers = check_answers; long = λ text l. output.fault (output.TextFault.too_long l refl refl) }

pub formats_texts : IsOfTexts FormatOutput
formats_texts = record { answers = format_answers; long = λ text l. output.FormatOutput.too_long l refl refl }

pub migrates_texts : IsOfTexts MigrateOutput
migrates_texts = record { answers = migrate_answers; long = λ text l. output.MigrateOutput.too_long l refl refl }
