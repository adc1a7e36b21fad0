-- What the commands that act on one file answer and write of texts.
use Rattle.std.proofs.Common.{◌≡◌, ◌<◌, ℕ, Some, Result, length, refl, sym, ap, ◌∙◌, subst, lit<}
use Rattle.std.specs.Prelude.{IfOk, IfSome, Contains}
use Rattle.rsml_base.specs.declared.no_memory.NoMemory.{NoMemory}
use Rattle.rsml_io.specs.declared.read_error.ReadError.{ReadError}
use Rattle.rsml_io.specs.declared.read_error.ReadError.TheVariants as errors
use Rattle.rsml_meaning.specs.EventLines.{Bytes}
use Rattle.rsml_syntax.specs.declared.syntax.Spec.{Spec}
use Rattle.answering.specs.Outcomes.{CameTo, ComesOf, IsOfTexts, answer_of, bytes_of, greatest_file}
use Rattle.answering.specs.Uses.{FileUse, ReadRefused}
use Rattle.answering.specs.Writing.{IsWritten}
use Rattle.answering.specs.declared.outcome.Outcome.{Outcome}
use Rattle.answering.specs.declared.status.Status.{Status}
use Rattle.answering.specs.declared.status.Status.TheVariants as status
use Rattle.answering.proofs.OutcomeLemmas.{came_read, came_unread, came_written}
use Rattle.checking.specs.Outputs.{TextFault, SpecificationOutput, CheckOutput, FormatOutput, MigrateOutput}
use Rattle.checking.specs.Outputs as output
use Rattle.checking.proofs.CheckLemmas.{checks_texts, formats_texts, migrates_texts}
use Rattle.explaining.proofs.ExplainLemmas.{explains_texts}
use Rattle.gapping.specs.Outputs.{GapsOutput, tabulated}
use Rattle.gapping.specs.Outputs as gapping
use Rattle.gapping.proofs.GapLemmas.{gaps_texts, told_status}
use Rattle.gapping.proofs.ExplainedLemmas.{explained_gaps_texts}
use Rattle.following.specs.declared.event_action.EventAction.{EventAction}
use Rattle.pairing.specs.declared.pair_action.PairAction.{PairAction}
use Rattle.rsml.specs.Commands.{Command, act, follow, pair, specification_file, Names}
use Rattle.rsml.specs.Commands as commands
use Rattle.rsml.specs.Output.{ActionOutput}
use Rattle.rsml.specs.Promises.{judged_answers, layout_answers, answers_of}
use Rattle.rsml.specs.declared.command.Action.{Action}
use Rattle.rsml.specs.declared.command.Action.TheVariants as action

-- each answers and writes what may be answered and written of texts
pub acts_texts : (does : Action) → IsOfTexts (ActionOutput does)
acts_texts action.Check = checks_texts
acts_texts action.Explain = explains_texts
acts_texts action.Format = formats_texts
acts_texts action.Migrate = migrates_texts
acts_texts (action.Gaps most) = gaps_texts most
acts_texts (action.ExplainGaps most) = explained_gaps_texts most

-- what it came to on its file, by the text that was read, or by why it was not
pub action_came : (does : Action) (f : FileUse) (text shown : Bytes) (r : Result Outcome NoMemory) → IfSome f.told (λ told. text ≡ told) → shown ≡ text
    → IfOk r (λ o. ActionOutput does shown (answer_of o) (bytes_of o)) → IfOk r (CameTo (ActionOutput does) f)
action_came does f text shown r told same h =
    came_read (ActionOutput does) f text r told (subst (λ (t : Bytes). IfOk r (λ o. ActionOutput does t (answer_of o) (bytes_of o))) same h)

pub action_unread : (does : Action) (f : FileUse) (error : ReadError) (r : Result Outcome NoMemory) → ComesOf error r → (error ≡ errors.ReadFault → ReadRefused f)
    → (error ≡ errors.TooLong → IfSome f.told (λ text. greatest_file < length text)) → IfOk r (CameTo (ActionOutput does) f)
action_unread does = came_unread (ActionOutput does)

pub action_written : (does : Action) (f : FileUse) (r : Result Outcome NoMemory) → IfOk r (CameTo (ActionOutput does) f)
    → IfOk r (λ o. IsWritten (answer_of o))
action_written does f = came_written (ActionOutput does) f (acts_texts does)

-- The statuses with which it can end.

of_specification : (s : Spec) (answer : Status) (bytes : Bytes) → SpecificationOutput s answer bytes → Contains judged_answers answer
of_specification s answer bytes (output.refused _ e) = (1, lit< tt, sym e)
of_specification s answer bytes (output.certified _ e) = (0, lit< tt, sym e)

of_fault : (text : Bytes) (answer : Status) (bytes : Bytes) → TextFault text answer bytes → Contains judged_answers answer
of_fault text answer bytes (output.TextFault.too_long _ e _) = (3, lit< tt, sym e)
of_fault text answer bytes (output.TextFault.unread _ e) = (2, lit< tt, sym e)
of_fault text answer bytes (output.broken _ _ _ e) = (2, lit< tt, sym e)

of_check : (text : Bytes) (answer : Status) (bytes : Bytes) → CheckOutput text answer bytes → Contains judged_answers answer
of_check text answer bytes (output.fault f) = of_fault text answer bytes f
of_check text answer bytes (output.judged s _ _ o) = of_specification s answer bytes o

of_format : (text : Bytes) (answer : Status) (bytes : Bytes) → FormatOutput text answer bytes → Contains layout_answers answer
of_format text answer bytes (output.FormatOutput.too_long _ e _) = (2, lit< tt, sym e)
of_format text answer bytes (output.FormatOutput.unread _ e) = (1, lit< tt, sym e)
of_format text answer bytes (output.formatted s _ e _) = (0, lit< tt, sym e)

of_migrate : (text : Bytes) (answer : Status) (bytes : Bytes) → MigrateOutput text answer bytes → Contains layout_answers answer
of_migrate text answer bytes (output.MigrateOutput.too_long _ e _) = (2, lit< tt, sym e)
of_migrate text answer bytes (output.MigrateOutput.unread _ e) = (1, lit< tt, sym e)
of_migrate text answer bytes (output.migrated s _ e _) = (0, lit< tt, sym e)

of_gaps : (most : ℕ) (text : Bytes) (answer : Status) (bytes : Bytes) → GapsOutput most text answer bytes → Contains judged_answers answer
of_gaps most text answer bytes (gapping.fault f) = of_fault text answer bytes f
of_gaps most text answer bytes (tabulated s _ _ h) =
    subst (λ (a : Status). Contains judged_answers a) (sym h.ends)
    (told_status h.answers (λ a. Contains judged_answers a) (0, lit< tt, refl) (1, lit< tt, refl))

pub of_action : (does : Action) (file text : Bytes) (answer : Status) (bytes : Bytes) → ActionOutput does text answer bytes → Contains (answers_of (act does file)) answer
of_action action.Check file text answer bytes h = of_check text answer bytes h
of_action action.Explain file text answer bytes h = of_check text answer h.report h.reported
of_action action.Format file text answer bytes h = of_format text answer bytes h
of_action action.Migrate file text answer bytes h = of_migrate text answer bytes h
of_action (action.Gaps most) file text answer bytes h = of_gaps most text answer bytes h
of_action (action.ExplainGaps most) file text answer bytes h = of_gaps most text answer h.report h.reported

-- those of a file that is too long, of refused reads and writes, and of memory
pub long_is : (does : Action) (file : Bytes) → Contains (answers_of (act does file)) status.TooLong
long_is action.Check file = (3, lit< tt, refl)
long_is action.Explain file = (3, lit< tt, refl)
long_is action.Format file = (2, lit< tt, refl)
long_is action.Migrate file = (2, lit< tt, refl)
long_is (action.Gaps most) file = (3, lit< tt, refl)
long_is (action.ExplainGaps most) file = (3, lit< tt, refl)

pub read_is : (does : Action) (file : Bytes) → Contains (answers_of (act does file)) status.ReadFault
read_is action.Check file = (4, lit< tt, refl)
read_is action.Explain file = (4, lit< tt, refl)
read_is action.Format file = (3, lit< tt, refl)
read_is action.Migrate file = (3, lit< tt, refl)
read_is (action.Gaps most) file = (4, lit< tt, refl)
read_is (action.ExplainGaps most) file = (4, lit< tt, refl)

pub write_is : (does : Action) (file : Bytes) → Contains (answers_of (act does file)) status.WriteFault
write_is action.Check file = (5, lit< tt, refl)
write_is action.Explain file = (5, lit< tt, refl)
write_is action.Format file = (4, lit< tt, refl)
write_is action.Migrate file = (4, lit< tt, refl)
write_is (action.Gaps most) file = (5, lit< tt, refl)
write_is (action.ExplainGaps most) file = (5, lit< tt, refl)

pub memory_is : (does : Action) (file : Bytes) → Contains (answers_of (act does file)) status.NoMemory
memory_is action.Check file = (6, lit< tt, refl)
memory_is action.Explain file = (6, lit< tt, refl)
memory_is action.Format file = (5, lit< tt, refl)
memory_is action.Migrate file = (5, lit< tt, refl)
memory_is (action.Gaps most) file = (6, lit< tt, refl)
memory_is (action.ExplainGaps most) file = (6, lit< tt, refl)

-- The files that a command names.

pub names_specification : (c : Command) (file name : Bytes) → specification_file c ≡ Some file → name ≡ file → Names c name
names_specification c file name is e = commands.specification c name (is ∙ ap Some (sym e))

pub names_events : (c : Command) (does : EventAction) (file events name : Bytes) → c ≡ follow does file events → name ≡ events → Names c name
names_events c does file events name is e =
    subst (λ (d : Command). Names d name) (sym is) (subst (λ (x : Bytes). Names (follow does file events) x) (sym e) (commands.events does file events))

pub names_other : (c : Command) (does : PairAction) (file other name : Bytes) → c ≡ pair does file other → name ≡ other → Names c name
names_other c does file other name is e =
    subst (λ (d : Command). Names d name) (sym is) (subst (λ (x : Bytes). Names (pair does file other) x) (sym e) (commands.other does file other))
