-- Comment lines behind what a command writes that follows an event file.
use Rattle.std.proofs.Common.{◌≡◌, ◌+◌, ◌++◌, length, take, Option, Some, None, refl, sym, ap, ◌∙◌, arith, append_assoc, length-append, subst}
use Rattle.std.proofs.Math.Seq.{take-append-add}
use Rattle.rsml_io.specs.Writing.{appended, AppendsProperPrefix}
use Rattle.rsml_meaning.specs.EventLines.{Bytes}
use Rattle.source_notes.specs.Comments.{AreComments}
use Rattle.answering.specs.Uses.{SinkUse}
use Rattle.answering.specs.Writing.{HasWritten}
use Rattle.answering.specs.declared.status.Status.{Status}
use Rattle.explaining.proofs.ExplainLemmas.{without_notes}
use Rattle.following.specs.Outputs.{Shows}
use Rattle.following.specs.declared.event_action.EventAction.{EventAction}
use Rattle.following.specs.declared.event_action.EventAction.TheVariants as action

-- a text alone is what any action may make of it
pub shown_bare : (does : EventAction) (Is : Bytes → Type 0) (bytes : Bytes) → Is bytes → Shows does Is bytes
shown_bare action.Simulate Is bytes h = h
shown_bare action.Cover Is bytes h = h
shown_bare action.ExplainCover Is bytes h = without_notes Is bytes h

-- with comment lines behind it, where the action asks for them
pub shown_noted : (does : EventAction) (Is : Bytes → Type 0) (report notes : Bytes) → does ≡ action.ExplainCover → Is report → AreComments notes
    → Shows does Is (report ++ notes)
shown_noted does Is report notes e h are =
    let noted : Shows action.ExplainCover Is (report ++ notes) = record { report = report; notes = notes; split = refl; reported = h; comments = are } in
    subst (λ (d : EventAction). Shows d Is (report ++ notes)) (sym e) noted

-- of what is such and thus is something else
pub shown_as : (does : EventAction) (Is Be : Bytes → Type 0) → ((b : Bytes) → Is b → Be b) → (bytes : Bytes) → Shows does Is bytes → Shows does Be bytes
shown_as action.Simulate Is Be f bytes h = f bytes h
shown_as action.Cover Is Be f bytes h = f bytes h
shown_as action.ExplainCover Is Be f bytes h =
    record { report = h.report; notes = h.notes; split = h.split; reported = f h.report h.reported; comments = h.comments }

-- what holds of the text that is shown
pub report_of : (does : EventAction) (Is : Bytes → Type 0) (bytes : Bytes) → Shows does Is bytes → (report : Bytes) × Is report
report_of action.Simulate Is bytes h = (bytes, h)
report_of action.Cover Is bytes h = (bytes, h)
report_of action.ExplainCover Is bytes h = (h.report, h.reported)

-- What is written behind what was written.

pub written_behind : (old : Option Bytes) (report notes : Bytes) → appended (appended old report) notes ≡ appended old (report ++ notes)
written_behind None report notes = refl
written_behind (Some w) report notes = ap Some (append_assoc w report notes)

pub part_behind : (old new : Option Bytes) (report notes : Bytes) → AppendsProperPrefix (appended old report) new notes
    → AppendsProperPrefix old new (report ++ notes)
part_behind old new report notes h = (
  length report + h.0,
  omega (arith, h.1, length-append report notes),
  h.2 ∙ written_behind old report (take h.0 notes) ∙ ap (appended old) (sym (take-append-add report notes h.0)),
)

-- what was written with a status that is another one
pub with_status : (k : SinkUse) (bytes : Bytes) (asked wanted answer : Status) → asked ≡ wanted → HasWritten k bytes asked answer
    → HasWritten k bytes wanted answer
with_status k bytes asked wanted answer e h = subst (λ (a : Status). HasWritten k bytes a answer) e h
