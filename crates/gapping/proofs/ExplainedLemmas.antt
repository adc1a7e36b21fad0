-- What `explain gaps` comes to on a text, by what its steps answered.
use Rattle.std.proofs.Common.{◌≡◌, ℕ, Vec, Result, Ok, Err, refl, sym, subst}
use Rattle.std.specs.Prelude.{IfOk}
use Rattle.std.specs.declared.alloc.Global.{Global}
use Rattle.rsml_base.specs.declared.no_memory.NoMemory.{NoMemory}
use Rattle.rsml_syntax.specs.declared.syntax.Spec.{Spec}
use Rattle.rsml_meaning.specs.EventLines.{Bytes}
use Rattle.judging.specs.Judgements.{IsKept}
use Rattle.judging.specs.Texts.{IsTextOf}
use Rattle.judging.specs.declared.kept_text.Kept.{Kept}
use Rattle.judging.specs.declared.kept_text.Kept.TheVariants as kept
use Rattle.answering.specs.Lines as lines
use Rattle.answering.specs.Outcomes.{IsOfTexts, answer_of, bytes_of}
use Rattle.answering.specs.Writing.{IsOfText}
use Rattle.answering.specs.declared.outcome.Outcome.{Outcome}
use Rattle.answering.specs.declared.outcome.Outcome.TheVariants as outcome
use Rattle.answering.specs.declared.status.Status.{Status}
use Rattle.answering.specs.declared.status.Status.TheVariants as status
use Rattle.explaining.specs.Outputs.{WithNotes}
use Rattle.explaining.proofs.ExplainLemmas.{without_notes}
use Rattle.gapping.specs.Explained.{ExplainGapsOutput, IsExplainedFault}
use Rattle.gapping.specs.Outputs.{TellsGaps, GapsOutput, fault_of, tabulated}
use Rattle.gapping.proofs.GapLemmas.{long_output, unread_output, broken_output, gaps_texts, done_output, refused_output}

-- what is written before the comment lines is so
noted : (Is As : Bytes → Type 0) (bytes : Bytes) → (h : WithNotes Is bytes) → As h.report → WithNotes As bytes
noted Is As bytes h there = record { report = h.report; notes = h.notes; split = h.split; reported = there; comments = h.comments }

-- By what the text is.

pub long_explained : (most : ℕ) (text : Bytes) (k : Kept) → k ≡ kept.TooLong → IsKept text k
    → ExplainGapsOutput most text (answer_of outcome.Long) (bytes_of outcome.Long)
long_explained most text k e h = without_notes (GapsOutput most text status.TooLong) lines.long (long_output most text k e h)

fault_explained : (most : ℕ) (text line : Bytes) (o : Outcome) → GapsOutput most text status.SpecFault line → IsExplainedFault line o
    → ExplainGapsOutput most text (answer_of o) (bytes_of o)
fault_explained most text line o out h =
    let there = subst (GapsOutput most text status.SpecFault) (sym h.1.reported) out in
    subst (λ (a : Status). WithNotes (GapsOutput most text a) (bytes_of o)) (sym h.0)
    (noted (λ bytes. bytes ≡ line) (GapsOutput most text status.SpecFault) (bytes_of o) h.1 there)

pub unread_explained : (most : ℕ) (text : Bytes) (k : Kept) (line : Vec ℕ Global) (r : Result Outcome NoMemory) → k ≡ kept.Unread line → IsKept text k
    → IfOk r (IsExplainedFault line.items) → IfOk r (λ o. ExplainGapsOutput most text (answer_of o) (bytes_of o))
unread_explained most text k line (Ok o) e is h = fault_explained most text line.items o (unread_output most text k line (fault_of line) e refl is) h
unread_explained most text k line (Err x) e is h = h

pub broken_explained : (most : ℕ) (text : Bytes) (k : Kept) (line : Vec ℕ Global) (r : Result Outcome NoMemory) → k ≡ kept.Broken line → IsKept text k
    → IfOk r (IsExplainedFault line.items) → IfOk r (λ o. ExplainGapsOutput most text (answer_of o) (bytes_of o))
broken_explained most text k line (Ok o) e is h = fault_explained most text line.items o (broken_output most text k line (fault_of line) e refl is) h
broken_explained most text k line (Err x) e is h = h

pub told_explained : (most : ℕ) (text : Bytes) (s : Spec) (r : Result Outcome NoMemory) → IsKept text (kept.Checked s)
    → IfOk r (λ o. WithNotes (TellsGaps s most (answer_of o)) (bytes_of o)) → IfOk r (λ o. ExplainGapsOutput most text (answer_of o) (bytes_of o))
told_explained most text s (Ok o) is h =
    noted (TellsGaps s most (answer_of o)) (GapsOutput most text (answer_of o)) (bytes_of o) h (tabulated s is.0 is.1 h.reported)
told_explained most text s (Err x) is h = h

-- It answers and writes what may be answered and written of texts.

explained_answers : (most : ℕ) (text : Bytes) (answer : Status) (bytes : Bytes) → ExplainGapsOutput most text answer bytes → IsOfText answer
explained_answers most text answer bytes h = (gaps_texts most).answers text answer h.report h.reported

pub explained_gaps_texts : (most : ℕ) → IsOfTexts (ExplainGapsOutput most)
explained_gaps_texts most = record {
  answers = explained_answers most;
  long = λ text l. without_notes (GapsOutput most text status.TooLong) lines.long ((gaps_texts most).long text l);
}

-- Where it ends with Done or with Refused, the text reads as a specification, and what is told of its groups was written.

pub done_explained : (most : ℕ) (text : Bytes) (answer : Status) (bytes : Bytes) → answer ≡ status.Done → ExplainGapsOutput most text answer bytes
    → (s : Spec) × IsTextOf text s × WithNotes (TellsGaps s most answer) bytes
done_explained most text answer bytes e h =
    let r = done_output most text answer h.report e h.reported in
    (r.0, r.1, noted (GapsOutput most text answer) (TellsGaps r.0 most answer) bytes h r.2)

pub refused_explained : (most : ℕ) (text : Bytes) (answer : Status) (bytes : Bytes) → answer ≡ status.Refused → ExplainGapsOutput most text answer bytes
    → (s : Spec) × IsTextOf text s × WithNotes (TellsGaps s most answer) bytes
refused_explained most text answer bytes e h =
    let r = refused_output most text answer h.report e h.reported in
    (r.0, r.1, noted (GapsOutput most text answer) (TellsGaps r.0 most answer) bytes h r.2)
