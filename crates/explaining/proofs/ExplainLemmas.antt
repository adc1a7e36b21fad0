-- What `explain` comes to on a text, by what its steps answered.
use Rattle.std.proofs.Common.{◌≡◌, ℕ, [], Vec, Result, Ok, Err, refl, sym, ap, ◌∙◌, subst, append-nil}
use Rattle.std.specs.Prelude.{◌++◌, IfOk}
use Rattle.std.specs.declared.alloc.Global.{Global}
use Rattle.rsml_base.specs.declared.no_memory.NoMemory.{NoMemory}
use Rattle.rsml_meaning.specs.EventLines.{Bytes}
use Rattle.source_notes.specs.Comments.{AreComments}
use Rattle.judging.specs.Judgements.{IsJudgement}
use Rattle.judging.specs.declared.judging.Judgement.{Judgement}
use Rattle.answering.specs.Lines as lines
use Rattle.answering.specs.Outcomes.{IsOfTexts, answer_of, bytes_of}
use Rattle.answering.specs.Writing.{IsOfText}
use Rattle.answering.specs.declared.outcome.Outcome.{Outcome}
use Rattle.answering.specs.declared.outcome.Outcome.TheVariants as outcome
use Rattle.answering.specs.declared.status.Status.{Status}
use Rattle.answering.specs.declared.status.Status.TheVariants as status
use Rattle.checking.specs.Outputs.{CheckOutput}
use Rattle.checking.specs.Outputs as output
use Rattle.checking.specs.Steps.{outcome_of}
use Rattle.checking.proofs.CheckLemmas.{check_output, check_answers}
use Rattle.explaining.specs.Outputs.{ExplainOutput, WithNotes}
use Rattle.explaining.specs.Steps.{IsFollowed}

-- no comment lines
no_comments : AreComments []
no_comments = record { lines = []; plain = refl; spelled = refl }

-- a report without comment lines
pub without_notes : (Is : Bytes → Type 0) (bytes : Bytes) → Is bytes → WithNotes Is bytes
without_notes Is bytes h = record { report = bytes; notes = []; split = sym (append-nil bytes); reported = h; comments = no_comments }

-- what `check` answers and writes, without comment lines
bare_output : (text : Bytes) (answer : Status) (bytes : Bytes) → CheckOutput text answer bytes → ExplainOutput text answer bytes
bare_output text answer bytes h = without_notes (CheckOutput text answer) bytes h

-- by what followed
followed : (text notes : Bytes) (o x : Outcome) → CheckOutput text (answer_of o) (bytes_of o) → AreComments notes → IsFollowed o notes x
    → ExplainOutput text (answer_of x) (bytes_of x)
followed text notes (outcome.Text answer report) x checked are h = record {
  report = report.items;
  notes = notes;
  split = h.1;
  reported = subst (λ (a : Status). CheckOutput text a report.items) (sym h.0) checked;
  comments = are;
}
followed text notes outcome.Unread x checked are h =
    subst (λ (y : Outcome). ExplainOutput text (answer_of y) (bytes_of y)) (sym h) (bare_output text status.ReadFault lines.read checked)
followed text notes outcome.Long x checked are h =
    subst (λ (y : Outcome). ExplainOutput text (answer_of y) (bytes_of y)) (sym h) (bare_output text status.TooLong lines.long checked)

-- with the same status
followed_status : (o x : Outcome) (notes : Bytes) → IsFollowed o notes x → answer_of x ≡ answer_of o
followed_status (outcome.Text answer report) x notes h = h.0
followed_status outcome.Unread x notes h = ap answer_of h
followed_status outcome.Long x notes h = ap answer_of h

pub explain_status : (notes : Bytes) (j : Judgement) (o : Outcome) (r : Result Outcome NoMemory) → o ≡ outcome_of j → IfOk r (IsFollowed o notes)
    → IfOk r (λ x. answer_of x ≡ answer_of (outcome_of j))
explain_status notes j o (Ok x) e h = followed_status o x notes h ∙ ap answer_of e
explain_status notes j o (Err x) e h = h

pub explain_output : (text notes : Bytes) (j : Judgement) (o : Outcome) (r : Result Outcome NoMemory) → IsJudgement text j → o ≡ outcome_of j
    → AreComments notes → IfOk r (IsFollowed o notes) → IfOk r (λ x. ExplainOutput text (answer_of x) (bytes_of x))
explain_output text notes j o (Ok x) is e are h = followed text notes o x (check_output text j o e is) are h
explain_output text notes j o (Err x) is e are h = h

-- It answers and writes what may be answered and written of texts.

explain_answers : (text : Bytes) (answer : Status) (bytes : Bytes) → ExplainOutput text answer bytes → IsOfText answer
explain_answers text answer bytes h = check_answers text answer h.report h.reported

pub explains_texts : IsOfTexts ExplainOutput
explains_texts = record { answers = explain_answers; long = λ text l. bare_output text status.TooLong lines.long (output.fault (output.TextFault.too_long l refl refl)) }

-- The steps of what follows.

pub text_followed : (o : Outcome) (answer : Status) (was is : Vec ℕ Global) (more : Bytes) → o ≡ outcome.Text answer was → is.items ≡ was.items ++ more
    → IsFollowed o more (outcome.Text answer is)
text_followed o answer was is more e h =
    let done : IsFollowed (outcome.Text answer was) more (outcome.Text answer is) = (refl, h) in
    subst (λ (x : Outcome). IsFollowed x more (outcome.Text answer is)) (sym e) done

pub unread_followed : (o : Outcome) (more : Bytes) → o ≡ outcome.Unread → IsFollowed o more outcome.Unread
unread_followed o more e = subst (λ (x : Outcome). IsFollowed x more outcome.Unread) (sym e) refl

pub long_followed : (o : Outcome) (more : Bytes) → o ≡ outcome.Long → IsFollowed o more outcome.Long
long_followed o more e = subst (λ (x : Outcome). IsFollowed x more outcome.Long) (sym e) refl
