-- What `explain same` comes to on a second text, by what its steps answered.
use Rattle.std.proofs.Common.{◌≡◌, Result, Ok, Err, sym, subst}
use Rattle.std.specs.Prelude.{IfOk}
use Rattle.rsml_base.specs.declared.no_memory.NoMemory.{NoMemory}
use Rattle.rsml_syntax.specs.declared.syntax.Spec.{Spec}
use Rattle.rsml_meaning.specs.EventLines.{Bytes}
use Rattle.spec_frames.specs.Frames.{HaveSameFrame}
use Rattle.judging.specs.Judgements.{IsKept}
use Rattle.judging.specs.declared.kept_text.Kept.TheVariants as kept
use Rattle.answering.specs.Outcomes.{answer_of, bytes_of}
use Rattle.answering.specs.declared.outcome.Outcome.{Outcome}
use Rattle.answering.specs.declared.status.Status.{Status}
use Rattle.checking.specs.Outputs.{TextFault}
use Rattle.explaining.specs.Outputs.{WithNotes}
use Rattle.comparing.specs.Outputs.{PairOutput, SameOutput, of_second}
use Rattle.comparing.specs.Outputs as output
use Rattle.comparing.specs.Steps.{IsComparison, IsExplainedUnfit}
use Rattle.comparing.specs.declared.comparison.Comparison.{Comparison}
use Rattle.comparing.specs.declared.comparison.Comparison.TheVariants as comparison

-- what is written before the comment lines is so
noted : (Is As : Bytes → Type 0) (bytes : Bytes) → (h : WithNotes Is bytes) → As h.report → WithNotes As bytes
noted Is As bytes h there = record { report = h.report; notes = h.notes; split = h.split; reported = there; comments = h.comments }

pub unfit_explained : (s : Spec) (text line : Bytes) (answer : Status) (r : Result Outcome NoMemory) → TextFault text answer line → IfOk r (IsExplainedUnfit answer line)
    → IfOk r (λ o. WithNotes (SameOutput s text (answer_of o)) (bytes_of o))
unfit_explained s text line answer (Ok o) f h =
    subst (λ (a : Status). WithNotes (SameOutput s text a) (bytes_of o)) (sym h.0)
    (noted (λ bytes. bytes ≡ of_second line) (SameOutput s text answer) (bytes_of o) h.1 (output.unfit line f h.1.reported))
unfit_explained s text line answer (Err x) f h = h

pub compared_explained : (s t : Spec) (text : Bytes) (r : Result Outcome NoMemory) → IsKept text (kept.Checked t)
    → IfOk r (λ o. WithNotes (PairOutput s t (answer_of o)) (bytes_of o)) → IfOk r (λ o. WithNotes (SameOutput s text (answer_of o)) (bytes_of o))
compared_explained s t text (Ok o) is h = noted (PairOutput s t (answer_of o)) (SameOutput s text (answer_of o)) (bytes_of o) h (output.compared t is.0 is.1 h.reported)
compared_explained s t text (Err x) is h = h

-- two specifications with a difference have one frame
pub of_one_frame : (s t : Spec) (c : Comparison) (text : _) → c ≡ comparison.Different text → IsComparison s t c → HaveSameFrame s t
of_one_frame s t c text e h = let is : IsComparison s t (comparison.Different text) = subst (IsComparison s t) e h in is.0
