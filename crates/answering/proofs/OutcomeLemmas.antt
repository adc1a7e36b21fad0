-- What a command came to on its file, from what the reading and the text came to; and what may be written.
use Rattle.std.proofs.Common.{◌≡◌, ◌≢◌, ◌<◌, Result, Ok, Err, length, refl, sym, ◌∙◌, subst}
use Rattle.std.specs.Prelude.{IfOk, IfSome}
use Rattle.rsml_base.specs.declared.no_memory.NoMemory.{NoMemory}
use Rattle.rsml_io.specs.declared.read_error.ReadError.{ReadError}
use Rattle.rsml_io.specs.declared.read_error.ReadError.TheVariants as errors
use Rattle.rsml_meaning.specs.EventLines.{Bytes}
use Rattle.answering.specs.Outcomes.{answer_of, bytes_of, ComesOf, greatest_file, CameTo, IsOfTexts}
use Rattle.answering.specs.Outcomes as outcomes
use Rattle.answering.specs.Uses.{FileUse, ReadRefused}
use Rattle.answering.specs.Writing.{IsWritten, IsOfText}
use Rattle.answering.specs.declared.outcome.Outcome.{Outcome}
use Rattle.answering.specs.declared.outcome.Outcome.TheVariants as outcome
use Rattle.answering.specs.declared.status.Status.{Status}
use Rattle.answering.specs.declared.status.Status.TheVariants as status

-- The status of a text, by cases.

pub of_text : (answer given : Status) → answer ≡ given → given ≢ status.WriteFault → given ≢ status.NoMemory → given ≢ status.ReadFault → given ≢ status.Usage → IsOfText answer
of_text answer given e a b c d = record {
  written = record { no_write_fault = λ f. a (sym e ∙ f); no_memory = λ f. b (sym e ∙ f) };
  no_read_fault = λ f. c (sym e ∙ f);
  no_usage = λ f. d (sym e ∙ f);
}

pub fault_of_text : (answer : Status) → answer ≡ status.SpecFault → IsOfText answer
fault_of_text answer e = of_text answer status.SpecFault e (λ f. absurd (cc f)) (λ f. absurd (cc f)) (λ f. absurd (cc f)) (λ f. absurd (cc f))

pub done_of_text : (answer : Status) → answer ≡ status.Done → IsOfText answer
done_of_text answer e = of_text answer status.Done e (λ f. absurd (cc f)) (λ f. absurd (cc f)) (λ f. absurd (cc f)) (λ f. absurd (cc f))

pub refused_of_text : (answer : Status) → answer ≡ status.Refused → IsOfText answer
refused_of_text answer e = of_text answer status.Refused e (λ f. absurd (cc f)) (λ f. absurd (cc f)) (λ f. absurd (cc f)) (λ f. absurd (cc f))

pub long_of_text : (answer : Status) → answer ≡ status.TooLong → IsOfText answer
long_of_text answer e = of_text answer status.TooLong e (λ f. absurd (cc f)) (λ f. absurd (cc f)) (λ f. absurd (cc f)) (λ f. absurd (cc f))

-- What a command came to on its file.

module _ (OfText : Bytes → Status → Bytes → Type 0) (f : FileUse) where
  -- by what it came to on the text that was read
  pub came_read : (text : Bytes) (r : Result Outcome NoMemory) → IfSome f.told (λ told. text ≡ told)
      → IfOk r (λ o. OfText text (answer_of o) (bytes_of o)) → IfOk r (CameTo OfText f)
  came_read text (Ok o) told h = outcomes.read text told h
  came_read text (Err e) told h = h

  -- by why it was not read
  pub came_unread : (error : ReadError) (r : Result Outcome NoMemory) → ComesOf error r → (error ≡ errors.ReadFault → ReadRefused f)
      → (error ≡ errors.TooLong → IfSome f.told (λ text. greatest_file < length text)) → IfOk r (CameTo OfText f)
  came_unread errors.ReadFault r e refused long =
      let came : CameTo OfText f outcome.Unread = outcomes.unread refl (refused refl) in
      subst (λ (x : Result Outcome NoMemory). IfOk x (CameTo OfText f)) (sym e) came
  came_unread errors.TooLong r e refused long =
      let came : CameTo OfText f outcome.Long = outcomes.long refl (long refl) in
      subst (λ (x : Result Outcome NoMemory). IfOk x (CameTo OfText f)) (sym e) came
  came_unread errors.NoMemory (Ok o) e refused long = absurd e
  came_unread errors.NoMemory (Err x) e refused long = e

  -- its status may be written
  written : IsOfTexts OfText → (o : Outcome) → CameTo OfText f o → IsWritten (answer_of o)
  written is o (outcomes.read text told h) = (is.answers text (answer_of o) (bytes_of o) h).written
  written is o (outcomes.unread e rose) =
      subst (λ (x : Outcome). IsWritten (answer_of x)) (sym e) (record { no_write_fault = λ g. absurd (cc g); no_memory = λ g. absurd (cc g) })
  written is o (outcomes.long e l) =
      subst (λ (x : Outcome). IsWritten (answer_of x)) (sym e) (record { no_write_fault = λ g. absurd (cc g); no_memory = λ g. absurd (cc g) })

  pub came_written : IsOfTexts OfText → (r : Result Outcome NoMemory) → IfOk r (CameTo OfText f) → IfOk r (λ o. IsWritten (answer_of o))
  came_written is (Ok o) h = written is o h
  came_written is (Err e) h = h
