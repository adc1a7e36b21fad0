-- What a command came to on a file, and what it answers and writes then: for any relation of that to the file's text.
use Rattle.std.proofs.Common.{◌≡◌, ◌<◌, Some, Result, Ok, Err, length, refl, sym, subst}
use Rattle.std.specs.Prelude.{IfOk, IfSome}
use Rattle.rsml_base.specs.declared.no_memory.NoMemory.{NoMemory}
use Rattle.rsml_io.specs.declared.read_error.ReadError.{ReadError}
use Rattle.rsml_io.specs.declared.read_error.ReadError.TheVariants as errors
use Rattle.rsml_meaning.specs.EventLines.{Bytes}
use Rattle.answering.specs.Lines as lines
use Rattle.answering.specs.Outcomes.{HasAnswered, answer_of, bytes_of, greatest_file}
use Rattle.answering.specs.Uses.{FileUse, SinkUse, ReadRefused}
use Rattle.answering.specs.Writing.{HasWritten, IsOfText, IsWritten}
use Rattle.answering.specs.declared.outcome.Outcome.{Outcome}
use Rattle.answering.specs.declared.outcome.Outcome.TheVariants as outcome
use Rattle.answering.specs.declared.status.Status.{Status}
use Rattle.answering.specs.declared.status.Status.TheVariants as status
use Rattle.answering.proofs.AnswerLemmas.{Answers, same_told, long_told, without_memory, wrote, wrote_unread, written_fits}
use Rattle.pairing.specs.Steps.{CameTo, ComesOf, HasActed, IsLong}
use Rattle.pairing.specs.Steps as steps

module _ (OfText : Bytes → Status → Bytes → Type 0) (f : FileUse) where
  -- by what it came to on the text that was read
  pub came_read : (text shown : Bytes) (r : Result Outcome NoMemory) → IfSome f.told (λ told. text ≡ told) → shown ≡ text
      → IfOk r (λ o. OfText shown (answer_of o) (bytes_of o)) → IfOk r (CameTo OfText f)
  came_read text shown (Ok o) told same h = steps.CameTo.read text told (subst (λ (t : Bytes). OfText t (answer_of o) (bytes_of o)) same h)
  came_read text shown (Err e) told same h = h

  module _ (bytes : Bytes) (out : (text : Bytes) → greatest_file < length text → OfText text status.TooLong bytes) where
    -- of a file that is too long, which these bytes tell
    came_long : (r : Result Outcome NoMemory) → IfOk r (IsLong bytes) → IfSome f.told (λ text. greatest_file < length text) → IfOk r (CameTo OfText f)
    came_long (Ok o) h long =
        steps.CameTo.long long (λ text l. subst (λ (a : Status). OfText text a (bytes_of o)) (sym h.answer)
        (subst (λ (b : Bytes). OfText text status.TooLong b) (sym h.text) (out text l))) h.answer
    came_long (Err e) h long = h

    -- by why it was not read
    pub came_unread : (error : ReadError) (r : Result Outcome NoMemory) → ComesOf bytes error r → (error ≡ errors.ReadFault → ReadRefused f)
        → (error ≡ errors.TooLong → IfSome f.told (λ text. greatest_file < length text)) → IfOk r (CameTo OfText f)
    came_unread errors.ReadFault r e refused long =
        let came : CameTo OfText f outcome.Unread = steps.CameTo.unread refl (refused refl) in
        subst (λ (x : Result Outcome NoMemory). IfOk x (CameTo OfText f)) (sym e) came
    came_unread errors.TooLong r e refused long = came_long r e (long refl)
    came_unread errors.NoMemory (Ok o) e refused long = absurd e
    came_unread errors.NoMemory (Err x) e refused long = e

  module _ (answers : (text : Bytes) (answer : Status) (bytes : Bytes) → OfText text answer bytes → IsOfText answer) where
    -- its status may be written
    written : (o : Outcome) → CameTo OfText f o → IsWritten (answer_of o)
    written o (steps.CameTo.read text told h) = (answers text (answer_of o) (bytes_of o) h).written
    written o (steps.CameTo.unread e rose) =
        subst (λ (x : Outcome). IsWritten (answer_of x)) (sym e) (record { no_write_fault = λ g. absurd (cc g); no_memory = λ g. absurd (cc g) })
    written o (steps.CameTo.long told out e) =
        subst IsWritten (sym e) (record { no_write_fault = λ g. absurd (cc g); no_memory = λ g. absurd (cc g) })

    pub came_written : (r : Result Outcome NoMemory) → IfOk r (CameTo OfText f) → IfOk r (λ o. IsWritten (answer_of o))
    came_written (Ok o) h = written o h
    came_written (Err e) h = h

    module _ (C : Type 0) (Tells : C → Type 0) (Output : C → Status → Bytes → Type 0) (Refused : Type 0) (Unread : C → Bytes → Type 0) (k : SinkUse)
        (answer : Status) (text_of : C → Bytes) (told : (contents : C) → Tells contents → f.told ≡ Some (text_of contents))
        (out : (contents : C) (wanted : Status) (bytes : Bytes) → Tells contents → OfText (text_of contents) wanted bytes → Output contents wanted bytes)
        (refused : ReadRefused f → Refused) (unread : (contents : C) → Tells contents → ReadRefused f → Unread contents lines.read) where
      -- its answer and what it wrote
      of_came : (o : Outcome) → CameTo OfText f o → HasWritten k (bytes_of o) (answer_of o) answer → Answers C Tells Output Refused Unread k answer
      of_came o (steps.CameTo.read text shown h) w =
          let of = answers text (answer_of o) (bytes_of o) h in
          wrote C Tells Output Refused Unread k answer (answer_of o) (bytes_of o) w of.written.no_memory of.no_read_fault
          (λ contents t. out contents (answer_of o) (bytes_of o) t
          (subst (λ (x : Bytes). OfText x (answer_of o) (bytes_of o)) (same_told f.told text (text_of contents) shown (told contents t)) h))
      of_came o (steps.CameTo.unread e rose) w =
          let v : HasWritten k lines.read status.ReadFault answer = subst (λ (x : Outcome). HasWritten k (bytes_of x) (answer_of x) answer) e w in
          wrote_unread C Tells Output Refused Unread k answer status.ReadFault lines.read v refl (refused rose) (λ contents t. unread contents t rose)
      of_came o (steps.CameTo.long l of e) w =
          wrote C Tells Output Refused Unread k answer (answer_of o) (bytes_of o) w (λ g. absurd (cc (e, g))) (λ g. absurd (cc (e, g)))
          (λ contents t. out contents (answer_of o) (bytes_of o) t (of (text_of contents) (long_told f.told (text_of contents) l (told contents t))))

      of_answered : (r : Result Outcome NoMemory) → IfOk r (CameTo OfText f) → HasAnswered k r answer → Answers C Tells Output Refused Unread k answer
      of_answered (Ok o) came h = of_came o came h
      of_answered (Err e) came h = without_memory C Tells Output Refused Unread k answer h.0 h.1

      pub acted : HasActed OfText f k answer → Answers C Tells Output Refused Unread k answer
      acted h = of_answered h.0 h.1 h.2

  -- which status it can be, whether the file told its text or not
  module _ (k : SinkUse) (answer : Status) (Fits : Status → Type 0)
      (fits : (text : Bytes) (wanted : Status) (bytes : Bytes) → OfText text wanted bytes → Fits wanted)
      (no_memory : Fits status.NoMemory) (read_fault : Fits status.ReadFault) (write_fault : Fits status.WriteFault) (too_long : Fits status.TooLong) where
    fits_came : (o : Outcome) → CameTo OfText f o → Fits (answer_of o)
    fits_came o (steps.CameTo.read text shown h) = fits text (answer_of o) (bytes_of o) h
    fits_came o (steps.CameTo.unread e rose) = subst (λ (x : Outcome). Fits (answer_of x)) (sym e) read_fault
    fits_came o (steps.CameTo.long l of e) = subst Fits (sym e) too_long

    fits_answered : (r : Result Outcome NoMemory) → IfOk r (CameTo OfText f) → HasAnswered k r answer → Fits answer
    fits_answered (Ok o) came h = written_fits Fits k (bytes_of o) (answer_of o) answer h (fits_came o came) write_fault
    fits_answered (Err e) came h = subst Fits (sym h.0) no_memory

    pub of_fits : HasActed OfText f k answer → Fits answer
    of_fits h = fits_answered h.0 h.1 h.2
