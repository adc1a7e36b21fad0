-- What a command on two files promises, from what its steps leave: for any kind of contents that its files told.
use Rattle.std.proofs.Common.{◌≡◌, ◌≢◌, ℕ, ◌≤◌, ◌⊎◌, inl, inr, Some, ◌∙◌, subst, arith}
use Rattle.std.specs.Prelude.{IfSome}
use Rattle.rsml_io.specs.Counts.{Rose}
use Rattle.rsml_meaning.specs.EventLines.{Bytes}
use Rattle.rsml_syntax.specs.declared.syntax.Spec.{Spec}
use Rattle.answering.specs.Lines as lines
use Rattle.answering.specs.Uses.{FileUse, SinkUse, ReadRefused}
use Rattle.answering.specs.declared.status.Status.{Status}
use Rattle.answering.specs.declared.status.Status.TheVariants as status
use Rattle.answering.proofs.AnswerLemmas.{Answers, same_told}
use Rattle.pairing.specs.Kept.{IsKeptFile, IsKeptText}
use Rattle.pairing.specs.Outputs.{BareOutput, FirstFault, PairOutput, SecondOutput}
use Rattle.pairing.specs.Outputs as output
use Rattle.pairing.specs.Steps.{HasActed, HasPaired, IsRestOf, ShownOutput, StoppedOutput}
use Rattle.pairing.specs.Steps as steps
use Rattle.pairing.specs.declared.pair_action.PairAction.{PairAction}
use Rattle.pairing.proofs.CameLemmas.{acted, of_fits}
use Rattle.pairing.proofs.SecondLemmas.{shown_answers}
use Rattle.pairing.proofs.ShowLemmas.{shown_as}
use Rattle.pairing.proofs.StartLemmas.{stopped_answers}
use Rattle.pairing.proofs.StatusLemmas.{IsOfPair, is_of_text}

-- a count that rose since later rose since earlier
rose_since : (a b c : ℕ) → a ≤ b → Rose b c → Rose a c
rose_since a b c h r = omega (arith, h, r)

-- a read of what is left of a file that was refused was one of the file
rest_rose : (file other : Bytes) (all rest : FileUse) → IsRestOf file other all rest → ReadRefused rest → ReadRefused all
rest_rose file other all rest later r =
    subst (λ (n : ℕ). Rose all.refusals n) later.refusals_after (rose_since all.refusals rest.refusals rest.refusals_after later.refusals r)

-- what is answered and written, by the first text alone, or by both
stopped_output : (does : PairAction) (text other : Bytes) (answer : Status) (bytes : Bytes) → StoppedOutput does text answer bytes
    → PairOutput does text other answer bytes
stopped_output does text other answer bytes h =
    shown_as does (FirstFault text answer) (BareOutput does text other answer) (λ b f. output.BareOutput.fault f) bytes h

second_output : (does : PairAction) (text other : Bytes) (s : Spec) (answer : Status) (bytes : Bytes) → IsKeptText text s → ShownOutput does s other answer bytes
    → PairOutput does text other answer bytes
second_output does text other s answer bytes is h =
    shown_as does (SecondOutput does s other answer) (BareOutput does text other answer) (λ b o. output.looked_at s is o) bytes h

module _ (C : Type 0) (Tells : C → Type 0) (Answered : C → Status → Bytes → Type 0) (Refused : Type 0) (Unread : C → Bytes → Type 0)
    (does : PairAction) (k : SinkUse) (answer : Status) (file other : Bytes) (files : Bytes → FileUse) (text_of other_of : C → Bytes)
    (told_file : (contents : C) → Tells contents → (files file).told ≡ Some (text_of contents))
    (told_other : (contents : C) → Tells contents → (files other).told ≡ Some (other_of contents))
    (out : (contents : C) (wanted : Status) (bytes : Bytes) → PairOutput does (text_of contents) (other_of contents) wanted bytes → Answered contents wanted bytes)
    (file_refused : ReadRefused (files file) → Refused) (other_refused : ReadRefused (files other) → Refused)
    (unread : (contents : C) → ReadRefused (files file) → Unread contents lines.read)
    (other_unread : (contents : C) (s : Spec) → IsKeptText (text_of contents) s → ReadRefused (files other) → Unread contents lines.read) where
  stopped : HasActed (StoppedOutput does) (files file) k answer → Answers C Tells Answered Refused Unread k answer
  stopped h =
      acted (StoppedOutput does) (files file) (λ text answer bytes o. is_of_text answer (stopped_answers does text answer bytes o)) C Tells Answered Refused Unread k answer text_of told_file
      (λ contents wanted bytes t o. out contents wanted bytes (stopped_output does (text_of contents) (other_of contents) wanted bytes o))
      file_refused (λ contents t rose. unread contents rose) h

  module _ (text : Bytes) (s : Spec) (rest : FileUse) (is_told : IfSome (files file).told (λ told. text ≡ told)) (is : IsKeptText text s)
      (later : IsRestOf file other (files other) rest) where
    kept : (contents : C) → Tells contents → IsKeptText (text_of contents) s
    kept contents t = subst (λ (x : Bytes). IsKeptText x s) (same_told (files file).told text (text_of contents) is_told (told_file contents t)) is

    rose : ReadRefused rest → ReadRefused (files other)
    rose = rest_rose file other (files other) rest later

    second : HasActed (ShownOutput does s) rest k answer → Answers C Tells Answered Refused Unread k answer
    second h =
        acted (ShownOutput does s) rest (λ text answer bytes o. is_of_text answer (shown_answers does s text answer bytes o)) C Tells Answered Refused Unread k answer other_of
        (λ contents t. later.told ∙ told_other contents t)
        (λ contents wanted bytes t o. out contents wanted bytes (second_output does (text_of contents) (other_of contents) s wanted bytes (kept contents t) o))
        (λ r. other_refused (rose r)) (λ contents t r. other_unread contents s (kept contents t) (rose r)) h

  pub paired : HasPaired does file other files k answer → Answers C Tells Answered Refused Unread k answer
  paired (steps.HasPaired.stopped h _) = stopped h
  paired (steps.HasPaired.paired text s rest told is later h) = second text s rest told is later h

module _ (does : PairAction) (file other : Bytes) (files : Bytes → FileUse) (k : SinkUse) (answer : Status) where
  -- the second file is read only where the text of the first is kept
  pub leaves_second : HasPaired does file other files k answer → file ≢ other
      → ((files other).reach_after ≡ (files other).reach) ⊎ IsKeptFile (files file)
  leaves_second (steps.HasPaired.stopped h left) apart = inl (left apart)
  leaves_second (steps.HasPaired.paired text s rest told is later h) apart = inr (record { text = text; told = told; spec = s; kept = is })

  -- which status it can end with
  module _ (Fits : Status → Type 0)
      (fits : (wanted : Status) → IsOfPair wanted → Fits wanted)
      (no_memory : Fits status.NoMemory) (read_fault : Fits status.ReadFault) (write_fault : Fits status.WriteFault) (too_long : Fits status.TooLong) where
    pub paired_fits : HasPaired does file other files k answer → Fits answer
    paired_fits (steps.HasPaired.stopped h _) =
        of_fits (StoppedOutput does) (files file) k answer Fits (λ text wanted bytes o. fits wanted (stopped_answers does text wanted bytes o))
        no_memory read_fault write_fault too_long h
    paired_fits (steps.HasPaired.paired text s rest told is later h) =
        of_fits (ShownOutput does s) rest k answer Fits (λ text wanted bytes o. fits wanted (shown_answers does s text wanted bytes o))
        no_memory read_fault write_fault too_long h
