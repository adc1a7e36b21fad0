-- What a command promises of its answer and of what it writes, from what it leaves: for any kind of contents that its files told, and any
-- relation of what it answers and writes to them.
use Rattle.std.proofs.Common.{◌≡◌, ◌≢◌, ◌<◌, ◌⊎◌, inl, inr, Option, Some, Result, Ok, Err, length, refl, sym, ◌∙◌, subst}
use Rattle.std.specs.Prelude.{IfOk, IfSome}
use Rattle.rsml_base.specs.declared.no_memory.NoMemory.{NoMemory}
use Rattle.rsml_meaning.specs.EventLines.{Bytes}
use Rattle.answering.specs.Lines as lines
use Rattle.answering.specs.Outcomes.{answer_of, bytes_of, greatest_file, CameTo, HasAnswered, HasActed, IsOfTexts}
use Rattle.answering.specs.Outcomes as outcomes
use Rattle.answering.specs.Uses.{FileUse, SinkUse, ReadRefused, WriteRefused, Writes, WritesPrefix, WritesNothing}
use Rattle.answering.specs.Writing.{HasWritten}
use Rattle.answering.specs.declared.outcome.Outcome.{Outcome}
use Rattle.answering.specs.declared.status.Status.{Status}
use Rattle.answering.specs.declared.status.Status.TheVariants as status

-- What was told.

pub same_told : (o : Option Bytes) (text told : Bytes) → IfSome o (λ x. text ≡ x) → o ≡ Some told → text ≡ told
same_told o text told h e = subst (λ (x : Option Bytes). IfSome x (λ y. text ≡ y)) e h

pub long_told : (o : Option Bytes) (told : Bytes) → IfSome o (λ x. greatest_file < length x) → o ≡ Some told → greatest_file < length told
long_told o told h e = subst (λ (x : Option Bytes). IfSome x (λ y. greatest_file < length y)) e h

-- A command's promises on any contents: what it answers and writes of them, what where a read was refused, and what where a write was.
pub record Answers (C : Type 0) (Tells : C → Type 0) (Output : C → Status → Bytes → Type 0) (Refused : Type 0)
    (Unread : C → Bytes → Type 0) (k : SinkUse) (answer : Status) : Type 0 where
  pub answered : answer ≢ status.NoMemory → answer ≢ status.ReadFault → answer ≢ status.WriteFault
      → (contents : C) → Tells contents → (bytes : Bytes) × Output contents answer bytes × Writes k bytes
  pub no_memory : answer ≡ status.NoMemory → WritesNothing k
  pub read_fault : answer ≡ status.ReadFault → Refused × ((contents : C) → Tells contents
      → (bytes : Bytes) × Unread contents bytes × Writes k bytes)
  pub write_fault : answer ≡ status.WriteFault → WriteRefused k
  pub prefix : answer ≡ status.WriteFault → (contents : C) → Tells contents
      → ((wanted : Status) × (bytes : Bytes) × Output contents wanted bytes × WritesPrefix k bytes)
      ⊎ ((bytes : Bytes) × Unread contents bytes × WritesPrefix k bytes)

module _ (C : Type 0) (Tells : C → Type 0) (Output : C → Status → Bytes → Type 0) (Refused : Type 0)
    (Unread : C → Bytes → Type 0) (k : SinkUse) (answer : Status) where
  -- where nothing was refused, the answer is that of the contents, or out of memory
  module _ (h : Answers C Tells Output Refused Unread k answer) where
    completed : (given : Status) → answer ≡ given → (Refused → ⊥) → (WriteRefused k → ⊥) → (contents : C) → Tells contents
        → (answer ≡ status.NoMemory) ⊎ ((bytes : Bytes) × Output contents answer bytes × Writes k bytes)
    completed status.NoMemory e _ _ contents told = inl e
    completed status.ReadFault e no_read _ contents told = absurd (no_read (h.read_fault e).0)
    completed status.WriteFault e _ no_write contents told = absurd (no_write (h.write_fault e))
    completed given e _ _ contents told = inr (h.answered (λ f. absurd (cc (e, f))) (λ f. absurd (cc (e, f))) (λ f. absurd (cc (e, f))) contents told)

    pub complete : (Refused → ⊥) → (WriteRefused k → ⊥) → (contents : C) → Tells contents
        → (answer ≡ status.NoMemory) ⊎ ((bytes : Bytes) × Output contents answer bytes × Writes k bytes)
    complete = completed answer refl

  -- memory was refused
  pub without_memory : answer ≡ status.NoMemory → WritesNothing k → Answers C Tells Output Refused Unread k answer
  without_memory e nothing = record {
    answered = λ n. absurd (n e);
    no_memory = λ _. nothing;
    read_fault = λ f. absurd (cc (e, f));
    write_fault = λ f. absurd (cc (e, f));
    prefix = λ f. absurd (cc (e, f));
  }

  -- a text was written, or a prefix of it
  module _ (asked : Status) (bytes : Bytes) (w : HasWritten k bytes asked answer) where
    asked_is : (given : Status) → answer ≡ given → given ≢ status.WriteFault → asked ≡ given
    asked_is given e n = sym (w.all (λ f. n (sym e ∙ f))).0 ∙ e

    pub wrote : asked ≢ status.NoMemory → asked ≢ status.ReadFault
        → ((contents : C) → Tells contents → Output contents asked bytes) → Answers C Tells Output Refused Unread k answer
    wrote no_memory no_read out = record {
      answered = λ _ _ no_write contents told.
          (bytes, subst (λ (a : Status). Output contents a bytes) (sym (w.all no_write).0) (out contents told), (w.all no_write).1);
      no_memory = λ e. absurd (no_memory (asked_is status.NoMemory e (λ f. absurd (cc f))));
      read_fault = λ e. absurd (no_read (asked_is status.ReadFault e (λ f. absurd (cc f))));
      write_fault = λ e. (w.prefix e).0;
      prefix = λ e contents told. inl (asked, bytes, out contents told, (w.prefix e).1);
    }

    -- of a read that was refused
    pub wrote_unread : asked ≡ status.ReadFault → Refused → ((contents : C) → Tells contents → Unread contents bytes)
        → Answers C Tells Output Refused Unread k answer
    wrote_unread is refused out = record {
      answered = λ _ no_read no_write. absurd (no_read ((w.all no_write).0 ∙ is));
      no_memory = λ e. let f = asked_is status.NoMemory e (λ f. absurd (cc f)) in absurd (cc (is, f));
      read_fault = λ e. (refused, λ contents told. (bytes, out contents told, (w.all (λ f. absurd (cc (e, f)))).1));
      write_fault = λ e. (w.prefix e).0;
      prefix = λ e contents told. inr (bytes, out contents told, (w.prefix e).1);
    }

  -- A command that reads one file.

  module _ (OfText : Bytes → Status → Bytes → Type 0) (is : IsOfTexts OfText) (f : FileUse) (text_of : C → Bytes)
      (told : (contents : C) → Tells contents → f.told ≡ Some (text_of contents))
      (out : (contents : C) (wanted : Status) (bytes : Bytes) → OfText (text_of contents) wanted bytes → Output contents wanted bytes)
      (refused : ReadRefused f → Refused) (unread : (contents : C) → ReadRefused f → Unread contents lines.read) where
    of_came : (o : Outcome) → CameTo OfText f o → HasWritten k (bytes_of o) (answer_of o) answer → Answers C Tells Output Refused Unread k answer
    of_came o (outcomes.read text shown h) w =
        let of = is.answers text (answer_of o) (bytes_of o) h in
        wrote (answer_of o) (bytes_of o) w of.written.no_memory of.no_read_fault
        (λ contents t. out contents (answer_of o) (bytes_of o)
        (subst (λ (x : Bytes). OfText x (answer_of o) (bytes_of o)) (same_told f.told text (text_of contents) shown (told contents t)) h))
    of_came o (outcomes.unread e rose) w =
        let v : HasWritten k lines.read status.ReadFault answer = subst (λ (x : Outcome). HasWritten k (bytes_of x) (answer_of x) answer) e w in
        wrote_unread status.ReadFault lines.read v refl (refused rose) (λ contents _. unread contents rose)
    of_came o (outcomes.long e l) w =
        let v : HasWritten k lines.long status.TooLong answer = subst (λ (x : Outcome). HasWritten k (bytes_of x) (answer_of x) answer) e w in
        wrote status.TooLong lines.long v (λ g. absurd (cc g)) (λ g. absurd (cc g))
        (λ contents t. out contents status.TooLong lines.long (is.long (text_of contents) (long_told f.told (text_of contents) l (told contents t))))

    of_answered : (r : Result Outcome NoMemory) → IfOk r (CameTo OfText f) → HasAnswered k r answer → Answers C Tells Output Refused Unread k answer
    of_answered (Ok o) came h = of_came o came h
    of_answered (Err e) came h = without_memory h.0 h.1

    pub acted : HasActed OfText f k answer → Answers C Tells Output Refused Unread k answer
    acted h = of_answered h.0 h.1 h.2

-- which status a command that wrote a text can end with
pub written_fits : (Fits : Status → Type 0) (k : SinkUse) (bytes : Bytes) (asked answer : Status) → HasWritten k bytes asked answer → Fits asked
    → Fits status.WriteFault → Fits answer
written_fits Fits k bytes asked answer w h write_fault = by answer refl
  where
    by : (given : Status) → answer ≡ given → Fits answer
    by status.WriteFault e = subst Fits (sym e) write_fault
    by given e = subst Fits (sym (w.all (λ f. absurd (cc (e, f)))).0) h

-- What it answers and writes of a text that its file told.

module _ (OfText : Bytes → Status → Bytes → Type 0) (is : IsOfTexts OfText) (f : FileUse) (k : SinkUse) (answer : Status) where
  pub of_told : HasActed OfText f k answer → answer ≢ status.NoMemory → answer ≢ status.ReadFault → answer ≢ status.WriteFault
      → (text : Bytes) → f.told ≡ Some text → (bytes : Bytes) × OfText text answer bytes × Writes k bytes
  of_told h =
      let all = acted Bytes (λ text. f.told ≡ Some text) OfText (ReadRefused f) (λ text bytes. ReadRefused f) k answer
      OfText is f (λ text. text) (λ text told. told) (λ text wanted bytes o. o) (λ r. r) (λ text r. r) h in
      all.answered

  -- which status it can be, whether the file told its text or not
  module _ (Fits : Status → Type 0) (fits : (text : Bytes) (wanted : Status) (bytes : Bytes) → OfText text wanted bytes → Fits wanted)
      (no_memory : Fits status.NoMemory) (read_fault : Fits status.ReadFault) (write_fault : Fits status.WriteFault) (too_long : Fits status.TooLong) where
    fits_came : (o : Outcome) → CameTo OfText f o → Fits (answer_of o)
    fits_came o (outcomes.read text shown h) = fits text (answer_of o) (bytes_of o) h
    fits_came o (outcomes.unread e rose) = subst (λ (x : Outcome). Fits (answer_of x)) (sym e) read_fault
    fits_came o (outcomes.long e l) = subst (λ (x : Outcome). Fits (answer_of x)) (sym e) too_long

    fits_answered : (r : Result Outcome NoMemory) → IfOk r (CameTo OfText f) → HasAnswered k r answer → Fits answer
    fits_answered (Ok o) came h = written_fits Fits k (bytes_of o) (answer_of o) answer h (fits_came o came) write_fault
    fits_answered (Err e) came h = subst Fits (sym h.0) no_memory

    pub of_fits : HasActed OfText f k answer → Fits answer
    of_fits h = fits_answered h.0 h.1 h.2
