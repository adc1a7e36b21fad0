-- What a command that follows an event file promises, from what its steps leave: for any kind of contents that its files told.
use Rattle.std.proofs.Common.{◌≡◌, ◌≢◌, ℕ, ◌≤◌, ◌⊎◌, inl, inr, ◌++◌, Option, Some, refl, sym, ap, ◌∙◌, subst, arith}
use Rattle.std.specs.Prelude.{IfSome}
use Rattle.rsml_io.specs.Counts.{Rose}
use Rattle.rsml_io.specs.Writing.{appended, AppendsProperPrefix}
use Rattle.rsml_meaning.specs.EventFiles.{program_limits}
use Rattle.rsml_meaning.specs.EventLines.{Bytes}
use Rattle.rsml_syntax.specs.declared.syntax.Spec.{Spec}
use Rattle.source_notes.specs.Comments.{AreComments}
use Rattle.simulator.specs.Outputs.{Output, ReadOutput}
use Rattle.simulator.specs.Simulating.{Follows, StopsReading}
use Rattle.simulator.specs.declared.sim_end.SimEnd.{SimEnd}
use Rattle.simulator.specs.declared.sim_end.SimEnd.TheVariants as end
use Rattle.answering.specs.Lines as lines
use Rattle.answering.specs.Uses.{FileUse, SinkUse, ReadRefused}
use Rattle.answering.specs.Writing.{HasWritten}
use Rattle.answering.specs.declared.status.Status.{Status}
use Rattle.answering.specs.declared.status.Status.TheVariants as status
use Rattle.answering.proofs.AnswerLemmas.{Answers, acted, of_fits, same_told, without_memory}
use Rattle.checking.specs.Outputs.{CheckOutput, TextFault, SpecificationOutput}
use Rattle.checking.specs.Outputs as outputs
use Rattle.following.specs.Outputs.{EventOutput, FollowOutput, IsCertifiedText, status_of, texts_of, checked}
use Rattle.following.specs.Outputs as output
use Rattle.following.specs.Followed.{IsFollowed}
use Rattle.following.specs.Steps.{HasFollowed, HasRun, IsRestOf, StoppedOutput, meeting, onward, up_to}
use Rattle.following.specs.Steps as steps
use Rattle.following.specs.declared.event_action.EventAction.{EventAction}
use Rattle.following.specs.declared.event_action.EventAction.TheVariants as action
use Rattle.following.proofs.NoteLemmas.{part_behind, report_of, shown_as, shown_bare, shown_noted, written_behind}
use Rattle.following.proofs.StartLemmas.{stopped_texts}

-- How it ends, and the status.

end_is_read_fault : (ended : SimEnd) → status_of ended ≡ status.ReadFault → ended ≡ end.ReadFault
end_is_read_fault (end.Ended n) e = absurd (cc e)
end_is_read_fault (end.LineFault n f) e = absurd (cc e)
end_is_read_fault (end.LineTooLong n) e = absurd (cc e)
end_is_read_fault end.ReadFault e = refl
end_is_read_fault end.TooLong e = absurd (cc e)
end_is_read_fault end.WriteFault e = absurd (cc e)

end_is_write_fault : (ended : SimEnd) → status_of ended ≡ status.WriteFault → ended ≡ end.WriteFault
end_is_write_fault (end.Ended n) e = absurd (cc e)
end_is_write_fault (end.LineFault n f) e = absurd (cc e)
end_is_write_fault (end.LineTooLong n) e = absurd (cc e)
end_is_write_fault end.ReadFault e = absurd (cc e)
end_is_write_fault end.TooLong e = absurd (cc e)
end_is_write_fault end.WriteFault e = refl

never_no_memory : (ended : SimEnd) → status_of ended ≢ status.NoMemory
never_no_memory (end.Ended n) e = cc e
never_no_memory (end.LineFault n f) e = cc e
never_no_memory (end.LineTooLong n) e = cc e
never_no_memory end.ReadFault e = cc e
never_no_memory end.TooLong e = cc e
never_no_memory end.WriteFault e = cc e

never_usage : (ended : SimEnd) → status_of ended ≢ status.Usage
never_usage (end.Ended n) e = cc e
never_usage (end.LineFault n f) e = cc e
never_usage (end.LineTooLong n) e = cc e
never_usage end.ReadFault e = cc e
never_usage end.TooLong e = cc e
never_usage end.WriteFault e = cc e

-- a count that rose since later rose since earlier
rose_since : (a b c : ℕ) → a ≤ b → Rose b c → Rose a c
rose_since a b c h r = omega (arith, h, r)

rose_to : (a b c : ℕ) → b ≡ c → Rose a b → Rose a c
rose_to a b c e r = subst (λ (n : ℕ). Rose a n) e r

-- a read of what is left of a file that was refused was one of the file
rest_rose : (file events : Bytes) (all rest : FileUse) → IsRestOf file events all rest → ReadRefused rest → ReadRefused all
rest_rose file events all rest later r =
    rose_to all.refusals rest.refusals_after all.refusals_after later.refusals_after
    (rose_since all.refusals rest.refusals rest.refusals_after later.refusals r)

-- The event file was read, and a read of it was refused: what stands then, of contents with a certified specification.
pub record EventsUnread (does : EventAction) (file events : Bytes) (e : FileUse) (text content bytes : Bytes) : Type 0 where
  pub spec : Spec
  pub certified : IsCertifiedText text spec
  pub read : ℕ
  pub refused : ReadRefused e
  pub output : ReadOutput (texts_of does) spec program_limits content read bytes
  pub reach : file ≢ events → e.reach ≡ Some 0 → e.reach_after ≡ Some read

-- what is answered and written of a text that is no certified specification
stopped_output : (does : EventAction) (text content : Bytes) (answer : Status) (bytes : Bytes) → StoppedOutput does text answer bytes
    → EventOutput does text content answer bytes
stopped_output does text content answer bytes h =
    shown_as does (CheckOutput text answer) (FollowOutput does text content answer) (λ b o. checked h.0 o) bytes h.1

module _ (C : Type 0) (Tells : C → Type 0) (Answered : C → Status → Bytes → Type 0) (Refused : Type 0) (Unread : C → Bytes → Type 0)
    (does : EventAction) (k : SinkUse) (answer : Status) (file events : Bytes) (files : Bytes → FileUse) (text_of events_of : C → Bytes)
    (told_file : (contents : C) → Tells contents → (files file).told ≡ Some (text_of contents))
    (told_events : (contents : C) → Tells contents → (files events).told ≡ Some (events_of contents))
    (out : (contents : C) (wanted : Status) (bytes : Bytes) → EventOutput does (text_of contents) (events_of contents) wanted bytes → Answered contents wanted bytes)
    (file_refused : ReadRefused (files file) → Refused) (events_refused : ReadRefused (files events) → Refused)
    (unread : (contents : C) → ReadRefused (files file) → Unread contents lines.read)
    (events_unread : (contents : C) (bytes : Bytes) → EventsUnread does file events (files events) (text_of contents) (events_of contents) bytes
    → Unread contents bytes) where
  -- a specification that is certified
  module _ (text : Bytes) (rest : FileUse) (s : Spec) (ended : SimEnd) (is_told : IfSome (files file).told (λ told. text ≡ told))
      (later : IsRestOf file events (files events) rest) (c : IsCertifiedText text s) where
    certified : (contents : C) → Tells contents → IsCertifiedText (text_of contents) s
    certified contents t =
        subst (λ (x : Bytes). IsCertifiedText x s) (same_told (files file).told text (text_of contents) is_told (told_file contents t)) c

    rest_told : (contents : C) → Tells contents → rest.told ≡ Some (events_of contents)
    rest_told contents t = later.told ∙ told_events contents t

    rose : ReadRefused rest → ReadRefused (files events)
    rose = rest_rose file events (files events) rest later

    output_of : (contents : C) (wanted : SimEnd) (report : Bytes) → Tells contents
        → Output (texts_of does) s program_limits (events_of contents) wanted report
        → FollowOutput does (text_of contents) (events_of contents) (status_of wanted) report
    output_of contents wanted report t o = output.FollowOutput.followed s wanted (certified contents t) o refl

    out_of : (contents : C) (wanted : SimEnd) (bytes : Bytes) → Tells contents → Output (texts_of does) s program_limits (events_of contents) wanted bytes
        → Answered contents (status_of wanted) bytes
    out_of contents wanted bytes t o =
        out contents (status_of wanted) bytes
        (shown_bare does (FollowOutput does (text_of contents) (events_of contents) (status_of wanted)) bytes (output_of contents wanted bytes t o))

    -- with nothing behind what was written
    module _ (e : answer ≡ status_of ended) (h : Follows (texts_of does) s program_limits (meeting rest k) ended) where
      read_output : (contents : C) (bytes : Bytes) → Tells contents → ReadRefused rest
          → StopsReading (texts_of does) s program_limits (meeting rest k) (events_of contents) bytes → Unread contents bytes
      read_output contents bytes t r stops = events_unread contents bytes (record {
        spec = s;
        certified = certified contents t;
        read = stops.read;
        refused = rose r;
        output = stops.output;
        reach = λ apart none. sym later.reach_after ∙ stops.reach (later.reach apart ∙ none);
      })

      ran : Answers C Tells Answered Refused Unread k answer
      ran = record {
        answered = λ _ no_read no_write contents t.
            let o = h.output (λ f. no_read (e ∙ ap status_of f)) (λ f. no_write (e ∙ ap status_of f)) (events_of contents) (rest_told contents t) in
            (o.0, subst (λ (a : Status). Answered contents a o.0) (sym e) (out_of contents ended o.0 t o.1), o.2);
        no_memory = λ f. absurd (never_no_memory ended (sym e ∙ f));
        read_fault = λ f.
            let g = end_is_read_fault ended (sym e ∙ f) in (
              events_refused (rose (h.read_fault g).0),
              λ contents t.
                  let o = (h.read_fault g).1 (events_of contents) (rest_told contents t) in
                  (o.0, read_output contents o.0 t (h.read_fault g).0 o.1, o.2),
            );
        write_fault = λ f. (h.prefix (end_is_write_fault ended (sym e ∙ f))).0;
        prefix = λ f contents t.
            elim ((h.prefix (end_is_write_fault ended (sym e ∙ f))).1 (events_of contents) (rest_told contents t)) [
              | inl o ↦ inl (status_of o.0, o.1, out_of contents o.0 o.1 t o.2, o.3)
              | inr o ↦ inr (o.1.0, read_output contents o.1.0 t o.0 o.1.1, o.1.2)
            ];
      }

    -- with comment lines behind it
    module _ (written : Option Bytes) (refusals : ℕ) (notes : Bytes) (asked : does ≡ action.ExplainCover) (no_read : ended ≢ end.ReadFault)
        (no_write : ended ≢ end.WriteFault) (h : Follows (texts_of does) s program_limits (meeting rest (up_to k written refusals)) ended)
        (rises : k.refusals ≤ refusals) (are : AreComments notes) (w : HasWritten (onward k written refusals) notes (status_of ended) answer) where
      noted_of : (contents : C) (report : Bytes) → Tells contents → Output (texts_of does) s program_limits (events_of contents) ended report
          → Answered contents (status_of ended) (report ++ notes)
      noted_of contents report t o =
          out contents (status_of ended) (report ++ notes)
          (shown_noted does (FollowOutput does (text_of contents) (events_of contents) (status_of ended)) report notes asked (output_of contents ended report t o) are)

      same_end : answer ≢ status.WriteFault → answer ≡ status_of ended
      same_end n = (w.all n).0

      noted : Answers C Tells Answered Refused Unread k answer
      noted = record {
        answered = λ _ _ no_fault contents t.
            let o = h.output no_read no_write (events_of contents) (rest_told contents t) in (
              o.0 ++ notes,
              subst (λ (a : Status). Answered contents a (o.0 ++ notes)) (sym (same_end no_fault)) (noted_of contents o.0 t o.1),
              (w.all no_fault).1 ∙ ap (λ (x : Option Bytes). appended x notes) o.2 ∙ written_behind k.written o.0 notes,
            );
        no_memory = λ f. absurd (never_no_memory ended (sym (same_end (λ g. absurd (cc (f, g)))) ∙ f));
        read_fault = λ f. absurd (no_read (end_is_read_fault ended (sym (same_end (λ g. absurd (cc (f, g)))) ∙ f)));
        write_fault = λ f. rose_since k.refusals refusals k.refusals_after rises (w.prefix f).0;
        prefix = λ f contents t.
            let o = h.output no_read no_write (events_of contents) (rest_told contents t) in
            inl (
              status_of ended,
              o.0 ++ notes,
              noted_of contents o.0 t o.1,
              part_behind k.written k.written_after o.0 notes
                  (subst (λ (x : Option Bytes). AppendsProperPrefix x k.written_after notes) o.2 (w.prefix f).1),
            );
      }

  pub followed : HasFollowed does file events files k answer → Answers C Tells Answered Refused Unread k answer
  followed (steps.HasFollowed.stopped h _) =
      acted C Tells Answered Refused Unread k answer (StoppedOutput does) (stopped_texts does) (files file) text_of told_file
      (λ contents wanted bytes o. out contents wanted bytes (stopped_output does (text_of contents) (events_of contents) wanted bytes o)) file_refused unread h
  followed (steps.HasFollowed.followed text s rest told c later (steps.HasRun.no_memory e nothing _)) =
      without_memory C Tells Answered Refused Unread k answer e nothing
  followed (steps.HasFollowed.followed text s rest told c later (steps.HasRun.run ended e h)) = ran text rest s ended told later c e h
  followed (steps.HasFollowed.followed text s rest told c later (steps.HasRun.noted ended written refusals notes asked no_read no_write h rises are w)) =
      noted text rest s ended told later c written refusals notes asked no_read no_write h rises are w

-- Which status it can be, whether the files told their contents or not.

fault_fits : (text : Bytes) (answer : Status) (bytes : Bytes) → TextFault text answer bytes → answer ≢ status.EventFault
fault_fits text answer bytes (outputs.TextFault.too_long _ e _) f = cc (e, f)
fault_fits text answer bytes (outputs.TextFault.unread _ e) f = cc (e, f)
fault_fits text answer bytes (outputs.broken _ _ _ e) f = cc (e, f)

check_fits : (s : Spec) (answer : Status) (bytes : Bytes) → SpecificationOutput s answer bytes → answer ≢ status.EventFault
check_fits s answer bytes (outputs.refused _ e) f = cc (e, f)
check_fits s answer bytes (outputs.certified _ e) f = cc (e, f)

text_fits : (text : Bytes) (answer : Status) (bytes : Bytes) → CheckOutput text answer bytes → answer ≢ status.EventFault
text_fits text answer bytes (outputs.fault h) f = fault_fits text answer bytes h f
text_fits text answer bytes (outputs.judged s _ _ o) f = check_fits s answer bytes o f

stopped_fits : (does : EventAction) (text : Bytes) (answer : Status) (bytes : Bytes) → StoppedOutput does text answer bytes → answer ≢ status.EventFault
stopped_fits does text answer bytes h = let r = report_of does (CheckOutput text answer) bytes h.1 in text_fits text answer r.0 r.1

-- how following an event file ended, and that a read of it was refused where that is told
pub record HasEnded (e : FileUse) (answer : Status) : Type 0 where
  pub ended : SimEnd
  pub ends : answer ≡ status_of ended
  pub read : ended ≡ end.ReadFault → ReadRefused e

-- or memory was refused, and nothing was read
pub data Came (e : FileUse) (answer : Status) : Type 0 where
  at_no_memory : answer ≡ status.NoMemory → e.reach_after ≡ e.reach → Came e answer
  at_end : HasEnded e answer → Came e answer

came_noted : (e : FileUse) (ended : SimEnd) (answer : Status) → ended ≢ end.ReadFault
    → (answer ≢ status.WriteFault → answer ≡ status_of ended) → (a : Status) → answer ≡ a → HasEnded e answer
came_noted e ended answer n same status.WriteFault is = record { ended = end.WriteFault; ends = is; read = λ f. absurd (cc f) }
came_noted e ended answer n same a is = record { ended = ended; ends = same (λ f. absurd (cc (is, f))); read = λ f. absurd (n f) }

came : (does : EventAction) (s : Spec) (e : FileUse) (k : SinkUse) (answer : Status) → HasRun does s e k answer → Came e answer
came does s e k answer (steps.HasRun.no_memory is nothing left) = at_no_memory is left
came does s e k answer (steps.HasRun.run ended is h) = at_end (record { ended = ended; ends = is; read = λ f. (h.read_fault f).0 })
came does s e k answer (steps.HasRun.noted ended written refusals notes asked no_read no_write h rises are w) =
    at_end (came_noted e ended answer no_read (λ n. (w.all n).0) answer refl)

module _ (does : EventAction) (file events : Bytes) (files : Bytes → FileUse) (k : SinkUse) (answer : Status) where
  is_followed : (text : Bytes) (s : Spec) (rest : FileUse) → IfSome (files file).told (λ told. text ≡ told) → IsCertifiedText text s
      → IsRestOf file events (files events) rest → HasEnded rest answer → IsFollowed (files file) (files events) answer
  is_followed text s rest told c later h = record {
    text = text;
    told = told;
    spec = s;
    certified = c;
    ended = h.ended;
    ends = h.ends;
    read = λ f. rest_rose file events (files events) rest later (h.read f);
  }

  -- the event file is read only where the specification is certified
  left_or : (text : Bytes) (s : Spec) (rest : FileUse) → IfSome (files file).told (λ told. text ≡ told) → IsCertifiedText text s
      → IsRestOf file events (files events) rest → file ≢ events → Came rest answer
      → ((files events).reach_after ≡ (files events).reach) ⊎ IsFollowed (files file) (files events) answer
  left_or text s rest told c later apart (at_no_memory is left) = inl (sym later.reach_after ∙ left ∙ later.reach apart)
  left_or text s rest told c later apart (at_end h) = inr (is_followed text s rest told c later h)

  pub leaves_events : HasFollowed does file events files k answer → file ≢ events
      → ((files events).reach_after ≡ (files events).reach) ⊎ IsFollowed (files file) (files events) answer
  leaves_events (steps.HasFollowed.stopped h left) apart = inl (left apart)
  leaves_events (steps.HasFollowed.followed text s rest told c later h) apart = left_or text s rest told c later apart (came does s rest k answer h)

  -- a fault of an event file is told only where it was followed by a certified specification
  fault_of : (text : Bytes) (s : Spec) (rest : FileUse) → IfSome (files file).told (λ told. text ≡ told) → IsCertifiedText text s
      → IsRestOf file events (files events) rest → answer ≡ status.EventFault → Came rest answer → IsFollowed (files file) (files events) answer
  fault_of text s rest told c later e (at_no_memory is left) = absurd (cc (e, is))
  fault_of text s rest told c later e (at_end h) = is_followed text s rest told c later h

  pub event_fault : HasFollowed does file events files k answer → answer ≡ status.EventFault → IsFollowed (files file) (files events) answer
  event_fault (steps.HasFollowed.stopped h _) e =
      absurd (of_fits (StoppedOutput does) (stopped_texts does) (files file) k answer (λ a. a ≢ status.EventFault) (stopped_fits does) (λ f. cc f) (λ f. cc f) (λ f. cc f) (λ f. cc f) h e)
  event_fault (steps.HasFollowed.followed text s rest told c later h) e = fault_of text s rest told c later e (came does s rest k answer h)

  -- the words were those of a command
  stopped_usage : (text : Bytes) (wanted : Status) (bytes : Bytes) → StoppedOutput does text wanted bytes → wanted ≢ status.Usage
  stopped_usage text wanted bytes h = ((stopped_texts does).answers text wanted bytes h).no_usage

  came_usage : (rest : FileUse) → Came rest answer → answer ≢ status.Usage
  came_usage rest (at_no_memory is left) = λ f. cc (is, f)
  came_usage rest (at_end h) = λ f. never_usage h.ended (sym h.ends ∙ f)

  pub never_usage_of : HasFollowed does file events files k answer → answer ≢ status.Usage
  never_usage_of (steps.HasFollowed.stopped h _) =
      of_fits (StoppedOutput does) (stopped_texts does) (files file) k answer (λ a. a ≢ status.Usage) stopped_usage (λ f. cc f) (λ f. cc f) (λ f. cc f) (λ f. cc f) h
  never_usage_of (steps.HasFollowed.followed text s rest told c later h) = came_usage rest (came does s rest k answer h)
