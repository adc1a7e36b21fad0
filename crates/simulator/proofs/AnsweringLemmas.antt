-- What `next_event` answers, and that the simulation fits what its event file holds after it.
use Rattle.std.proofs.Common.{◌≡◌, ◌≢◌, ℕ, ◌+◌, ◌<◌, ◌≤◌, false, List, [], ◌∷◌, ◌++◌, length, Option, Some, None, IfSome, refl, sym, ap, ◌∙◌, subst, arith}
use Rattle.rsml_syntax.specs.declared.syntax.Spec.{Spec}
use Rattle.rsml_meaning.specs.Words.{Each}
use Rattle.rsml_meaning.specs.EventLines.{Bytes, Message, is_skipped, breaks, read_line}
use Rattle.rsml_meaning.specs.EventFiles.{Limits, messages, program_limits}
use Rattle.rsml_meaning.specs.Laws.{WellFormedHasNoFault, FirstFaultIsOfLine}
use Rattle.rsml_meaning.specs.Runs.{first_world, latched}
use Rattle.event_file.specs.Reading.{Reading, Fits, lines_ahead, new_reading}
use Rattle.event_file.specs.declared.next.Next.{Next}
use Rattle.event_file.specs.declared.next.Next.TheVariants as next
use Rattle.event_file.proofs.AnswerLemmas.{new_fits}
use Rattle.event_file.proofs.CallerLemmas.{none_ahead}
use Rattle.event_lines.specs.declared.line_fault.LineFault.{LineFault}
use Rattle.event_lines.specs.Told.{rule_of}
use Rattle.simulator.specs.Simulation.{Simulation, IsNew}
use Rattle.simulator.specs.Fitting.{FitsFile, IsSoundOrTold, IsRightAnswer, Comes, NoneComes, Goes, lines_read}
use Rattle.simulator.specs.declared.upcoming.Upcoming.{Upcoming}
use Rattle.simulator.specs.declared.upcoming.Upcoming.TheVariants as upcoming
use Rattle.simulator.specs.helpers.Turns.{Turning, Takes}
use Rattle.simulator.specs.helpers.Ready.{IsFinal, IsGoing}
use Rattle.simulator.specs.helpers.Skipping.{Passes, AnswersBehind}
use Rattle.simulator.specs.helpers.Taking.{simulation_of, if_final, final_of, LineGoes, AnswerGoes}
use Rattle.simulator.proofs.FittingLemmas.{LinesRead, lines_known, lines_behind, messages_behind, next_message, taken_fits, no_more, broken_fits, final_fits}

-- A new simulation fits all contents.

pub new_fits_file : (content : Bytes) (m : Simulation) → IsNew m → FitsFile content m
new_fits_file content m new = record {
  reader = subst (λ (r : Reading). Fits content r) (sym new.unread) (new_fits m.limits content);
  sound = subst (λ ls. Each (IsSoundOrTold content m) ls) (sym nothing) tt;
  counted = new.uncounted ∙ ap (λ ls. length (messages m.spec ls)) (sym nothing);
  right = subst (λ (o : Option Upcoming). IfSome o (IsRightAnswer content m)) (sym new.unanswered) tt;
}
  where
    nothing : lines_read content m ≡ []
    nothing = ap (λ (r : Reading). lines_ahead r.at content) new.unread ∙ none_ahead content

-- The answers, by what the reader gave.

pub goes_without : (n : Next) (r : Reading) (t : Turning) (answer : Upcoming) → n ≢ next.Line → answer ≡ final_of n t.events r.number → AnswerGoes n r t answer t
goes_without next.Line r t answer ne is = absurd (ne refl)
goes_without next.End r t answer ne is = (is, refl)
goes_without next.ReadFault r t answer ne is = (is, refl)
goes_without next.LineTooLong r t answer ne is = (is, refl)
goes_without next.TooLong r t answer ne is = (is, refl)

pub final_without : (answer : Upcoming) → ((k : ℕ) → answer ≡ upcoming.Event k → ⊥) → if_final answer ≡ Some answer
final_without (upcoming.Event k) ne = absurd (ne k refl)
final_without (upcoming.Ended n) ne = refl
final_without (upcoming.LineFault n fault) ne = refl
final_without (upcoming.LineTooLong n) ne = refl
final_without upcoming.ReadFault ne = refl
final_without upcoming.TooLong ne = refl

-- The cases of an answer on a line.

data OnLine (r : Reading) (t : Turning) (answer : Upcoming) (t' : Turning) : Type 0 where
  took : (k : ℕ) → answer ≡ upcoming.Event k → Takes (read_line t.spec r.line) k t t' → OnLine r t answer t'
  broke : (fault : LineFault) → answer ≡ upcoming.LineFault r.number fault → read_line t.spec r.line ≡ breaks (rule_of fault) → t' ≡ t → OnLine r t answer t'

on_line : (r : Reading) (t : Turning) (answer : Upcoming) (t' : Turning) → LineGoes r t answer t' → OnLine r t answer t'
on_line r t (upcoming.Event k) t' h = took k refl h
on_line r t (upcoming.Ended n) t' h = broke h.0 h.1 h.2 h.3
on_line r t (upcoming.LineFault n fault) t' h = broke h.0 h.1 h.2 h.3
on_line r t (upcoming.LineTooLong n) t' h = broke h.0 h.1 h.2 h.3
on_line r t upcoming.ReadFault t' h = broke h.0 h.1 h.2 h.3
on_line r t upcoming.TooLong t' h = broke h.0 h.1 h.2 h.3

-- Where it is told what the file holds.

module _ (well_formed : WellFormedHasNoFault) (first_is : FirstFaultIsOfLine) (content : Bytes) (t t' : Turning) (r r' : Reading) (f : FitsFile content (simulation_of t r None))
    (limits : r'.limits ≡ r.limits)
  where
    known : (n : Next) → (b : AnswersBehind content r n r') → LinesRead content t r'.limits b.mid.at
    known n b =
        subst (λ (z : Limits). LinesRead content t z b.mid.at) (sym limits) (lines_behind content t r b.mid b.passes (lines_known content t r f))

    mid_limits : (n : Next) → (b : AnswersBehind content r n r') → b.mid.limits ≡ r'.limits
    mid_limits n b = b.passes.limits ∙ sym limits

    line_fits : (answer : Upcoming) → (b : AnswersBehind content r next.Line r') → is_skipped r'.line ≡ false → OnLine r' t answer t' → FitsFile content (simulation_of t' r' (if_final answer))
    line_fits answer b unskipped (took k is takes) =
        subst (λ (a : Upcoming). FitsFile content (simulation_of t' r' (if_final a))) (sym is)
        (taken_fits content t b.mid r' b.passes.fits (mid_limits next.Line b) (known next.Line b) b.answers unskipped k t' takes)
    line_fits answer b unskipped (broke fault is line same) =
        subst (λ (a : Upcoming). FitsFile content (simulation_of t' r' (if_final a))) (sym is)
        (subst (λ (z : Turning). FitsFile content (simulation_of z r' (Some (upcoming.LineFault r'.number fault)))) (sym same)
        (broken_fits content t b.mid r' b.passes.fits (mid_limits next.Line b) (known next.Line b) b.answers unskipped fault line first_is))

    none_fits : (n : Next) → n ≢ next.Line → (b : AnswersBehind content r n r') → r'.settled ≡ Some n → FitsFile content (simulation_of t r' (Some (final_of n t.events r'.number)))
    none_fits n ne b settled = final_fits well_formed first_is content t b.mid r' (mid_limits n b) (known n b) (b.stays ne) n ne b.answers settled

-- what is final of a final answer
final_is : (n : Next) (events number : ℕ) → if_final (final_of n events number) ≡ Some (final_of n events number)
final_is next.Line events number = refl
final_is next.End events number = refl
final_is next.ReadFault events number = refl
final_is next.LineTooLong events number = refl
final_is next.TooLong events number = refl

abbrev IsNone : (n : Next) → Reading → Turning → Upcoming → Turning → Type 0
IsNone n r t answer t' = (answer ≡ final_of n t.events r.number) × (t' ≡ t)

-- the reader gave a line, or none
by_next : {P : Type 0} (n : Next) (r : Reading) (t : Turning) (answer : Upcoming) (t' : Turning) → AnswerGoes n r t answer t'
    → (n ≡ next.Line → OnLine r t answer t' → P) → (n ≢ next.Line → IsNone n r t answer t' → P) → P
by_next next.Line r t answer t' h line none = line refl (on_line r t answer t' h)
by_next next.End r t answer t' h line none = none (let no : next.End ≡ next.Line → ⊥ = λ e. cc in no) h
by_next next.ReadFault r t answer t' h line none = none (let no : next.ReadFault ≡ next.Line → ⊥ = λ e. cc in no) h
by_next next.LineTooLong r t answer t' h line none = none (let no : next.LineTooLong ≡ next.Line → ⊥ = λ e. cc in no) h
by_next next.TooLong r t answer t' h line none = none (let no : next.TooLong ≡ next.Line → ⊥ = λ e. cc in no) h

-- it goes on fitting
pub answer_fits : WellFormedHasNoFault → FirstFaultIsOfLine → (content : Bytes) (t t' : Turning) (r r' : Reading) (n : Next) (answer : Upcoming) → r'.limits ≡ r.limits
    → (n ≢ next.Line → r'.settled ≡ Some n) → (n ≡ next.Line → is_skipped r'.line ≡ false) → AnswerGoes n r' t answer t'
    → FitsFile content (simulation_of t r None) → AnswersBehind content r n r' → FitsFile content (simulation_of t' r' (if_final answer))
answer_fits well_formed first_is content t t' r r' n answer limits settles unskipped goes f b =
    by_next n r' t answer t' goes
    (λ is on. line_fits well_formed first_is content t t' r r' f limits answer (subst (λ (z : Next). AnswersBehind content r z r') is b) (unskipped is) on)
    (λ ne none.
    subst (λ (a : Upcoming). FitsFile content (simulation_of t' r' (if_final a))) (sym none.0)
    (subst (λ (o : Option Upcoming). FitsFile content (simulation_of t' r' o)) (sym (final_is n t.events r'.number))
    (subst (λ (z : Turning). FitsFile content (simulation_of z r' (Some (final_of n t.events r'.number)))) (sym none.1)
    (none_fits well_formed first_is content t t' r r' f limits n ne b (settles ne)))))

-- What the answer does.

each_told : {A : Type 0} {P Q : A → Type 0} (o : Option A) → ((x : A) → P x → Q x) → IfSome o P → IfSome o Q
each_told None f h = h
each_told (Some x) f h = f x h

both_told : {A : Type 0} {P Q R : A → Type 0} (o : Option A) → ((x : A) → P x → Q x → R x) → IfSome o P → IfSome o Q → IfSome o R
both_told None f h k = h
both_told (Some x) f h k = f x h k

with_limits : (t : Turning) (r' : Reading) (a : Option Upcoming) (limits : Limits) → r'.limits ≡ limits
    → simulation_of t r' a ≡ (let m : Simulation = record { spec = t.spec; limits = limits; reading = r'; answered = a; world = t.world; present = t.present; events = t.events; last = t.last } in m)
with_limits t r' a limits e =
    ap (λ (z : Limits). let m : Simulation = record { spec = t.spec; limits = z; reading = r'; answered = a; world = t.world; present = t.present; events = t.events; last = t.last } in m) e

-- a final answer
goes_final : (told : Option Bytes) (m m' : Simulation) (answer : Upcoming) → if_final answer ≡ Some answer → NoneComes told answer m m' → Goes told m answer m'
goes_final told m m' (upcoming.Event k) final h = absurd (let no : None ≡ Some (upcoming.Event k) → ⊥ = λ e. cc in no final)
goes_final told m m' (upcoming.Ended n) final h = h
goes_final told m m' (upcoming.LineFault n fault) final h = h
goes_final told m m' (upcoming.LineTooLong n) final h = h
goes_final told m m' upcoming.ReadFault final h = h
goes_final told m m' upcoming.TooLong final h = h

module _ (told : Option Bytes) (t t' : Turning) (r r' : Reading) (limits : r'.limits ≡ r.limits) where
  ends_so : (answer : Upcoming) → if_final answer ≡ Some answer → t' ≡ t
      → IfSome told (λ content. messages t.spec (lines_ahead r'.at content) ≡ messages t.spec (lines_ahead r.at content))
      → Goes told (simulation_of t r None) answer (simulation_of t' r' (if_final answer))
  ends_so answer final same none =
      goes_final told (simulation_of t r None) (simulation_of t' r' (if_final answer)) answer final
      (record {
        none = none;
        changes = ap (λ (z : Turning). simulation_of z r' (if_final answer)) same ∙ ap (λ (o : Option Upcoming). simulation_of t r' o) final ∙ with_limits t r' (Some answer) r.limits limits;
      })

  known_behind : (content : Bytes) (mid : Reading) → Passes content r mid → FitsFile content (simulation_of t r None) → LinesRead content t r'.limits mid.at
  known_behind content mid passes f =
      subst (λ (z : Limits). LinesRead content t z mid.at) (sym limits) (lines_behind content t r mid passes (lines_known content t r f))

  -- no message came by a line that breaks a rule, or by none
  none_by_line : (fault : LineFault) → read_line t.spec r'.line ≡ breaks (rule_of fault) → is_skipped r'.line ≡ false
      → IfSome told (λ content. FitsFile content (simulation_of t r None)) → IfSome told (λ content. AnswersBehind content r next.Line r')
      → IfSome told (λ content. messages t.spec (lines_ahead r'.at content) ≡ messages t.spec (lines_ahead r.at content))
  none_by_line fault is unskipped f b =
      both_told {P = λ content. FitsFile content (simulation_of t r None)} {Q = λ content. AnswersBehind content r next.Line r'}
      {R = λ content. messages t.spec (lines_ahead r'.at content) ≡ messages t.spec (lines_ahead r.at content)} told
      (λ content p q.
      no_more content t q.mid r' q.passes.fits (q.passes.limits ∙ sym limits) (known_behind content q.mid q.passes p) q.answers unskipped fault is
      ∙ messages_behind content t r q.mid q.passes) f b

  none_by_none : (n : Next) → n ≢ next.Line → IfSome told (λ content. AnswersBehind content r n r')
      → IfSome told (λ content. messages t.spec (lines_ahead r'.at content) ≡ messages t.spec (lines_ahead r.at content))
  none_by_none n ne b =
      each_told {P = λ content. AnswersBehind content r n r'} {Q = λ content. messages t.spec (lines_ahead r'.at content) ≡ messages t.spec (lines_ahead r.at content)} told
      (λ content q. ap (λ (k : ℕ). messages t.spec (lines_ahead k content)) (q.stays ne) ∙ messages_behind content t r q.mid q.passes) b

  comes_so : (k : ℕ) (takes : Takes (read_line t.spec r'.line) k t t')
      → IfSome told (λ content. messages t.spec (lines_ahead r'.at content) ≡ messages t.spec (lines_ahead r.at content) ++ (takes.message ∷ []))
      → Comes told k (simulation_of t r None) (simulation_of t' r' None)
  comes_so k takes next = record {
    message = takes.message;
    receive = takes.receive;
    next = next;
    changes = ap (λ (z : Turning). simulation_of z r' None) takes.changes ∙ with_limits (record t {
      world = latched t.spec t.world takes.message;
      present = takes.message.receive.raised ∷ [];
      events = t.events + 1;
    }) r' None r.limits limits;
  }

  next_told : (k : ℕ) (takes : Takes (read_line t.spec r'.line) k t t') → is_skipped r'.line ≡ false
      → IfSome told (λ content. FitsFile content (simulation_of t r None)) → IfSome told (λ content. AnswersBehind content r next.Line r')
      → IfSome told (λ content. messages t.spec (lines_ahead r'.at content) ≡ messages t.spec (lines_ahead r.at content) ++ (takes.message ∷ []))
  next_told k takes unskipped f b =
      both_told {P = λ content. FitsFile content (simulation_of t r None)} {Q = λ content. AnswersBehind content r next.Line r'}
      {R = λ content. messages t.spec (lines_ahead r'.at content) ≡ messages t.spec (lines_ahead r.at content) ++ (takes.message ∷ [])} told
      (λ content p q.
      next_message content t q.mid r' q.passes.fits (q.passes.limits ∙ sym limits)
      (subst (λ (z : Limits). LinesRead content t z q.mid.at) (sym limits) (lines_behind content t r q.mid q.passes (lines_known content t r p)))
      q.answers unskipped k t' takes ∙ ap (λ (ms : List Message). ms ++ (takes.message ∷ [])) (messages_behind content t r q.mid q.passes)) f b

  pub answer_goes : (n : Next) (answer : Upcoming) → (n ≡ next.Line → is_skipped r'.line ≡ false) → AnswerGoes n r' t answer t'
      → IfSome told (λ content. FitsFile content (simulation_of t r None)) → IfSome told (λ content. AnswersBehind content r n r')
      → Goes told (simulation_of t r None) answer (simulation_of t' r' (if_final answer))
  answer_goes n answer unskipped goes f b =
      by_next n r' t answer t' goes
      (λ is on. on_a_line (unskipped is) on (subst (λ (z : Next). IfSome told (λ content. AnswersBehind content r z r')) is b))
      (λ ne none. ends_so answer (ap if_final none.0 ∙ final_is n t.events r'.number ∙ ap Some (sym none.0)) none.1 (none_by_none n ne b))
    where
      on_a_line : is_skipped r'.line ≡ false → OnLine r' t answer t' → IfSome told (λ content. AnswersBehind content r next.Line r')
          → Goes told (simulation_of t r None) answer (simulation_of t' r' (if_final answer))
      on_a_line u (took k is takes) q =
          subst (λ (a : Upcoming). Goes told (simulation_of t r None) a (simulation_of t' r' (if_final a))) (sym is) (comes_so k takes (next_told k takes u f q))
      on_a_line u (broke fault is line same) q = ends_so answer (ap if_final is ∙ ap Some (sym is)) same (none_by_line fault line u f q)

-- the same of what may be told
pub fits_told : WellFormedHasNoFault → FirstFaultIsOfLine → (told : Option Bytes) (t t' : Turning) (r r' : Reading) (n : Next) (answer : Upcoming) → r'.limits ≡ r.limits
    → (n ≢ next.Line → r'.settled ≡ Some n) → (n ≡ next.Line → is_skipped r'.line ≡ false) → AnswerGoes n r' t answer t'
    → IfSome told (λ content. FitsFile content (simulation_of t r None)) → IfSome told (λ content. AnswersBehind content r n r')
    → IfSome told (λ content. FitsFile content (simulation_of t' r' (if_final answer)))
fits_told well_formed first_is told t t' r r' n answer limits settles unskipped goes f b =
    both_told {P = λ content. FitsFile content (simulation_of t r None)} {Q = λ content. AnswersBehind content r n r'} {R = λ content. FitsFile content (simulation_of t' r' (if_final answer))} told
    (λ content p q. answer_fits well_formed first_is content t t' r r' n answer limits settles unskipped goes p q) f b

-- What the answers say beside that.

pub answers_read : (n : Next) (r : Reading) (t : Turning) (answer : Upcoming) (t' : Turning) → AnswerGoes n r t answer t' → answer ≡ upcoming.ReadFault → n ≡ next.ReadFault
answers_read next.ReadFault r t answer t' h is = refl
answers_read next.Line r t answer t' h is = absurd (no (on_line r t answer t' h))
  where
    no : OnLine r t answer t' → ⊥
    no (took k e takes) = let none : upcoming.Event k ≡ upcoming.ReadFault → ⊥ = λ x. cc in none (sym e ∙ is)
    no (broke fault e line same) = let none : upcoming.LineFault r.number fault ≡ upcoming.ReadFault → ⊥ = λ x. cc in none (sym e ∙ is)
answers_read next.End r t answer t' h is = absurd (let none : upcoming.Ended t.events ≡ upcoming.ReadFault → ⊥ = λ x. cc in none (sym h.0 ∙ is))
answers_read next.LineTooLong r t answer t' h is = absurd (let none : upcoming.LineTooLong r.number ≡ upcoming.ReadFault → ⊥ = λ x. cc in none (sym h.0 ∙ is))
answers_read next.TooLong r t answer t' h is = absurd (let none : upcoming.TooLong ≡ upcoming.ReadFault → ⊥ = λ x. cc in none (sym h.0 ∙ is))

-- an event comes by a line
pub answers_event : (n : Next) (r : Reading) (t : Turning) (answer : Upcoming) (t' : Turning) (k : ℕ) → AnswerGoes n r t answer t' → answer ≡ upcoming.Event k → n ≡ next.Line
answers_event next.Line r t answer t' k h is = refl
answers_event next.ReadFault r t answer t' k h is = absurd (let none : upcoming.ReadFault ≡ upcoming.Event k → ⊥ = λ x. cc in none (sym h.0 ∙ is))
answers_event next.End r t answer t' k h is = absurd (let none : upcoming.Ended t.events ≡ upcoming.Event k → ⊥ = λ x. cc in none (sym h.0 ∙ is))
answers_event next.LineTooLong r t answer t' k h is = absurd (let none : upcoming.LineTooLong r.number ≡ upcoming.Event k → ⊥ = λ x. cc in none (sym h.0 ∙ is))
answers_event next.TooLong r t answer t' k h is = absurd (let none : upcoming.TooLong ≡ upcoming.Event k → ⊥ = λ x. cc in none (sym h.0 ∙ is))

any_told : {A : Type 0} {P : A → Type 0} (o : Option A) → ((x : A) → P x) → IfSome o P
any_told None f = tt
any_told (Some x) f = f x

-- a final answer that was given before is given again
pub again : (told : Option Bytes) (m : Simulation) (answer : Upcoming) → IfSome m.answered IsFinal → m.answered ≡ Some answer → Goes told m answer m
again told m answer final is = by answer is (let there : IfSome (Some answer) IsFinal = subst (λ (o : Option Upcoming). IfSome o IsFinal) is final in there)
  where
    stays : (a : Upcoming) → m.answered ≡ Some a → NoneComes told a m m
    stays a e = record {
      none = any_told {P = λ content. messages m.spec (lines_read content m) ≡ messages m.spec (lines_read content m)} told (λ content. refl);
      changes = ap (λ (o : Option Upcoming). record m { answered = o }) e;
    }

    by : (a : Upcoming) → m.answered ≡ Some a → IsFinal a → Goes told m a m
    by (upcoming.Event k) e f = absurd f
    by (upcoming.Ended n) e f = stays (upcoming.Ended n) e
    by (upcoming.LineFault n fault) e f = stays (upcoming.LineFault n fault) e
    by (upcoming.LineTooLong n) e f = stays (upcoming.LineTooLong n) e
    by upcoming.ReadFault e f = stays upcoming.ReadFault e
    by upcoming.TooLong e f = stays upcoming.TooLong e

-- what is kept as final is final
pub kept_final : (answer : Upcoming) → IfSome (if_final answer) IsFinal
kept_final (upcoming.Event k) = tt
kept_final (upcoming.Ended n) = tt
kept_final (upcoming.LineFault n fault) = tt
kept_final (upcoming.LineTooLong n) = tt
kept_final upcoming.ReadFault = tt
kept_final upcoming.TooLong = tt

-- What a simulation keeps true.

-- one that begins
pub new_is : (t : Turning) (r : Reading) (s : Spec) (limits : Limits) → t.spec ≡ s → t.world ≡ first_world s → t.last.world ≡ first_world s → t.last.taken ≡ [] → t.last.sent ≡ [] → t.present ≡ []
    → t.events ≡ 0 → r ≡ new_reading limits → IsNew (simulation_of t r None)
new_is t r s limits spec first last none_taken none_sent none uncounted unread = record {
  unread = unread ∙ ap new_reading (sym (ap (λ (z : Reading). z.limits) unread));
  unanswered = refl;
  first = first ∙ ap first_world (sym spec);
  last = last ∙ ap first_world (sym spec);
  none_taken = none_taken;
  none_sent = none_sent;
  none = none;
  uncounted = uncounted;
}

-- an event came by a line, and then one is counted at most
few_on : (n : Next) (r : Reading) (t : Turning) (answer : Upcoming) (t' : Turning) (at : ℕ) → AnswerGoes n r t answer t' → t.events ≤ at → at ≤ r.at → (n ≡ next.Line → at < r.at) → t'.events ≤ r.at
few_on n r t answer t' at goes few on forward =
    by_next n r t answer t' goes
    (λ is line. by_line (forward is) line)
    (λ ne none. let same = ap (λ (z : Turning). z.events) none.1 in omega (arith, same, few, on))
  where
    by_line : at < r.at → OnLine r t answer t' → t'.events ≤ r.at
    by_line l (took k e takes) = let more = ap (λ (z : Turning). z.events) takes.changes in omega (arith, more, few, l)
    by_line l (broke fault e is same) = let events = ap (λ (z : Turning). z.events) same in omega (arith, events, few, l)

-- what is not final is an event
an_event : (answer : Upcoming) → if_final answer ≡ None → (k : ℕ) × (answer ≡ upcoming.Event k)
an_event (upcoming.Event k) h = (k, refl)
an_event (upcoming.Ended n) h = absurd (let no : Some (upcoming.Ended n) ≡ None → ⊥ = λ e. cc in no h)
an_event (upcoming.LineFault n fault) h = absurd (let no : Some (upcoming.LineFault n fault) ≡ None → ⊥ = λ e. cc in no h)
an_event (upcoming.LineTooLong n) h = absurd (let no : Some (upcoming.LineTooLong n) ≡ None → ⊥ = λ e. cc in no h)
an_event upcoming.ReadFault h = absurd (let no : Some upcoming.ReadFault ≡ None → ⊥ = λ e. cc in no h)
an_event upcoming.TooLong h = absurd (let no : Some upcoming.TooLong ≡ None → ⊥ = λ e. cc in no h)

pub goes_on : (t t' : Turning) (r r' : Reading) (n : Next) (answer : Upcoming) → AnswerGoes n r' t answer t' → IsGoing r None t.events → r'.limits ≡ r.limits → r'.at ≤ r'.limits.file
    → r.at ≤ r'.at → (n ≡ next.Line → r.at < r'.at) → (n ≡ next.Line → r'.settled ≢ Some next.ReadFault) → IsGoing r' (if_final answer) t'.events
goes_on t t' r r' n answer goes going limits within on forward unrefused = record {
  limit = subst (λ (z : Limits). z.file ≤ program_limits.file) (sym limits) going.limit;
  within = within;
  few = few_on n r' t answer t' r.at goes going.few on forward;
  final = kept_final answer;
  unrefused = λ none. let event = an_event answer none in unrefused (answers_event n r' t answer t' event.0 goes event.1);
}

-- its reader fits the file
pub reader_fits : (told : Option Bytes) (t : Turning) (r : Reading) (a : Option Upcoming) → IfSome told (λ content. FitsFile content (simulation_of t r a)) → IfSome told (λ content. Fits content r)
reader_fits told t r a h = each_told {P = λ content. FitsFile content (simulation_of t r a)} {Q = λ content. Fits content r} told (λ content f. f.reader) h

-- a round changes nothing of that
pub fits_rest : (content : Bytes) (m m' : Simulation) → m' ≡ record m { world = m'.world; present = m'.present; last = m'.last } → FitsFile content m → FitsFile content m'
fits_rest content m m' rest f = subst (FitsFile content) (sym rest) (let there : FitsFile content left = record { reader = f.reader; sound = f.sound; counted = f.counted; right = right_left m.answered f.right } in there)
  where
    left : Simulation
    left = record m { world = m'.world; present = m'.present; last = m'.last }

    right_at : (a : Upcoming) → IsRightAnswer content m a → IsRightAnswer content left a
    right_at (upcoming.Event k) h = h
    right_at (upcoming.Ended n) h = record { formed = h.formed; all = h.all; count = h.count }
    right_at (upcoming.LineFault n fault) h = record { first = h.first; came = h.came }
    right_at (upcoming.LineTooLong n) h = record { first = h.first; came = h.came }
    right_at upcoming.ReadFault h = h
    right_at upcoming.TooLong h = record { first = h.first; came = h.came }

    right_left : (o : Option Upcoming) → IfSome o (IsRightAnswer content m) → IfSome o (IsRightAnswer content left)
    right_left None h = h
    right_left (Some a) h = right_at a h
