-- A simulation fits what its event file holds, and goes on fitting it.
use Rattle.std.proofs.Common.{◌≡◌, ◌≢◌, ℕ, ◌+◌, ◌⊎◌, inl, inr, true, false, List, [], ◌∷◌, ◌++◌, length, Option, Some, None, IfSome, refl, sym, ap, ◌∙◌, arith, subst, append-nil, length-append}
use Rattle.rsml_syntax.specs.declared.syntax.Spec.{Spec}
use Rattle.rsml_meaning.specs.Words.{Each}
use Rattle.rsml_meaning.specs.EventLines.{Bytes, Message, is_skipped, breaks, tells, read_line}
use Rattle.rsml_meaning.specs.EventFiles.{Limits, Line, FileFault, long_line, broken_line, long_file, without_return, messages, is_long, is_cut, fault_at, lines_before, IsFirstFault}
use Rattle.rsml_meaning.specs.Laws.{WellFormedHasNoFault, FirstFaultIsOfLine}
use Rattle.rsml_meaning.specs.Runs.{latched}
use Rattle.rsml_meaning.proofs.Lists.{each_append}
use Rattle.rsml_meaning.proofs.Lists.{each_more as each_as}
use Rattle.event_file.specs.Reading.{Reading, Fits, Answers, GivesLine, Begins, line_at, lines_ahead, next_at, next_of, taken, IsRight}
use Rattle.event_file.specs.declared.next.Next.{Next}
use Rattle.event_file.specs.declared.next.Next.TheVariants as next
use Rattle.event_file.proofs.CallerLemmas.{all_ahead, end_is, cut_is}
use Rattle.event_lines.specs.declared.line_fault.LineFault.{LineFault}
use Rattle.event_lines.specs.Told.{rule_of}
use Rattle.simulator.specs.Simulation.{Simulation}
use Rattle.simulator.specs.Fitting.{FitsFile, IsRightAnswer, IsSoundOrTold, StopsAt, answered_fault, fault_in, lines_read}
use Rattle.simulator.specs.declared.upcoming.Upcoming.{Upcoming}
use Rattle.simulator.specs.declared.upcoming.Upcoming.TheVariants as upcoming
use Rattle.simulator.specs.helpers.Turns.{Turning, Takes, said, rule_in, told_in}
use Rattle.simulator.specs.helpers.Progress.{AreSound}
use Rattle.simulator.specs.helpers.Skipping.{IsPassed, Passes}
use Rattle.simulator.specs.helpers.Taking.{simulation_of, final_of}
use Rattle.simulator.proofs.LineLemmas.{long_fault, cut_fault, rule_fault, no_fault, rule_of_said, messages_of_said, sound_whole, fault_is_first, sound_before, each_more}
use Rattle.simulator.proofs.PassingLemmas.{gives, allowed, ahead_of}
use Rattle.simulator.proofs.RunLemmas.{messages_both}
use Rattle.simulator.proofs.TurnLemmas.{said_nothing, said_something}

-- Lines that are skipped.

module _ (s : Spec) (limits : Limits) (content : Bytes) where
  passed_sound : (l : Line) → IsPassed limits content l → fault_at s limits (length content) l ≡ None
  passed_sound l h =
      let text = without_return l.bytes in
      no_fault s limits (length content) l h.not_long h.not_cut (rule_of_said s l text refl ∙ ap rule_in (said_nothing s text h.skipped))

  no_messages : (ls : List Line) → Each (IsPassed limits content) ls → messages s ls ≡ []
  no_messages [] h = refl
  no_messages (l ∷ ls) h =
      let text = without_return l.bytes in
      messages_both s (l ∷ []) ls ∙ ap (λ (ms : List Message). ms ++ messages s ls) (messages_of_said s l text refl ∙ ap told_in (said_nothing s text h.0.skipped)) ∙ no_messages ls h.1

  passed_all : (ls more : List Line) → AreSound s limits content ls → Each (IsPassed limits content) more → AreSound s limits content (ls ++ more)
  passed_all ls more h k =
      each_append (λ (l : Line). fault_at s limits (length content) l ≡ None) ls more h
      (each_as (IsPassed limits content) (λ (l : Line). fault_at s limits (length content) l ≡ None) passed_sound more k)

  same_messages : (ls more : List Line) → Each (IsPassed limits content) more → messages s (ls ++ more) ≡ messages s ls
  same_messages ls more h = messages_both s ls more ∙ ap (λ (ms : List Message). messages s ls ++ ms) (no_messages more h) ∙ append-nil (messages s ls)

-- What is known of the lines that were read, while nothing is answered.

pub record LinesRead (content : Bytes) (t : Turning) (limits : Limits) (at : ℕ) : Type 0 where
  pub begins : Begins content at
  pub sound : AreSound t.spec limits content (lines_ahead at content)
  pub counted : t.events ≡ length (messages t.spec (lines_ahead at content))

not_told : (o : Option FileFault) → (o ≡ None) ⊎ (o ≡ None) → o ≡ None
not_told o h = elim h [ inl e ↦ e | inr e ↦ e ]

-- while no fault is answered
pub untold_sound : (content : Bytes) (m : Simulation) → answered_fault m ≡ None → FitsFile content m → AreSound m.spec m.limits content (lines_read content m)
untold_sound content m none f =
    each_as (IsSoundOrTold content m) (λ (l : Line). fault_at m.spec m.limits (length content) l ≡ None)
    (λ l h. not_told (fault_at m.spec m.limits (length content) l)
    (subst (λ (o : Option FileFault). (fault_at m.spec m.limits (length content) l ≡ None) ⊎ (fault_at m.spec m.limits (length content) l ≡ o)) none h)) (lines_read content m) f.sound

pub unanswered_sound : (content : Bytes) (m : Simulation) → m.answered ≡ None → FitsFile content m → AreSound m.spec m.limits content (lines_read content m)
unanswered_sound content m none f =
    untold_sound content m (ap (λ (o : Option Upcoming). elim o [ Some answer ↦ fault_in answer | None ↦ None ]) none) f

pub lines_known : (content : Bytes) (t : Turning) (r : Reading) → FitsFile content (simulation_of t r None) → LinesRead content t r.limits r.at
lines_known content t r f = record { begins = f.reader.begins; sound = unanswered_sound content (simulation_of t r None) refl f; counted = f.counted }

-- Behind lines that are skipped.

pub messages_behind : (content : Bytes) (t : Turning) (r mid : Reading) → Passes content r mid → messages t.spec (lines_ahead mid.at content) ≡ messages t.spec (lines_ahead r.at content)
messages_behind content t r mid p =
    ap (messages t.spec) p.ahead ∙ same_messages t.spec r.limits content (lines_ahead r.at content) p.lines p.passed

pub lines_behind : (content : Bytes) (t : Turning) (r mid : Reading) → Passes content r mid → LinesRead content t r.limits r.at → LinesRead content t r.limits mid.at
lines_behind content t r mid p k =
    record {
      begins = p.fits.begins;
      sound = subst (AreSound t.spec r.limits content) (sym p.ahead) (passed_all t.spec r.limits content (lines_ahead r.at content) p.lines k.sound p.passed);
      counted = k.counted ∙ ap length (sym (messages_behind content t r mid p));
    }

sound_or_told : (content : Bytes) (m : Simulation) (ls : List Line) → AreSound m.spec m.limits content ls → Each (IsSoundOrTold content m) ls
sound_or_told content m ls h = each_as (λ (l : Line). fault_at m.spec m.limits (length content) l ≡ None) (IsSoundOrTold content m) (λ l e. inl e) ls h

-- The reader gave a line that is not skipped.

module _ (content : Bytes) (t : Turning) (mid r' : Reading) (fits : Fits content mid) (same : mid.limits ≡ r'.limits) (k : LinesRead content t r'.limits mid.at)
    (a : Answers content mid next.Line r') (unskipped : is_skipped r'.line ≡ false)
  where
    abbrev s : Spec
    s = t.spec

    abbrev g : GivesLine content mid.at r'
    g = gives content mid r' fits a

    abbrev tests : (is_long r'.limits g.line ≡ false) × (is_cut r'.limits (length content) g.line ≡ false)
    tests = allowed content mid r' fits a r'.limits same

    ahead : lines_ahead r'.at content ≡ lines_ahead mid.at content ++ (g.line ∷ [])
    ahead = ahead_of content mid r' fits a

    messages_on : messages s (lines_ahead r'.at content) ≡ messages s (lines_ahead mid.at content) ++ told_in (said s r'.line)
    messages_on =
        ap (messages s) ahead ∙ messages_both s (lines_ahead mid.at content) (g.line ∷ [])
        ∙ ap (λ (ms : List Message). messages s (lines_ahead mid.at content) ++ ms) (messages_of_said s g.line r'.line g.bytes)

    -- It tells a message, which was taken.
    module _ (number : ℕ) (t' : Turning) (takes : Takes (read_line s r'.line) number t t') where
      said_is : said s r'.line ≡ Some (tells takes.message)
      said_is = said_something s r'.line (tells takes.message) unskipped takes.told

      pub next_message : messages s (lines_ahead r'.at content) ≡ messages s (lines_ahead mid.at content) ++ (takes.message ∷ [])
      next_message = messages_on ∙ ap (λ o. messages s (lines_ahead mid.at content) ++ told_in o) said_is

      line_sound : fault_at s r'.limits (length content) g.line ≡ None
      line_sound = no_fault s r'.limits (length content) g.line tests.0 tests.1 (rule_of_said s g.line r'.line g.bytes ∙ ap rule_in said_is)

      sound_on : AreSound s r'.limits content (lines_ahead r'.at content)
      sound_on =
          subst (AreSound s r'.limits content) (sym ahead)
          (each_more (λ (l : Line). fault_at s r'.limits (length content) l ≡ None) (lines_ahead mid.at content) g.line k.sound line_sound)

      abbrev taken_so : Turning
      taken_so = record t { world = latched t.spec t.world takes.message; present = takes.message.receive.raised ∷ []; events = t.events + 1 }

      so_fits : FitsFile content (simulation_of taken_so r' None)
      so_fits = record {
        reader = a.fits;
        sound = sound_or_told content (simulation_of taken_so r' None) (lines_ahead r'.at content) sound_on;
        counted =
            let long : length (messages s (lines_ahead r'.at content)) ≡ length (messages s (lines_ahead mid.at content) ++ (takes.message ∷ [])) = ap length next_message in
            let counted = k.counted in
            omega (arith, counted, long, length-append (messages s (lines_ahead mid.at content)) (takes.message ∷ []));
        right = tt;
      }

      pub taken_fits : FitsFile content (simulation_of t' r' None)
      taken_fits = subst (λ (z : Turning). FitsFile content (simulation_of z r' None)) (sym takes.changes) so_fits

    -- It breaks a rule.
    module _ (fault : LineFault) (is : read_line s r'.line ≡ breaks (rule_of fault)) where
      said_broken : said s r'.line ≡ Some (breaks (rule_of fault))
      said_broken = said_something s r'.line (breaks (rule_of fault)) unskipped is

      broken : fault_at s r'.limits (length content) g.line ≡ Some (broken_line g.line.number (rule_of fault))
      broken = rule_fault s r'.limits (length content) g.line (rule_of fault) tests.0 tests.1 (rule_of_said s g.line r'.line g.bytes ∙ ap rule_in said_broken)

      pub no_more : messages s (lines_ahead r'.at content) ≡ messages s (lines_ahead mid.at content)
      no_more = messages_on ∙ ap (λ o. messages s (lines_ahead mid.at content) ++ told_in o) said_broken ∙ append-nil (messages s (lines_ahead mid.at content))

      numbered : broken_line g.line.number (rule_of fault) ≡ broken_line r'.number (rule_of fault)
      numbered = ap (λ (n : ℕ). broken_line n (rule_of fault)) (sym g.number)

      abbrev stopped : Simulation
      stopped = simulation_of t r' (Some (upcoming.LineFault r'.number fault))

      pub broken_fits : FirstFaultIsOfLine → FitsFile content (simulation_of t r' (Some (upcoming.LineFault r'.number fault)))
      broken_fits first_is = record {
        reader = a.fits;
        sound =
            subst (λ (ls : List Line). Each (IsSoundOrTold content stopped) ls) (sym ahead)
            (each_more (IsSoundOrTold content stopped) (lines_ahead mid.at content) g.line (sound_or_told content stopped (lines_ahead mid.at content) k.sound) (inr (broken ∙ ap Some numbered)));
        counted = k.counted ∙ ap length (sym no_more);
        right = record {
          first = subst (IsFirstFault s r'.limits content) numbered (fault_is_first s r'.limits content mid.at k.begins k.sound g.line g.there (broken_line g.line.number (rule_of fault)) broken first_is);
          came = no_more ∙ ap (messages s) (sym (sound_before s r'.limits content mid.at k.begins k.sound g.line g.there (broken_line g.line.number (rule_of fault)) broken));
        };
      }

-- The reader has no line.

module _ (well_formed : WellFormedHasNoFault) (first_is : FirstFaultIsOfLine) (content : Bytes) (t : Turning) (mid r' : Reading) (same : mid.limits ≡ r'.limits)
    (k : LinesRead content t r'.limits mid.at) (at_same : r'.at ≡ mid.at)
  where
    lines_same : lines_ahead r'.at content ≡ lines_ahead mid.at content
    lines_same = ap (λ (n : ℕ). lines_ahead n content) at_same

    fits_with : (answer : Upcoming) → Fits content r' → IsRightAnswer content (simulation_of t r' (Some answer)) answer → FitsFile content (simulation_of t r' (Some answer))
    fits_with answer fits right = record {
      reader = fits;
      sound = sound_or_told content (simulation_of t r' (Some answer)) (lines_ahead r'.at content) (subst (AreSound t.spec r'.limits content) (sym lines_same) k.sound);
      counted = k.counted ∙ ap (λ (ls : List Line). length (messages t.spec ls)) (sym lines_same);
      right = right;
    }

    -- the first fault is that of the line there
    stops_at : (answer : Upcoming) (line : Line) → line_at content mid.at ≡ Some line → (f : FileFault) → fault_at t.spec r'.limits (length content) line ≡ Some f
        → StopsAt content (simulation_of t r' (Some answer)) f
    stops_at answer line there f is = record {
      first = fault_is_first t.spec r'.limits content mid.at k.begins k.sound line there f is first_is;
      came = ap (messages t.spec) (lines_same ∙ sym (sound_before t.spec r'.limits content mid.at k.begins k.sound line there f is));
    }

    comes_there : (n : Next) → n ≡ next_at mid.limits content mid.at → next_of r'.limits (length content) (line_at content mid.at) ≡ n
    comes_there n e = sym (e ∙ ap (λ (z : Limits). next_at z content mid.at) same)

    right_of : Fits content r' → r'.settled ≡ Some next.ReadFault → lines_before (taken r') content ≡ lines_ahead r'.at content
    right_of f e = let told : IfSome (Some next.ReadFault) (IsRight content r') = subst (λ (o : Option Next). IfSome o (IsRight content r')) e f.right in told

    pub final_fits : (n : Next) → n ≢ next.Line → Answers content mid n r' → r'.settled ≡ Some n
        → FitsFile content (simulation_of t r' (Some (final_of n t.events r'.number)))
    final_fits next.Line ne a settled = absurd (ne refl)
    final_fits next.End ne a settled =
        let comes = a.comes (let no : next.End ≡ next.ReadFault → ⊥ = λ e. cc in no) in
        let none = end_is r'.limits (length content) (line_at content mid.at) (comes_there next.End comes) in
        fits_with (upcoming.Ended t.events) a.fits (record {
          formed = sound_whole t.spec r'.limits content mid.at k.begins k.sound well_formed none;
          all = lines_same ∙ all_ahead content mid.at k.begins none;
          count = refl;
        })
    final_fits next.ReadFault ne a settled = fits_with upcoming.ReadFault a.fits (right_of a.fits settled)
    final_fits next.LineTooLong ne a settled =
        let found = a.long refl in
        let long : is_long r'.limits found.line ≡ true = found.long in
        fits_with (upcoming.LineTooLong r'.number) a.fits
        (subst (λ (n : ℕ). StopsAt content (simulation_of t r' (Some (upcoming.LineTooLong r'.number))) (long_line n)) (sym found.number)
        (stops_at (upcoming.LineTooLong r'.number) found.line found.there (long_line found.line.number) (long_fault t.spec r'.limits (length content) found.line long)))
    final_fits next.TooLong ne a settled =
        let comes = a.comes (let no : next.TooLong ≡ next.ReadFault → ⊥ = λ e. cc in no) in
        let cut = cut_is r'.limits (length content) (line_at content mid.at) (comes_there next.TooLong comes) in
        fits_with upcoming.TooLong a.fits (stops_at upcoming.TooLong cut.0 cut.1 long_file (cut_fault t.spec r'.limits (length content) cut.0 cut.2 cut.3))
