-- How far counting an event file has come, and what it comes to.
use Rattle.std.proofs.Common.{◌≡◌, ℕ, ◌+◌, ◌*◌, ◌≤◌, ◌^◌, List, [], ◌∷◌, ◌++◌, length, Option, IfSome, refl, sym, ap, ◌∙◌, subst, arith, append-nil, length-append}
use Rattle.std.proofs.lemmas.Grind.{flat_map-append}
use Rattle.rsml_syntax.specs.declared.syntax.Spec.{Spec}
use Rattle.rsml_meaning.specs.EventLines.{Bytes}
use Rattle.rsml_meaning.specs.EventFiles.{FileFault, long_line, broken_line, long_file, messages, lines_of, lines_before, sound_lines}
use Rattle.rsml_meaning.specs.Runs.{Reaction, rounds_in}
use Rattle.rsml_meaning.specs.Steps.{Round}
use Rattle.event_file.specs.Reading.{Reading, lines_ahead, taken}
use Rattle.event_lines.specs.Told.{rule_of}
use Rattle.simulator.specs.Outputs.{end_of}
use Rattle.simulator.specs.declared.sim_end.SimEnd.{SimEnd}
use Rattle.simulator.specs.declared.sim_end.SimEnd.TheVariants as end
use Rattle.simulator.specs.declared.upcoming.Upcoming.{Upcoming}
use Rattle.simulator.specs.declared.upcoming.Upcoming.TheVariants as upcoming
use Rattle.simulator.specs.Simulation.{Simulation, IsNew}
use Rattle.simulator.specs.Fitting.{FitsFile, Comes, NoneComes, EndsWith, StopsAt, lines_read}
use Rattle.simulator.specs.Ends.{end_by}
use Rattle.simulator.specs.helpers.Progress.{HasRun}
use Rattle.simulator.proofs.LoopLemmas.{each_told, three_told, any_told}
use Rattle.simulator.proofs.OutputLemmas.{fault_again}
use Rattle.simulator.proofs.RunningLemmas.{run_starts, reaction, run_on, answered, taken_within, sound_before, run_of_lines}
use Rattle.coverage.specs.Coverage.{Coverage, coverage}
use Rattle.coverage.specs.Outputs.{IsCounted, EndsAtFault}
use Rattle.coverage.specs.Steps.{HasRoom, StepIsCounted}

-- of what the file holds, these are the rounds of the run
abbrev pub IsSoFar : Simulation → List Round → Bytes → Type 0
IsSoFar m rounds content = (run : List Reaction) × HasRun content m run × (rounds ≡ rounds_in run)

-- Between two events: some rounds were counted, few for each event, and those of the run where it is told what the file holds.
pub record HasCounted (told : Option Bytes) (m : Simulation) (c : Coverage) : Type 0 where
  pub rounds : List Round
  pub counted : c ≡ coverage m.spec rounds
  pub few : length rounds ≤ 1024 * m.events
  pub so_far : IfSome told (IsSoFar m rounds)

more_rounds : (run : List Reaction) (r : Reaction) → rounds_in (run ++ r ∷ []) ≡ rounds_in run ++ r.rounds
more_rounds run r = flat_map-append (λ (q : Reaction). q.rounds) run (r ∷ []) ∙ ap (λ rs. rounds_in run ++ rs) (append-nil r.rounds)

-- no event is counted yet
pub none_counted : (told : Option Bytes) (m : Simulation) (c : Coverage) → IsNew m → c ≡ coverage m.spec [] → HasCounted told m c
none_counted told m c new e = record {
  rounds = [];
  counted = e;
  few = omega arith;
  so_far = any_told {P = IsSoFar m []} told (λ content. ([], run_starts content m new, refl));
}

-- the simulation fits the file
pub fits_so_far : (told told' : Option Bytes) (m : Simulation) (c : Coverage) → told' ≡ told → HasCounted told m c → IfSome told' (λ content. FitsFile content m)
fits_so_far told told' m c same h =
    subst (λ (o : Option Bytes). IfSome o (λ content. FitsFile content m)) (sym same)
    (each_told {P = IsSoFar m h.rounds} {Q = λ content. FitsFile content m} told (λ content f. f.1.fits) h.so_far)

-- there is room for the rounds of one more event
pub has_room : (told : Option Bytes) (m : Simulation) (c : Coverage) → HasCounted told m c → m.events ≤ 2 ^ 32 → HasRoom 1024 c
has_room told m c h few = record {
  rounds = h.rounds;
  counted = h.counted ∙ ap (λ (s : Spec). coverage s h.rounds) (sym (ap (λ (d : Coverage). d.spec) h.counted));
  few = let more = h.few in omega (arith, more, few);
}

module _ (told told' : Option Bytes) (same : told' ≡ told) (m m' : Simulation) (c : Coverage) (h : HasCounted told m c) (fits : IfSome told' (λ content. FitsFile content m')) where
  fits_there : IfSome told (λ content. FitsFile content m')
  fits_there = subst (λ (o : Option Bytes). IfSome o (λ content. FitsFile content m')) same fits

  -- an event came, and its rounds were counted
  pub one_more_event : (k : ℕ) → Comes told' k m m' → (m'' : Simulation) (c' : Coverage) → m'' ≡ record m' { world = m''.world; present = m''.present; last = m''.last }
      → StepIsCounted m'.spec m'.world m'.present m''.world c c' → HasCounted told m'' c'
  one_more_event k comes m'' c' rest step =
      let came : m'.spec ≡ m.spec = ap (λ (z : Simulation). z.spec) comes.changes in
      let stays : m''.spec ≡ m'.spec = ap (λ (z : Simulation). z.spec) rest in
      let one = ap (λ (z : Simulation). z.events) comes.changes in
      let events = ap (λ (z : Simulation). z.events) rest in
      let before = h.few in
      let more = step.few in
      let next = subst (λ (o : Option Bytes). IfSome o (λ content. messages m.spec (lines_read content m') ≡ messages m.spec (lines_read content m) ++ (comes.message ∷ []))) same comes.next in
      record {
        rounds = h.rounds ++ step.rounds;
        counted =
            step.counted h.rounds (h.counted ∙ ap (λ (s : Spec). coverage s h.rounds) (sym came))
            ∙ ap (λ (s : Spec). coverage s (h.rounds ++ step.rounds)) (sym stays);
        few = omega (arith, before, more, one, events, length-append h.rounds step.rounds);
        so_far =
            three_told {P = IsSoFar m h.rounds} {Q = λ content. FitsFile content m'}
            {R = λ content. messages m.spec (lines_read content m') ≡ messages m.spec (lines_read content m) ++ (comes.message ∷ [])}
            {S = IsSoFar m'' (h.rounds ++ step.rounds)} told
            (λ content p q e. (
              p.0 ++ reaction comes.message step.rounds m''.world ∷ [],
              run_on content m m' m'' p.0 p.1 q comes.message e comes.changes rest step.rounds step.is,
              ap (λ rs. rs ++ step.rounds) p.2 ∙ sym (more_rounds p.0 (reaction comes.message step.rounds m''.world)),
            )) h.so_far fits_there next;
      }

  -- there is none
  pub comes_to : (answer : Upcoming) → NoneComes told' answer m m'
      → IfSome told (λ content. IsCounted m.spec m.limits content (taken m'.reading) (end_by answer) c)
  comes_to answer none =
      let nothing = subst (λ (o : Option Bytes). IfSome o (λ content. messages m.spec (lines_read content m') ≡ messages m.spec (lines_read content m))) same none.none in
      three_told {P = IsSoFar m h.rounds} {Q = λ content. FitsFile content m'}
      {R = λ content. messages m.spec (lines_read content m') ≡ messages m.spec (lines_read content m)}
      {S = λ content. IsCounted m.spec m.limits content (taken m'.reading) (end_by answer) c} told
      (λ content p q e. there content m'.reading p e answer (subst (FitsFile content) none.changes q)) h.so_far fits_there nothing
    where
      at_fault : (content : Bytes) (r : Reading) → IsSoFar m h.rounds content → messages m.spec (lines_ahead r.at content) ≡ messages m.spec (lines_read content m)
          → (answer : Upcoming) (f : FileFault) → StopsAt content (answered m r answer) f → (ended : SimEnd) → ended ≡ end_of f
          → EndsAtFault m.spec m.limits content ended
      at_fault content r p e answer f stops ended is = record {
        fault = f;
        first = stops.first;
        run = p.0;
        is_run = run_of_lines content m r p.0 p.1 e (sound_lines m.spec m.limits content) stops.came;
        ends = is;
      }

      there : (content : Bytes) (r : Reading) → IsSoFar m h.rounds content → messages m.spec (lines_ahead r.at content) ≡ messages m.spec (lines_read content m) → (answer : Upcoming)
          → FitsFile content (answered m r answer) → IsCounted m.spec m.limits content (taken r) (end_by answer) c
      there content r p e (upcoming.Event k) fits = absurd (let no : ⊥ = fits.right in no)
      there content r p e (upcoming.Ended n) fits =
          let ends : EndsWith content (answered m r (upcoming.Ended n)) n = fits.right in
          record {
            formed = ends.formed;
            run = p.0;
            is_run = run_of_lines content m r p.0 p.1 e (lines_of content) (ap (messages m.spec) ends.all);
            count = ends.count ∙ sym p.1.count;
            counted = h.counted ∙ ap (coverage m.spec) p.2;
          }
      there content r p e (upcoming.LineFault n fault) fits =
          at_fault content r p e (upcoming.LineFault n fault) (broken_line n (rule_of fault)) fits.right (end.LineFault n fault)
          (ap (end.LineFault n) (sym (fault_again fault)))
      there content r p e (upcoming.LineTooLong n) fits = at_fault content r p e (upcoming.LineTooLong n) (long_line n) fits.right (end.LineTooLong n) refl
      there content r p e upcoming.ReadFault fits = record {
        within = taken_within content r fits.reader;
        sound = sound_before content m r fits;
        run = p.0;
        is_run = run_of_lines content m r p.0 p.1 e (lines_before (taken r) content) (ap (messages m.spec) (sym fits.right));
        text = refl;
      }
      there content r p e upcoming.TooLong fits = at_fault content r p e upcoming.TooLong long_file fits.right end.TooLong refl
