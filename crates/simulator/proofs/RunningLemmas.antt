-- The run of a simulation, event by event.
use Rattle.std.proofs.Common.{◌≡◌, ◌+◌, ◌≤◌, List, [], ◌∷◌, ◌++◌, length, take, drop, Some, refl, sym, ap, ◌∙◌, arith, subst, length-append, length-take, length-drop}
use Rattle.rsml_syntax.specs.declared.syntax.Spec.{Spec}
use Rattle.rsml_syntax.specs.declared.world.World.{World}
use Rattle.rsml_meaning.specs.EventLines.{Bytes, Message}
use Rattle.rsml_meaning.specs.EventFiles.{Line, messages, lines_before}
use Rattle.rsml_meaning.specs.Runs.{Reaction, first_world, latched, IsReaction, IsRunFrom, IsRun}
use Rattle.rsml_meaning.specs.Steps.{Round, IsStep}
use Rattle.event_file.specs.Reading.{Reading, Fits, lines_ahead, taken}
use Rattle.event_file.proofs.Splits.{split}
use Rattle.simulator.specs.declared.upcoming.Upcoming.{Upcoming}
use Rattle.simulator.specs.declared.upcoming.Upcoming.TheVariants as upcoming
use Rattle.simulator.specs.Simulation.{Simulation, IsNew}
use Rattle.simulator.specs.Fitting.{FitsFile, lines_read}
use Rattle.simulator.specs.helpers.Series.{world_after}
use Rattle.simulator.specs.helpers.Progress.{AreSound, HasRun}
use Rattle.simulator.proofs.SeriesLemmas.{world_after_both}
use Rattle.simulator.proofs.RunLemmas.{run_both}
use Rattle.simulator.proofs.FittingLemmas.{untold_sound}
use Rattle.simulator.proofs.AnsweringLemmas.{new_fits_file, fits_rest}

-- nothing was read
pub run_starts : (content : Bytes) (m : Simulation) → IsNew m → HasRun content m []
run_starts content m new =
    let fits = new_fits_file content m new in
    record {
      fits = fits;
      is_run = none (messages m.spec (lines_read content m)) (sym fits.counted ∙ new.uncounted);
      after = sym new.first;
      count = sym new.uncounted;
    }
  where
    none : (ms : List Message) → length ms ≡ 0 → IsRunFrom m.spec (first_world m.spec) ms []
    none [] e = tt
    none (x ∷ ms) e = absurd (let no : length (x ∷ ms) ≡ 0 → ⊥ = λ h. omega (arith, h) in no e)

-- what a message did
abbrev pub reaction : Message → List Round → World → Reaction
reaction message rounds w = record { receive = message.receive.receive; rounds = rounds; world = w }

-- An event came, and its step was done.

module _ (content : Bytes) (m m' m'' : Simulation) (run : List Reaction) (h : HasRun content m run) (fits : FitsFile content m') (message : Message)
    (next : messages m.spec (lines_read content m') ≡ messages m.spec (lines_read content m) ++ (message ∷ []))
    (changes : m' ≡ record m { reading = m'.reading; world = latched m.spec m.world message; present = message.receive.raised ∷ []; events = m.events + 1 })
    (rest : m'' ≡ record m' { world = m''.world; present = m''.present; last = m''.last })
    (rounds : List Round) (step : IsStep m'.spec m'.world m'.present rounds m''.world)
  where
    abbrev one : Reaction
    one = reaction message rounds m''.world

    spec : m''.spec ≡ m.spec
    spec = ap (λ (z : Simulation). z.spec) rest ∙ ap (λ (z : Simulation). z.spec) changes

    reacts : IsReaction m.spec m.world message one
    reacts = record { receive = refl; step = subst (λ (z : Simulation). IsStep z.spec z.world z.present rounds m''.world) changes step }

    more : IsRunFrom m.spec (first_world m.spec) (messages m.spec (lines_read content m')) (run ++ (one ∷ []))
    more =
        subst (λ (ms : List Message). IsRunFrom m.spec (first_world m.spec) ms (run ++ (one ∷ []))) (sym next)
        (run_both m.spec (first_world m.spec) (messages m.spec (lines_read content m)) (message ∷ []) run (one ∷ []) h.is_run
        (subst (λ (v : World). IsReaction m.spec v message one) (sym h.after) reacts, tt))

    pub run_on : HasRun content m'' (run ++ (one ∷ []))
    run_on = record {
      fits = fits_rest content m' m'' rest fits;
      is_run =
          subst (λ (s : Spec). IsRunFrom s (first_world s) (messages s (lines_read content m'')) (run ++ (one ∷ []))) (sym spec)
          (subst (λ (ls : List Line). IsRunFrom m.spec (first_world m.spec) (messages m.spec ls) (run ++ (one ∷ [])))
          (sym (ap (λ (z : Simulation). lines_read content z) rest)) more);
      after = ap (λ (s : Spec). world_after (first_world s) (run ++ (one ∷ []))) spec ∙ world_after_both (first_world m.spec) run (one ∷ []);
      count =
          let events = ap (λ (z : Simulation). z.events) rest in
          let number = ap (λ (z : Simulation). z.events) changes in
          let count = h.count in
          omega (arith, events, number, count, length-append run (one ∷ []));
    }

-- No event came.

-- after a final answer on a reader
abbrev pub answered : Simulation → Reading → Upcoming → Simulation
answered m r answer = record m { reading = r; answered = Some answer }

pub taken_within : (content : Bytes) (r : Reading) → Fits content r → taken r ≤ length content
taken_within content r h =
    let at_within = (split content r.at h.begins).within in
    let held : length r.held ≡ length (take (length r.held) (drop r.at content)) = ap length h.holds in
    omega (arith, at_within, held, length-take (length r.held) (drop r.at content), length-drop r.at content)

-- where a read was refused, the lines that were read are sound
pub sound_before : (content : Bytes) (m : Simulation) (r : Reading) → FitsFile content (answered m r upcoming.ReadFault)
    → AreSound m.spec m.limits content (lines_before (taken r) content)
sound_before content m r fits =
    let all : lines_before (taken r) content ≡ lines_ahead r.at content = fits.right in
    subst (AreSound m.spec m.limits content) (sym all) (untold_sound content (answered m r upcoming.ReadFault) refl fits)

-- where the lines of a reader tell the same messages, it is a run of all lines that tell these
pub run_of_lines : (content : Bytes) (m : Simulation) (r : Reading) (run : List Reaction) → HasRun content m run
    → messages m.spec (lines_ahead r.at content) ≡ messages m.spec (lines_read content m)
    → (ls : List Line) → messages m.spec (lines_ahead r.at content) ≡ messages m.spec ls → IsRun m.spec ls run
run_of_lines content m r run h same ls e = subst (λ (ms : List Message). IsRunFrom m.spec (first_world m.spec) ms run) (sym same ∙ e) h.is_run
