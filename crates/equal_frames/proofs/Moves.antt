-- Each run of the one is a run of the other, with open guards the same.
use Rattle.std.proofs.Common.{◌≡◌, suc, true, false, List, [], ◌∷◌, map, zip, length, if◌then◌else◌, unwrap_or, refl, sym, ap, ◌∙◌, subst}
use Rattle.std.specs.Prelude.{◌≢◌}
use Rattle.rsml_syntax.specs.declared.syntax.Spec.{Spec}
use Rattle.rsml_syntax.specs.declared.world.World.{World}
use Rattle.rsml_syntax.specs.limits.Checked.{IsChecked}
use Rattle.rsml_meaning.specs.Words.{Instance, Each, has}
use Rattle.rsml_meaning.specs.Instances.{Component, components}
use Rattle.rsml_meaning.specs.Worlds.{IsWorld}
use Rattle.rsml_meaning.specs.Active.{child_place}
use Rattle.rsml_meaning.specs.EventLines.{Message}
use Rattle.rsml_meaning.specs.EventFiles.{Line, messages}
use Rattle.rsml_meaning.specs.Steps.{Round, IsRound, IsStep}
use Rattle.rsml_meaning.specs.Runs.{first_world, told, latched, Reaction, IsRunFrom, IsRun}
use Rattle.rsml_meaning.specs.Scoped.{WellScoped}
use Rattle.rsml_meaning.specs.Trace.{trace_text}
use Rattle.rsml_meaning.proofs.Latched.{first_is_world, latched_is_world}
use Rattle.rsml_meaning.proofs.Messages.{IsTold, all_told}
use Rattle.rsml_meaning.proofs.Steps.{step_leaves_world}
use Rattle.rsml_meaning.proofs.WorldSteps.{micro_steps_leave_worlds}
use Rattle.rsml_meaning.proofs.rules.Scoped.{rules_give_scopes}
use Rattle.spec_frames.specs.Frames.{HaveSameFrame}
use Rattle.equal_frames.specs.Differences.{NoDifference}
use Rattle.equal_frames.specs.Laws.{HasLikeRun, EqualGuardsMoveRuns}
use Rattle.equal_frames.proofs.Guards.{cell_across, are_like}
use Rattle.equal_frames.proofs.Micro.{opened_component, micro_moves}
use Rattle.equal_frames.proofs.Reading.{messages_same}
use Rattle.equal_frames.proofs.Traces.{opened_round, opened_reaction, trace_framed}
use Rattle.equal_frames.proofs.Worlds.{blanked_one, blanked_two, parts_same, cells_same}

defaults_blind : (cs : List Component) → map (λ c. child_place c c.default) cs ≡ map (λ c. child_place c c.default) (map opened_component cs)
defaults_blind [] = refl
defaults_blind (c ∷ cs) = ap (λ ns. child_place c c.default ∷ ns) (defaults_blind cs)

long_map : {A B : Type 0} (f : A → B) (xs : List A) → length (map f xs) ≡ length xs
long_map f [] = refl
long_map f (x ∷ xs) = ap suc (long_map f xs)

module _ (s t : Spec) (one : IsChecked s) (two : IsChecked t) (same : HaveSameFrame s t) where
  first_same : first_world s ≡ first_world t
  first_same =
      let choices : map (λ c. child_place c c.default) (components s) ≡ map (λ c. child_place c c.default) (components t)
      = defaults_blind (components s) ∙ ap (map (λ (c : Component). child_place c c.default)) (parts_same s t one two same) ∙ sym (defaults_blind (components t)) in
      λ i. record { choices = choices i; cells = map (λ c. c.initial) (cells_same s t one two same i) }

  latched_same : (w : World) (m : Message) → latched s w m ≡ latched t w m
  latched_same w m = λ i. record {
    choices = w.choices;
    cells = map (λ c. elim c.0.previous [
      | true ↦ if has m.receive.inputs c.0.input then cell_across s t one two same w false c.0.input i else c.1
      | false ↦ unwrap_or (told m c.0.input) c.1
    ]) (zip (cells_same s t one two same i) w.cells);
  }

  scoped : WellScoped s
  scoped = rules_give_scopes s one.keeps.rules

  module _ (none : NoDifference s t) where
    -- Steps.

    -- The rounds of the other.
    record StepMoves (w : World) (present : List Instance) (rs : List Round) (w' : World) : Type 0 where
      rounds : List Round
      alike : map opened_round rs ≡ map opened_round rounds
      is_step : IsStep t w present rounds w'

    -- What a round of the one is for the other.
    record RoundMoves (w : World) (present : List Instance) (r : Round) (w' : World) (raised : List Instance) : Type 0 where
      round : Round
      alike : opened_round r ≡ opened_round round
      is_round : IsRound t w present round w' raised

    round_moves : (w : World) (present : List Instance) (r : Round) (w' : World) (raised : List Instance) → IsWorld s w → IsRound s w present r w' raised → RoundMoves w present r w' raised
    round_moves w present r w' raised i h =
        let m = micro_moves s t w (are_like s t one two same w i none) present r.taken r.sent w' raised h.micro in
        record {
          round = record { world = r.world; present = r.present; taken = m.others; sent = m.answers };
          alike = λ k. record { world = r.world; present = r.present; taken = m.same_taken k; sent = m.same_sent k };
          is_round = record { world = h.world; events = h.events; micro = m.micro };
        }

    joined : (w : World) (present : List Instance) (w' : World) (q : Round) (qs : List Round) (w₁ : World) (raised : List Instance) → IsRound t w present q w₁ raised → (raised ≢ []) → IsStep t w₁ raised qs w' → IsStep t w present (q ∷ qs) w'
    joined w present w' q [] w₁ raised r some rest = elim rest [ ]
    joined w present w' q (p ∷ qs) w₁ raised r some rest = (w₁, raised, r, some, rest)

    step_moves : (w : World) (present : List Instance) (rs : List Round) (w' : World) → IsWorld s w → IsStep s w present rs w' → StepMoves w present rs w'
    step_moves w present [] w' i h = elim h [ ]
    step_moves w present (r ∷ []) w' i h =
        let m = round_moves w present r w' [] i h in
        record { rounds = m.round ∷ []; alike = λ k. m.alike k ∷ []; is_step = m.is_round }
    step_moves w present (r ∷ q ∷ rs) w' i h =
        let w₁ = h.0 in
        let raised = h.1 in
        let m = round_moves w present r w₁ raised i h.2 in
        let next = micro_steps_leave_worlds s w present (record { taken = r.taken; sent = r.sent; world = w₁; raised = raised }) scoped i h.2.micro in
        let rest = step_moves w₁ raised (q ∷ rs) w' next h.4 in
        record {
          rounds = m.round ∷ rest.rounds;
          alike = λ k. m.alike k ∷ rest.alike k;
          is_step = joined w present w' m.round rest.rounds w₁ raised m.is_round h.3 rest.is_step;
        }

    -- Runs.

    -- The reactions of the other.
    record RunMoves (w : World) (ms : List Message) (rs : List Reaction) : Type 0 where
      run : List Reaction
      alike : map opened_reaction rs ≡ map opened_reaction run
      is_run : IsRunFrom t w ms run

    run_moves : (w : World) (ms : List Message) (rs : List Reaction) → IsWorld s w → Each (IsTold s) ms → IsRunFrom s w ms rs → RunMoves w ms rs
    run_moves w [] [] i told h = record { run = []; alike = refl; is_run = tt }
    run_moves w (m ∷ ms) (r ∷ rs) i told h =
        let start = latched_is_world s scoped w i m told.0 in
        let step = step_moves (latched s w m) (m.receive.raised ∷ []) r.rounds r.world start h.0.step in
        let rest = run_moves r.world ms rs (step_leaves_world s scoped (latched s w m) (m.receive.raised ∷ []) r.rounds r.world start h.0.step) told.1 h.1 in
        record {
          run = record { receive = r.receive; rounds = step.rounds; world = r.world } ∷ rest.run;
          alike = λ k. record { receive = r.receive; rounds = step.alike k; world = r.world } ∷ rest.alike k;
          is_run = (
            record { receive = h.0.receive; step = subst (λ (z : World). IsStep t z (m.receive.raised ∷ []) step.rounds r.world) (latched_same w m) step.is_step },
            rest.is_run,
          );
        }
    run_moves w [] (r ∷ rs) i told h = elim h [ ]
    run_moves w (m ∷ ms) [] i told h = elim h [ ]

    moved : (lines : List Line) (rs : List Reaction) → IsRun s lines rs → HasLikeRun s t lines rs
    moved lines rs h =
        let m = run_moves (first_world s) (messages s lines) rs (first_is_world s scoped) (all_told s lines) h in
        record {
          run = m.run;
          is_run = subst (λ (ms : List Message). IsRunFrom t (first_world t) ms m.run) (messages_same s t one two same lines) (subst (λ (w : World). IsRunFrom t w (messages s lines) m.run) first_same m.is_run);
          trace = trace_framed s (blanked_one s t one two same) rs ∙ (λ i. trace_text (same.syntax i) (m.alike i)) ∙ sym (trace_framed t (blanked_two s t one two same) m.run);
          events = sym (long_map opened_reaction rs) ∙ ap length m.alike ∙ long_map opened_reaction m.run;
        }

pub equal_guards_move_runs : EqualGuardsMoveRuns
equal_guards_move_runs s t one two same none lines rs h = moved s t one two same none lines rs h
