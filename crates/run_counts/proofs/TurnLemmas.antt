-- The turns of a step: what is known after so many rounds.
use Rattle.std.proofs.Common.{◌≡◌, ◌≢◌, ℕ, suc, ◌+◌, ◌≤◌, List, [], ◌∷◌, length, sym, ◌∙◌, subst, arith, add-one}
use Rattle.rsml_syntax.specs.declared.world.World.{World}
use Rattle.rsml_meaning.specs.Words.{Each, Instance}
use Rattle.rsml_meaning.specs.Instances.{events}
use Rattle.rsml_meaning.specs.Chains.{Ends}
use Rattle.rsml_meaning.specs.Certified.{Certified}
use Rattle.rsml_meaning.specs.Scoped.{WellScoped}
use Rattle.elaborate.specs.Machine.{GroundMachine}
use Rattle.event_graph.specs.declared.events.Events.{Events}
use Rattle.micro_step.specs.Micros.{AreEvents, events_in}
use Rattle.reactions.specs.Stepping.{IsExternal}
use Rattle.reactions.proofs.ChainBounds.{none_ends, ends_one}
use Rattle.run_counts.specs.declared.counts.Counts.{Counts}
use Rattle.run_counts.specs.Series.{RoundIsCounted, StepIsCounted}
use Rattle.run_counts.proofs.RoundSeries.{SoFar, no_round, one_more, the_last}

-- What is known of a round.
pub record Rounded (m : GroundMachine) (w : World) (present : Events) (v : World) (raised : Events) (c c' : Counts) : Type 0 where
  pub counted : RoundIsCounted m.base.spec w (events_in m.base.spec present) v (events_in m.base.spec raised) c c'
  pub longer : Certified m.base.spec → (x : Instance) (n : ℕ) → Each (Ends m.base.spec x n) (events_in m.base.spec present) → Each (Ends m.base.spec x (suc n)) (events_in m.base.spec raised)
  pub are : AreEvents m.base.spec raised

-- What is known after so many rounds, each of which left an event.
pub record Turned (m : GroundMachine) (w : World) (first : Events) (count : ℕ) (w' : World) (present : Events) (c c' : Counts) : Type 0 where
  pub are : AreEvents m.base.spec present
  pub left : events_in m.base.spec present ≢ []
  pub longer : (x : Instance) → Each (Ends m.base.spec x 1) (events_in m.base.spec first) → Each (Ends m.base.spec x (suc count)) (events_in m.base.spec present)
  pub so_far : SoFar m.base.spec w (events_in m.base.spec first) w' (events_in m.base.spec present) c c'

not_empty : (e : Instance) (es : List Instance) → e ∷ es ≡ [] → ⊥
not_empty e es h = cc

module _ (m : GroundMachine) (w : World) (first : Events) where
  -- before the first round
  pub no_turn : (c : Counts) → AreEvents m.base.spec first → IsExternal m.base.spec (events_in m.base.spec first) → Turned m w first 0 w first c c
  no_turn c are external = record {
    are = are;
    left = λ e. not_empty external.0 [] (sym external.2 ∙ e);
    longer = λ x e. e;
    so_far = no_round m.base.spec w (events_in m.base.spec first) c;
  }

  module _ (k : ℕ) (w' : World) (present : Events) (v : World) (raised : Events) (c c' c'' : Counts) where
    -- one more round that leaves an event
    pub next_turn : Certified m.base.spec → Turned m w first k w' present c c' → Rounded m w' present v raised c' c'' → events_in m.base.spec raised ≢ [] → Turned m w first (k + 1) v raised c c''
    next_turn cert t r left = record {
      are = r.are;
      left = left;
      longer = λ x e.
          let P : ℕ → Type 0 = λ n. Each (Ends m.base.spec x (suc n)) (events_in m.base.spec raised) in
          subst P (sym (add-one k)) (r.longer cert x (suc k) (t.longer x e));
      so_far = one_more m.base.spec w (events_in m.base.spec first) w' (events_in m.base.spec present) v (events_in m.base.spec raised) c c' c'' t.so_far r.counted left;
    }

    -- one that leaves none
    pub last_turn : Turned m w first k w' present c c' → Rounded m w' present v raised c' c'' → events_in m.base.spec raised ≡ [] → StepIsCounted m.base.spec w (events_in m.base.spec first) v c c''
    last_turn t r none = the_last m.base.spec w (events_in m.base.spec first) w' (events_in m.base.spec present) v (events_in m.base.spec raised) c c' c'' t.so_far r.counted none

  -- there are no more such rounds than events
  pub no_more_turns : (k : ℕ) (w' : World) (present : Events) (c c' : Counts) → WellScoped m.base.spec → Certified m.base.spec
      → IsExternal m.base.spec (events_in m.base.spec first) → length (events m.base.spec) ≤ k → Turned m w first k w' present c c' → ⊥
  no_more_turns k w' present c c' scoped cert external l t =
      let s = m.base.spec in
      let x = external.0 in
      let begins : Each (Ends s x 1) (events_in s first) =
      let P : List Instance → Type 0 = λ es. Each (Ends s x 1) es in
      subst P (sym external.2) (ends_one s x external.1, tt) in
      t.left (none_ends s scoped cert x (suc k) (events_in s present) (omega (arith, l)) (t.longer x begins))
