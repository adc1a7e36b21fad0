-- What is counted of a round.
use Rattle.std.proofs.Common.{◌≡◌, ℕ, ◌+◌, List, length, filter, Some, slice_get, refl, sym, ap, subst}
use Rattle.rsml_syntax.specs.declared.syntax.Spec.{Spec}
use Rattle.rsml_syntax.specs.declared.world.World.{World}
use Rattle.rsml_meaning.specs.Transitions.{TransitionInstance, transitions}
use Rattle.rsml_meaning.specs.Steps.{Round}
use Rattle.state_tree.proofs.Lists.{as_long}
use Rattle.event_graph.specs.declared.events.Events.{Events}
use Rattle.micro_step.specs.Micros.{IsMicro, events_in}
use Rattle.micro_step.specs.Numbers.{Kept, of_cases}
use Rattle.micro_step.specs.Places.{ArePlaces}
use Rattle.run_counts.specs.declared.counts.Counts.{Counts}
use Rattle.run_counts.specs.Counts.{is_move}
use Rattle.run_counts.specs.Series.{RoundIsCounted}
use Rattle.run_counts.proofs.SumLemmas.{made, one_round}

-- a micro-step of which the taken transitions and their moves are counted is a round
pub round_counted : (s : Spec) (w w' : World) (present raised : Events) (k : Kept) (c : Counts) (taken : List ℕ) (moves : ℕ)
    → IsMicro s w present k.taken.items k.sent.items (of_cases k.values k.sent.items) w' raised → taken ≡ k.taken.items
    → ((ts : List TransitionInstance) → ArePlaces (transitions s) ts taken → moves ≡ length (filter is_move ts))
    → RoundIsCounted s w (events_in s present) w' (events_in s raised) c (made c.events (c.rounds + 1) (c.takes + length taken) (c.moves + moves))
round_counted s w w' present raised k c taken moves m same count =
    let r : Round = record { world = w; present = events_in s present; taken = m.transitions_taken; sent = m.cases_sent } in
    let are : ArePlaces (transitions s) m.transitions_taken taken = subst (λ (ns : List ℕ). ArePlaces (transitions s) m.transitions_taken ns) (sym same) m.taken_are in
    let long = as_long (λ (t : TransitionInstance) (n : ℕ). slice_get (transitions s) n ≡ Some t) m.transitions_taken taken are in
    record {
      round = r;
      is = record { world = refl; events = refl; micro = m.micro };
      counted = one_round c (made c.events (c.rounds + 1) (c.takes + length taken) (c.moves + moves)) r refl refl (ap (λ (n : ℕ). c.takes + n) (sym long))
          (ap (λ (n : ℕ). c.moves + n) (count m.transitions_taken are));
    }
