-- Micro-steps over numbers.
use Rattle.std.specs.Prelude.{◌≡◌, ℕ, ◌<◌, ◌&&◌, true, List, map, length, ℤ}
use Rattle.rsml_syntax.specs.declared.syntax.Spec.{Spec}
use Rattle.rsml_syntax.specs.declared.world.World.{World}
use Rattle.rsml_meaning.specs.Words.{Instance}
use Rattle.rsml_meaning.specs.Words as words
use Rattle.rsml_meaning.specs.Instances.{events}
use Rattle.rsml_meaning.specs.Truth.{View, view}
use Rattle.rsml_meaning.specs.Transitions.{TransitionInstance, transitions, is_enabled}
use Rattle.rsml_meaning.specs.Interfaces.{send_cases, is_sending}
use Rattle.rsml_meaning.specs.Steps.{Sent, Micro}
use Rattle.event_graph.specs.declared.events.Events.{Events}
use Rattle.event_graph.specs.Sets.{has}
use Rattle.micro_step.specs.Places.{items_where, places_where, ArePlaces}

-- the set is one of events of the specification
abbrev pub AreEvents : Spec → Events → Type 0
AreEvents s set = (k : ℕ) → has set k ≡ true → k < length (events s)

-- the events of a set, in their order
abbrev pub events_in : Spec → Events → List Instance
events_in s set = items_where (has set) 0 (events s)

-- the numbers of the transitions that are enabled on the present events
abbrev pub enabled_numbers : Spec → View → List Instance → List ℕ
enabled_numbers s v present = places_where (λ t. words.has present t.event && is_enabled v t) 0 (transitions s)

-- the numbers of the send cases that are enabled on the present events
abbrev pub sending_numbers : Spec → View → List Instance → List ℕ
sending_numbers s v present = places_where (λ c. words.has present c.event && is_sending v c) 0 (send_cases s)

-- A micro-step from a world on the events of a set: the numbers of the taken transitions and of the send cases, the values of
-- each send, the world that it leaves, and the set of the events that are raised.
pub record IsMicro (s : Spec) (w : World) (present : Events) (taken sent : List ℕ) (values : List (List ℤ)) (w' : World) (raised : Events) : Type 0 where
  pub transitions_taken : List TransitionInstance
  pub cases_sent : List Sent
  pub taken_are : ArePlaces (transitions s) transitions_taken taken
  pub sent_are : ArePlaces (send_cases s) (map (λ c. c.send_case) cases_sent) sent
  pub values_are : map (λ c. c.values) cases_sent ≡ values
  pub all_taken : taken ≡ enabled_numbers s (view s w) (events_in s present)
  pub all_sent : sent ≡ sending_numbers s (view s w) (events_in s present)
  pub micro : Micro s w (events_in s present) transitions_taken cases_sent w' (events_in s raised)
