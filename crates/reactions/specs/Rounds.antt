-- A round by the numbers of its events, transitions and cases of sends.
use Rattle.std.specs.Prelude.{◌≡◌, map}
use Rattle.rsml_syntax.specs.declared.syntax.Spec.{Spec}
use Rattle.rsml_meaning.specs.Transitions.{transitions}
use Rattle.rsml_meaning.specs.Interfaces.{send_cases}
use Rattle.rsml_meaning.specs.Steps.{Round}
use Rattle.event_graph.specs.declared.events.Events.{Events}
use Rattle.micro_step.specs.Micros.{events_in}
use Rattle.micro_step.specs.Numbers.{Kept, of_cases}
use Rattle.micro_step.specs.Places.{ArePlaces}

-- the present events are those of the set; what was taken and sent, and the values, are those that a machine kept of its micro-step
pub record IsRoundOf (s : Spec) (present : Events) (k : Kept) (r : Round) : Type 0 where
  pub present_are : r.present ≡ events_in s present
  pub taken_are : ArePlaces (transitions s) r.taken k.taken.items
  pub sent_are : ArePlaces (send_cases s) (map (λ c. c.send_case) r.sent) k.sent.items
  pub values_are : map (λ c. c.values) r.sent ≡ of_cases k.values k.sent.items
