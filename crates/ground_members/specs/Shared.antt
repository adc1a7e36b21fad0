-- Transitions and cases of sends that differ in a number alone.
use Rattle.std.specs.Prelude.{ℕ}
use Rattle.ground_members.specs.declared.transitions.GroundTransition.{GroundTransition}
use Rattle.ground_members.specs.declared.send_cases.GroundSendCase.{GroundSendCase}

-- the transition, from the state of a number
abbrev pub from_source : ℕ → GroundTransition → GroundTransition
from_source n t = record {
  component = t.component;
  source = n;
  target = t.target;
  event = t.event;
  guard = t.guard;
  raises = t.raises;
  ordinal = t.ordinal;
}

-- the case, of the send of a number
abbrev pub of_send : ℕ → GroundSendCase → GroundSendCase
of_send n c = record {
  send = n;
  event = c.event;
  guard = c.guard;
  answer = c.answer;
  ordinal = c.ordinal;
}
