-- A machine that runs: its world, the events that are present, and what its last round was.
use Rattle.std.specs.Prelude.{◌≡◌, ℕ, ◌<◌, ◌≤◌, List, [], ◌∷◌, map, length, IsTrue, ℤ, Option, Some, None, IfSome, slice_get}
use Rattle.std.specs.Option.{option_map_or}
use Rattle.rsml_syntax.specs.declared.syntax.Spec.{Spec}
use Rattle.rsml_syntax.specs.declared.world.World.{World}
use Rattle.rsml_meaning.specs.Words.{Each, Instance}
use Rattle.rsml_meaning.specs.Worlds.{IsWorld}
use Rattle.rsml_meaning.specs.Chains.{is_external}
use Rattle.rsml_meaning.specs.Truth.{view}
use Rattle.rsml_meaning.specs.Transitions.{transitions}
use Rattle.rsml_meaning.specs.Interfaces.{ReceiveInstance, receives, send_cases}
use Rattle.rsml_meaning.specs.Runs.{latched}
use Rattle.rsml_meaning.specs.Steps.{Round, IsRound}
use Rattle.macros.specs.Known.{Knows}
use Rattle.interfaces.specs.Writes.{AreTyped}
use Rattle.elaborate.specs.Machine.{GroundMachine}
use Rattle.event_graph.specs.declared.events.Events.{Events}
use Rattle.micro_step.specs.Micros.{AreEvents, events_in, enabled_numbers, sending_numbers}
use Rattle.micro_step.specs.Numbers.{Kept, IsFor, left_by, of_cases}
use Rattle.micro_step.specs.Places.{ArePlaces}

-- What the last round was: the world before it, the events that were present, the numbers of the transitions that were taken and of the
-- cases of sends that were enabled, and the values of each of these cases.
pub record LastRound : Type 0 where
  pub world : World
  pub present : List Instance
  pub taken : List ℕ
  pub sent : List ℕ
  pub values : List (List ℤ)

-- A machine, the world that it is in, the events that are present, and its last round.
pub record InWorld : Type 0 where
  pub machine : GroundMachine
  pub world : World
  pub present : List Instance
  pub last : LastRound

-- the last round by the world before it, what was present, and what a machine kept of its micro-step
abbrev pub last_of : Spec → World → Events → Kept → LastRound
last_of s w set k = record {
  world = w;
  present = events_in s set;
  taken = k.taken.items;
  sent = k.sent.items;
  values = of_cases k.values k.sent.items;
}

-- A message that comes, by the number of its receive.
pub record Incoming : Type 0 where
  pub receive : ℕ
  pub numbers : List ℤ

-- A message that waits to be latched, if one does, and how many numbers there is room for.
pub record Held : Type 0 where
  pub message : Option Incoming
  pub room : ℕ

-- the receive is there, and the numbers are of the types of its inputs
abbrev pub IsIncoming : Spec → Incoming → Type 0
IsIncoming s c = (x : ReceiveInstance) × (slice_get (receives s) c.receive ≡ Some x) × AreTyped s x.inputs c.numbers

-- the world with the message latched, if there is one
abbrev pub latched_by : Spec → World → Option Incoming → World
latched_by s w None = w
latched_by s w (Some c) = option_map_or (λ x. latched s w (record { receive = x; numbers = c.numbers })) (slice_get (receives s) c.receive) w

-- the world after a round that took these transitions, and after the message that came since
abbrev pub settled : GroundMachine → World → List ℕ → Option Incoming → World
settled m w taken message = latched_by m.base.spec (left_by m w taken) message

-- What the machine keeps is its own, and so are the transitions that were taken. Its worlds before and after the last round are of the
-- specification, and so are the events of its sets. What is known of the phrases is right before the round. A message waits only where an
-- event is present.
pub record AreKept (m traces : GroundMachine) (scratch : Kept) (w : World) (now before : Events) (waiting : Held) : Type 0 where
  pub traced : traces ≡ m
  pub made : IsFor m scratch
  pub is_world : IsWorld m.base.spec w
  pub taken_are : Each (λ k. k < length m.transitions) scratch.taken.items
  pub left_is_world : IsWorld m.base.spec (left_by m w scratch.taken.items)
  pub knows : Knows m.base w scratch.memo
  pub events_now : AreEvents m.base.spec now
  pub events_before : AreEvents m.base.spec before
  pub message : IfSome waiting.message (IsIncoming m.base.spec)
  pub none : events_in m.base.spec now ≡ [] → waiting.message ≡ None
  pub room : Each (λ x. length x.inputs ≤ waiting.room) (receives m.base.spec)

-- one external event is present
abbrev pub IsExternal : Spec → List Instance → Type 0
IsExternal s present = (x : Instance) × IsTrue (is_external s x) × (present ≡ x ∷ [])

-- The last round was this one.
pub record WasRound (s : Spec) (l : LastRound) (r : Round) : Type 0 where
  pub present_are : r.present ≡ l.present
  pub taken_are : ArePlaces (transitions s) r.taken l.taken
  pub sent_are : ArePlaces (send_cases s) (map (λ c. c.send_case) r.sent) l.sent
  pub values_are : map (λ c. c.values) r.sent ≡ l.values

-- The last round began in world w with these present events, and was a micro-step that left world w' and the raised events. Its numbers
-- are those of all transitions and of all cases of sends that were enabled.
pub record RoundIsDone (s : Spec) (w : World) (present : List Instance) (l : LastRound) (w' : World) (raised : List Instance) : Type 0 where
  pub round : Round
  pub is : IsRound s w present round w' raised
  pub began : l.world ≡ w
  pub last_is : WasRound s l round
  pub all_taken : l.taken ≡ enabled_numbers s (view s w) present
  pub all_sent : l.sent ≡ sending_numbers s (view s w) present
