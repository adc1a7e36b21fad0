-- Rounds: the events that end chains of so many events.
use Rattle.std.specs.Prelude.{◌≡◌, ℕ, ◌<◌, ◌≤◌, ◌==◌, not, true, IsTrue, ◌↔◌}
use Rattle.event_graph.specs.declared.events.Events.{Events}
use Rattle.event_graph.specs.Sets.{has}
use Rattle.event_graph.specs.Graphs.{Graph, meets}
use Rattle.event_graph.specs.Chains.{Ends}

-- Events of a graph.
pub record Round : Type 0 where
  pub graph : Graph
  pub ends : Events

-- the events are those that end chains of n events from the first
abbrev pub IsRound : Round → ℕ → ℕ → Type 0
IsRound r x n = (e : ℕ) → IsTrue (has r.ends e) ↔ Ends r.graph x n e

-- the events are events of the graph
abbrev pub IsWithin : Round → Type 0
IsWithin r = (e : ℕ) → has r.ends e ≡ true → e < r.graph.count

-- Two different events of a set that meet.
pub record AreMeeting (r : Round) (e f : ℕ) : Type 0 where
  pub one : has r.ends e ≡ true
  pub two : has r.ends f ≡ true
  pub differ : IsTrue (not (e == f))
  pub together : meets r.graph e f ≡ true

-- The least first event, and then the least second one, that meet.
pub record AreFirstMeeting (r : Round) (e f : ℕ) : Type 0 where
  pub meeting : AreMeeting r e f
  pub least_one : (d b : ℕ) → AreMeeting r d b → e ≤ d
  pub least_two : (d : ℕ) → AreMeeting r e d → f ≤ d
