use Rattle.std.proofs.Common.{◌-◌, ◌≡◌, ℕ, ◌<◌, ◌≤◌, false}
use Rattle.event_graph.specs.Sets.{has}
use Rattle.event_graph.proofs.events.Events.next_below.Given as goal

abbrev pub invariant-loop-at : goal.invariant-loop-at
invariant-loop-at l = (l.from ≤ l.at) × ((q : ℕ) → l.from ≤ q → q < l.at → has l.self q ≡ false)

abbrev pub decreases-loop-at : goal.decreases-loop-at
decreases-loop-at l = 1024 - l.at
