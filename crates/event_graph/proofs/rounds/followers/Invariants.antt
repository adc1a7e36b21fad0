use Rattle.std.proofs.Common.{◌≡◌, ◌-◌, ℕ, ◌<◌, ◌≤◌, true}
use Rattle.event_graph.specs.Graphs.{leads}
use Rattle.event_graph.specs.Sets.{has}
use Rattle.event_graph.proofs.rounds.followers.Given as goal

abbrev pub invariant-loop-event : goal.invariant-loop-event
invariant-loop-event l =
    (l.at ≤ 1024)
    × ((f : ℕ) → has l.led f ≡ true → (e : ℕ) × (has l.ends e ≡ true) × (leads l.graph e f ≡ true))
    × ((e f : ℕ) → e < l.at → has l.ends e ≡ true → leads l.graph e f ≡ true → has l.led f ≡ true)

abbrev pub decreases-loop-event : goal.decreases-loop-event
decreases-loop-event l = 1024 - l.at
