use Rattle.std.proofs.Common.{◌≡◌, ℕ, ◌<◌, true}
use Rattle.event_graph.specs.Graphs.{leads}
use Rattle.event_graph.specs.Sets.{has}
use Rattle.event_graph.proofs.lengths.next_ended.Given as goal

abbrev pub invariant-loop-event : goal.invariant-loop-event
invariant-loop-event l =
    ((e : ℕ) → has l.next e ≡ true → (f : ℕ) → leads l.graph e f ≡ true → has l.ended f ≡ true)
    × ((e : ℕ) → e < l.event → ((f : ℕ) → leads l.graph e f ≡ true → has l.ended f ≡ true) → has l.next e ≡ true)
