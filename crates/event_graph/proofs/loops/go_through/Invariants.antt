use Rattle.std.proofs.Common.{◌≡◌, ℕ, ◌<◌, ◌≤◌, ◌||◌, ◌&&◌, length}
use Rattle.event_graph.specs.Sets.{has_at}
use Rattle.event_graph.proofs.loops.go_through.Given as goal

abbrev pub invariant-loop-event : goal.invariant-loop-event
invariant-loop-event l =
    (length l.sets.items ≡ length l.fn.sets.items)
    × ((a b : ℕ) → a < l.event → has_at l.sets.items a b ≡ (has_at l.fn.sets.items a b || (has_at l.fn.sets.items a l.middle && has_at l.fn.sets.items l.middle b)))
    × ((a b : ℕ) → l.event ≤ a → has_at l.sets.items a b ≡ has_at l.fn.sets.items a b)
