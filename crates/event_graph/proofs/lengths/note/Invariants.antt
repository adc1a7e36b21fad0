use Rattle.std.proofs.Common.{◌≡◌, ℕ, ◌<◌, ◌⊎◌, true, false, Some, length}
use Rattle.event_graph.specs.Sets.{has}
use Rattle.event_graph.specs.Ended.{length_at}
use Rattle.event_graph.proofs.lengths.note.Given as goal

abbrev pub invariant-loop-event : goal.invariant-loop-event
invariant-loop-event l =
    (length l.lengths.items ≡ length l.fn.lengths.items)
    × ((e : ℕ) → e < l.event → has l.after e ≡ true → has l.before e ≡ false → length_at l.lengths.items e ≡ Some l.round)
    × ((e : ℕ) → (has l.after e ≡ false) ⊎ (has l.before e ≡ true) → length_at l.lengths.items e ≡ length_at l.fn.lengths.items e)
