use Rattle.std.proofs.Common.{◌≡◌, ℕ, false, length}
use Rattle.event_graph.specs.Sets.{has_at}
use Rattle.event_graph.proofs.sets.no_events.Given as goal

abbrev pub invariant-loop-row : goal.invariant-loop-row
invariant-loop-row l = (length l.rows.items ≡ l._row) × ((a b : ℕ) → has_at l.rows.items a b ≡ false)
