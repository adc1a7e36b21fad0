use Rattle.std.proofs.Common.{◌≡◌, ◌≤◌, length}
use Rattle.bdd_core.specs.Diagram.{IsRef}
use Rattle.bdd_bench.proofs.queens.safe_row.Given as goal

abbrev pub invariant-loop-column : goal.invariant-loop-column
invariant-loop-column l = (l.arena.levels ≡ l.fn.arena.levels) × (length l.fn.arena.nodes ≤ length l.arena.nodes) × IsRef l.arena l.board
