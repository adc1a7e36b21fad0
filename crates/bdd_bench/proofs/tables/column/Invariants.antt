use Rattle.std.proofs.Common.{◌≡◌, ◌≤◌, length}
use Rattle.bdd_core.specs.Diagram.{IsRef}
use Rattle.bdd_bench.proofs.tables.column.Given as goal

abbrev pub invariant-loop-row : goal.invariant-loop-row
invariant-loop-row l = (l.arena.levels ≡ l.fn.arena.levels) × (length l.fn.arena.nodes ≤ length l.arena.nodes) × IsRef l.arena l.all
