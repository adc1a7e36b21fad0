use Rattle.std.proofs.Common.{◌≡◌, ◌≤◌, length}
use Rattle.bdd_core.specs.Diagram.{IsRef}
use Rattle.bdd_bench.proofs.tables.tables.Given as goal

abbrev pub invariant-loop-table : goal.invariant-loop-table
invariant-loop-table l = (l.arena.levels ≡ l.fn.arena.levels) × (length l.fn.arena.nodes ≤ length l.arena.nodes) × IsRef l.arena l.all
