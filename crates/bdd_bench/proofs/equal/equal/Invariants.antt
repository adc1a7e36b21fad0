use Rattle.std.proofs.Common.{◌≡◌, ◌≤◌, length}
use Rattle.bdd_core.specs.Diagram.{IsRef}
use Rattle.bdd_bench.proofs.equal.equal.Given as goal

abbrev pub invariant-loop-bit : goal.invariant-loop-bit
invariant-loop-bit l = (l.arena.levels ≡ l.fn.arena.levels) × (length l.fn.arena.nodes ≤ length l.arena.nodes) × IsRef l.arena l.all
