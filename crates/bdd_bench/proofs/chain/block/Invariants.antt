use Rattle.std.proofs.Common.{◌≡◌, ◌≤◌, length}
use Rattle.bdd_core.specs.Diagram.{IsRef}
use Rattle.bdd_bench.proofs.chain.block.Given as goal

abbrev pub invariant-loop-level : goal.invariant-loop-level
invariant-loop-level l = (l.arena.levels ≡ l.fn.arena.levels) × (length l.fn.arena.nodes ≤ length l.arena.nodes) × IsRef l.arena l.all
