use Rattle.std.proofs.Common.{◌≡◌, ◌-◌}
use Rattle.bdd_core.specs.Diagram.{IsRef}
use Rattle.bdd_bench.proofs.chain.top.Given as goal

abbrev pub invariant-loop-start : goal.invariant-loop-start
invariant-loop-start l = (l.arena.levels ≡ l.fn.arena.levels) × IsRef l.arena l.all

abbrev pub decreases-loop-start : goal.decreases-loop-start
decreases-loop-start l = l.size - l.start
