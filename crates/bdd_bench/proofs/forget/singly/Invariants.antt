use Rattle.bdd_core.specs.Diagram.{IsRef}
use Rattle.bdd_bench.proofs.forget.singly.Given as goal

abbrev pub invariant-loop-level : goal.invariant-loop-level
invariant-loop-level l = IsRef l.arena l.left
