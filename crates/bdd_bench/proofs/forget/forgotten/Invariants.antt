use Rattle.bdd_core.specs.Diagram.{IsRef}
use Rattle.bdd_bench.proofs.forget.forgotten.Given as goal

abbrev pub invariant-loop-part : goal.invariant-loop-part
invariant-loop-part l = IsRef l.arena l.left
