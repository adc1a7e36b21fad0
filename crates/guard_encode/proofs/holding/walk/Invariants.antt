use Rattle.std.proofs.Common.{◌≡◌}
use Rattle.bdd_core.specs.Diagram.{IsRef, meaning}
use Rattle.guard_encode.specs.Holding.{values_in}
use Rattle.guard_encode.proofs.holding.walk.Given as goal

-- the function that was come to has the value of f
abbrev pub invariant-loop-node : goal.invariant-loop-node
invariant-loop-node l = record {
  is_ref : IsRef l.arena l.at;
  same : meaning l.arena l.at (values_in l.levels l.world) ≡ meaning l.arena l.fn.f (values_in l.levels l.world);
}

abbrev pub decreases-loop-node : goal.decreases-loop-node
decreases-loop-node l = l.at
