use Rattle.std.proofs.Common.{◌≡◌}
use Rattle.bdd_core.specs.Diagram.{IsRef, meaning}
use Rattle.bdd_core.specs.Calls.{values_of}
use Rattle.bdd_core.proofs.arena.Arena.eval.Given as goal

-- the place that was come to means what f means
abbrev pub invariant-loop-at : goal.invariant-loop-at
invariant-loop-at l = IsRef l.self l.at × (meaning l.self l.at (values_of l.values) ≡ meaning l.self l.fn.f (values_of l.values))

abbrev pub decreases-loop-at : goal.decreases-loop-at
decreases-loop-at l = l.at
