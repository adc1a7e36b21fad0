use Rattle.settled_worlds.specs.Conflicts.{AreSteps}
use Rattle.settled_worlds.proofs.paths.shortest.Given as goal

abbrev pub invariant-loop-place : goal.invariant-loop-place
invariant-loop-place l = AreSteps l.arena l.search.steps.items
