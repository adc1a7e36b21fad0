use Rattle.settled_worlds.specs.Steps.{AreStruck}
use Rattle.settled_worlds.proofs.striking.strike.Given as goal

abbrev pub invariant-loop-place : goal.invariant-loop-place
invariant-loop-place l = AreStruck l.fn.levels l.fn.used l.fn.left.items l.left.items
