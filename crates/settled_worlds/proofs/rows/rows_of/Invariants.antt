use Rattle.settled_worlds.specs.Conflicts.{AreRows}
use Rattle.settled_worlds.proofs.rows.rows_of.Given as goal

abbrev pub invariant-loop-literal : goal.invariant-loop-literal
invariant-loop-literal l = AreRows l.levels l.rows
