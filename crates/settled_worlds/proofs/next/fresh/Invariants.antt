use Rattle.std.proofs.Common.{◌≤◌}
use Rattle.settled_worlds.proofs.next.fresh.Given as goal

abbrev pub invariant-loop-other : goal.invariant-loop-other
invariant-loop-other l = l.count ≤ l.other-index
