use Rattle.std.proofs.Common.{◌≤◌}
use Rattle.group_verdicts.proofs.counted.known.Given as goal

abbrev pub invariant-loop-members : goal.invariant-loop-members
invariant-loop-members l = l.members ≤ l.count

abbrev pub decreases-loop-members : goal.decreases-loop-members
decreases-loop-members l = l.members
