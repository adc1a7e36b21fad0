use Rattle.std.proofs.Common.{◌-◌}
use Rattle.invariants.proofs.subsets.+first_from.Given as goal

-- the numbers of events that are left
abbrev pub decreases-first_from : goal.decreases-first_from
decreases-first_from l = 1024 - l.from
