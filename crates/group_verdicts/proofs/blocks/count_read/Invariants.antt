use Rattle.std.proofs.Common.{◌≤◌}
use Rattle.group_verdicts.proofs.blocks.count_read.Given as goal

-- no more are counted than there are
abbrev pub invariant-loop-place : goal.invariant-loop-place
invariant-loop-place l = l.count ≤ l.place
