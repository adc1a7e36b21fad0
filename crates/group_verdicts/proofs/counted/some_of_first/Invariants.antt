use Rattle.std.proofs.Common.{◌≤◌}
use Rattle.guard_encode.specs.Encoding.{Keeps}
use Rattle.group_verdicts.specs.Counts.{AreCounts, TellsAt, more_than}
use Rattle.group_verdicts.proofs.counted.some_of_first.Given as goal

-- what is told of the members so far
abbrev pub invariant-loop-place : goal.invariant-loop-place
invariant-loop-place l = record {
  keeps : Keeps l.fn.encoder l.encoder;
  counts : AreCounts l.encoder l.counts;
  within : l.place ≤ l.count;
  some : TellsAt l.encoder l.group (more_than 0 l.place) l.some;
}
