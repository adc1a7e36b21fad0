use Rattle.guard_encode.specs.Encoding.{Keeps}
use Rattle.group_verdicts.specs.Counts.{AreCounts}
use Rattle.group_verdicts.proofs.found.first_refused.Given as goal

-- what is kept
abbrev pub invariant-loop-group : goal.invariant-loop-group
invariant-loop-group l = record {
  keeps : Keeps l.fn.encoder l.encoder;
  counts : AreCounts l.encoder l.counts;
}
