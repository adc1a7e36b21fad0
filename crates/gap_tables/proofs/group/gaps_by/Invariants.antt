use Rattle.std.proofs.Common.{take}
use Rattle.std.specs.List.{AllZip}
use Rattle.rsml_meaning.specs.Groups.{groups}
use Rattle.guard_encode.specs.Encoding.{Keeps}
use Rattle.group_verdicts.specs.Counts.{AreCounts}
use Rattle.world_columns.specs.GapsOf.{AreGroupGaps}
use Rattle.gap_tables.proofs.group.gaps_by.Given as goal

-- what is told of the groups so far, and what is kept of counts
abbrev pub invariant-loop-group : goal.invariant-loop-group
invariant-loop-group l = record {
  keeps : Keeps l.fn.encoder l.encoder;
  counts : AreCounts l.encoder l.counts;
  so_far : AllZip (AreGroupGaps l.fn.encoder.machine.base.spec l.most) (take l.group (groups l.fn.encoder.machine.base.spec)) l.gaps.items;
}
