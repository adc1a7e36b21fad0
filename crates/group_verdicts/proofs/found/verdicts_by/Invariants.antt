use Rattle.std.proofs.Common.{map, take}
use Rattle.std.specs.List.{AllZip}
use Rattle.rsml_meaning.specs.Findings.{IsVerdict}
use Rattle.rsml_meaning.specs.Groups.{groups}
use Rattle.guard_encode.specs.Encoding.{Keeps}
use Rattle.group_verdicts.specs.Counts.{AreCounts}
use Rattle.finding_texts.specs.Verdicts.{verdict_of}
use Rattle.group_verdicts.proofs.found.verdicts_by.Given as goal

-- what is found of the groups so far, and what is kept of counts
abbrev pub invariant-loop-group : goal.invariant-loop-group
invariant-loop-group l = record {
  keeps : Keeps l.fn.encoder l.encoder;
  counts : AreCounts l.encoder l.counts;
  so_far : AllZip (IsVerdict l.fn.encoder.machine.base.spec) (take l.group (groups l.fn.encoder.machine.base.spec)) (map verdict_of l.verdicts.items);
}
