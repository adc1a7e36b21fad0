use Rattle.std.proofs.Common.{take}
use Rattle.std.specs.List.{AllZip}
use Rattle.ground_groups.specs.Stored.{IsLine}
use Rattle.ground_groups.proofs.lines.lines.Given as goal

abbrev pub invariant-loop-place : goal.invariant-loop-place
invariant-loop-place l = AllZip (IsLine l.tree l.lots.heads.keys) (take l.place l.lots.heads.keys) l.lines.items
