use Rattle.std.proofs.Common.{take}
use Rattle.std.specs.List.{AllZip}
use Rattle.ground_members.specs.Alike.{IsAlike}
use Rattle.ground_members.proofs.alike.all_alike.Given as goal

abbrev pub invariant-loop-source : goal.invariant-loop-source
invariant-loop-source l = AllZip (IsAlike l.lookup l.node l.other) (take l.source-index l.sources) l.transitions.items
