use Rattle.std.proofs.Common.{◌≡◌, take}
use Rattle.ground_groups.specs.Below.{below_of}
use Rattle.ground_groups.proofs.below.states_inside.Given as goal

abbrev pub invariant-loop-other : goal.invariant-loop-other
invariant-loop-other l = l.list.items ≡ below_of l.tree (take l.other-index l.behind) l.key
