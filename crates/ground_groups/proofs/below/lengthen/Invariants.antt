use Rattle.std.proofs.Common.{List, map, length, ◌+◌, ◌-◌}
use Rattle.ground_groups.specs.declared.key.Key.{Key}
use Rattle.ground_groups.specs.Below.{AreByEvent}
use Rattle.ground_groups.proofs.below.lengthen.Given as goal

abbrev pub invariant-loop-alloc : goal.invariant-loop-alloc
invariant-loop-alloc l = (keys : List Key)
    → AreByEvent keys (map (λ x. x.items) l.fn.lists.items) → AreByEvent keys (map (λ x. x.items) l.lists.items)

abbrev pub decreases-loop-alloc : goal.decreases-loop-alloc
decreases-loop-alloc l = l.event + 1 - length l.lists.items
