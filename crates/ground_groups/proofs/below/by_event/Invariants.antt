use Rattle.std.proofs.Common.{map, take}
use Rattle.ground_groups.specs.Below.{AreByEvent}
use Rattle.ground_groups.proofs.below.by_event.Given as goal

abbrev pub invariant-loop-key : goal.invariant-loop-key
invariant-loop-key l = AreByEvent (take l.key-index l.keys) (map (λ x. x.items) l.lists.items)
