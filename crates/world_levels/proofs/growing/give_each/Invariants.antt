use Rattle.world_levels.specs.Growing.{Grows}
use Rattle.world_levels.proofs.growing.give_each.Given as goal

abbrev pub invariant-loop-part : goal.invariant-loop-part
invariant-loop-part l = Grows 0 l.fn.slots.items l.slots.items l.fn.left.items l.left.items
