use Rattle.std.proofs.Common.{take}
use Rattle.world_levels.specs.Order.{free_count}
use Rattle.world_levels.specs.Growing.{Grows}
use Rattle.world_levels.proofs.growing.give_order.Given as goal

abbrev pub invariant-loop-place : goal.invariant-loop-place
invariant-loop-place l = Grows (free_count (take l.place-index l.order)) l.fn.slots.items l.slots.items l.fn.left.items l.left.items
