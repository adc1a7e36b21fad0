use Rattle.std.proofs.Common.{slice_index_or}
use Rattle.world_levels.specs.Growing.{Grows}
use Rattle.world_levels.proofs.growing.give_all.Given as goal

abbrev pub invariant-loop-left : goal.invariant-loop-left
invariant-loop-left l = Grows 0 l.fn.slots.items l.slots.items l.fn.left.items l.left.items

abbrev pub decreases-loop-left : goal.decreases-loop-left
decreases-loop-left l = slice_index_or l.left.items l.part 0
