use Rattle.std.proofs.Common.{slice_index_or}
use Rattle.world_levels.specs.Growing.{Grows}
use Rattle.world_levels.proofs.growing.give_of_weight.Given as goal

abbrev pub invariant-loop-slots : goal.invariant-loop-slots
invariant-loop-slots l = Grows 0 l.fn.slots.items l.slots.items l.fn.left.items l.left.items

abbrev pub decreases-loop-slots : goal.decreases-loop-slots
decreases-loop-slots l = slice_index_or l.left.items l.part 0
