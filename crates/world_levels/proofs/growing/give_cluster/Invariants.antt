use Rattle.world_levels.specs.Growing.{Grows}
use Rattle.world_levels.proofs.growing.give_cluster.Given as goal

abbrev pub invariant-loop-weight : goal.invariant-loop-weight
invariant-loop-weight l = Grows 0 l.fn.slots.items l.slots.items l.fn.left.items l.left.items

abbrev pub decreases-loop-weight : goal.decreases-loop-weight
decreases-loop-weight l = l.weight
