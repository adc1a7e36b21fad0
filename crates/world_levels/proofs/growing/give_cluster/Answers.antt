use Rattle.world_levels.proofs.LevelLemmas.{after_none}
use Rattle.world_levels.proofs.growing.give_cluster.Goals as goal

pub loop-weight-preserved : goal.loop-weight-preserved
loop-weight-preserved c =
    after_none 0 c.args.slots.now.items c.loop-weight.slots.items c.give_each.new.slots.items c.args.left.now.items c.loop-weight.left.items c.give_each.new.left.items c.loop-weight.invariant c.in_ok-give_each.ensures
