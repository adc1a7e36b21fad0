use Rattle.world_levels.proofs.LevelLemmas.{after_none}
use Rattle.world_levels.proofs.growing.give_of_weight.Goals as goal

pub loop-slots-preserved : goal.loop-slots-preserved
loop-slots-preserved c =
    after_none 0 c.args.slots.now.items c.loop-slots.slots.items c.give.new.slots.items c.args.left.now.items c.loop-slots.left.items c.give.new.left.items c.loop-slots.invariant c.in_ok-give.ensures.grows
