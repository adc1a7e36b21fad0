use Rattle.world_levels.proofs.LevelLemmas.{after_none}
use Rattle.world_levels.proofs.growing.give_all.Goals as goal

pub loop-left-preserved : goal.loop-left-preserved
loop-left-preserved c =
    after_none 0 c.args.slots.now.items c.loop-left.slots.items c.give.new.slots.items c.args.left.now.items c.loop-left.left.items c.give.new.left.items c.loop-left.invariant c.in_ok-give.ensures.grows
