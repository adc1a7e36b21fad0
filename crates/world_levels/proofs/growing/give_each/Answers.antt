use Rattle.world_levels.proofs.LevelLemmas.{after_none}
use Rattle.world_levels.proofs.growing.give_each.Goals as goal

pub loop-part-preserved : goal.loop-part-preserved
loop-part-preserved c =
    after_none 0 c.args.slots.now.items c.loop-part.slots.items c.give_of_weight.new.slots.items c.args.left.now.items c.loop-part.left.items c.give_of_weight.new.left.items c.loop-part.invariant c.in_ok-give_of_weight.ensures
