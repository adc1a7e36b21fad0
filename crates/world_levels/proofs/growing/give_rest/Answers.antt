use Rattle.world_levels.proofs.LevelLemmas.{after_none, none_more}
use Rattle.world_levels.proofs.growing.give_rest.Goals as goal

pub loop-part-preserved : goal.loop-part-preserved
loop-part-preserved c = record {
  grows = after_none 0 c.args.slots.now.items c.loop-part.slots.items c.give_all.new.slots.items c.args.left.now.items c.loop-part.left.items c.give_all.new.left.items c.loop-part.invariant.grows c.in_ok-give_all.ensures.grows;
  none = none_more c.loop-part.left.items c.give_all.new.left.items c.loop-part.part c.loop-part.invariant.none c.in_ok-give_all.ensures.grows.less c.in_ok-give_all.ensures.none;
}
