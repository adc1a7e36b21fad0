use Rattle.world_levels.proofs.LevelLemmas.{free_more}
use Rattle.world_levels.proofs.growing.add_free.Goals as goal

pub returns : goal.returns
returns c = free_more c.args.slots.now.items c.add.new.slots.items c.args.left.now c.in_ok-add.ensures.last c.in_ok-add.ensures.few
