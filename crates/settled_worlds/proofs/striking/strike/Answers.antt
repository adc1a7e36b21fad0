use Rattle.settled_worlds.proofs.StepLemmas.{struck_trans}
use Rattle.settled_worlds.proofs.striking.strike.Goals as goal

pub loop-place-preserved : goal.loop-place-preserved
loop-place-preserved c = struck_trans c.args.levels.now c.args.used.now c.args.left.now.items c.loop-place.left.items c.strike_key.new.left.items
    c.loop-place.invariant c.strike_key.ensures
