use Rattle.linear_conflicts.proofs.RowLemmas.{place_told}
use Rattle.linear_conflicts.proofs.conflicts.places_of.Goals as goal

pub loop-multiplier-preserved : goal.loop-multiplier-preserved
loop-multiplier-preserved c =
    place_told c.args.multipliers.now c.loop-multiplier.multiplier-index _ c.loop-multiplier.found.items c.push.new.self.items
    c.loop-multiplier-test.true c.in_ok-push.ensures.items c.loop-multiplier.invariant
