use Rattle.std.proofs.Common.{◌++◌, map, ◌∙◌}
use Rattle.pair_counts.proofs.InverseLemmas.{to_place, blocks_turn}
use Rattle.pair_counts.proofs.inverse.blocks_of.Goals as goal

pub loop-place-preserved : goal.loop-place-preserved
loop-place-preserved c =
    blocks_turn c.args.lists.now c.loop-place.place c.index-lists-place.result c.loop-place.blocks.items c.put_list.new.blocks.items c.loop-place-test.true c.index-lists-place.is
    c.loop-place.invariant (c.in_ok-put_list.ensures ∙ (λ i. c.loop-place.blocks.items ++ map (to_place (c.in_ok-number_of.ensures i)) (c.deref.ensures.value i)))
