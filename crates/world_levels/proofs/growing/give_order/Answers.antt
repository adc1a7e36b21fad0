use Rattle.std.proofs.Common.{◌<◌, take, length, sym, subst, arith}
use Rattle.world_levels.specs.Order.{frees, free_count}
use Rattle.world_levels.specs.Growing.{Grows}
use Rattle.world_levels.proofs.LevelLemmas.{after, count_more}
use Rattle.world_levels.proofs.growing.give_order.Goals as goal

pub loop-place-preserved : goal.loop-place-preserved
loop-place-preserved c =
    let less : c.loop-place.place-index < length c.args.order.now = omega (arith, c.loop-place-test.true, c.loop-place.auto.place-index-end) in
    subst (λ n. Grows n c.args.slots.now.items c.give_place.new.slots.items c.args.left.now.items c.give_place.new.left.items)
    (sym (count_more c.args.order.now c.loop-place.place-index c.place-item.result less c.place-item.is))
    (after (free_count (take c.loop-place.place-index c.args.order.now)) (frees c.place-item.result) c.args.slots.now.items c.loop-place.slots.items c.give_place.new.slots.items
    c.args.left.now.items c.loop-place.left.items c.give_place.new.left.items c.loop-place.invariant c.in_ok-give_place.ensures)
