use Rattle.std.proofs.Common.{slice_index_or}
use Rattle.world_levels.proofs.Laid.{none_grown, laid}
use Rattle.world_levels.proofs.building.slots.Goals as goal

pub returns-clause-layout : goal.returns-clause-layout
returns-clause-layout c =
    let spans = c.in_ok-left.left.items in
    let begun = none_grown spans c.new-slots.result.items c.new-slots.ensures.items in
    let ordered = c.in_ok-give_order.ensures.growing (λ p. slice_index_or spans p 0) begun in
    laid c.args.worlds.now c.args.parts spans c.give_rest.new.left.items c.give_rest.new.slots.items c.requires c.ranges.parts.fits c.in_ok-left.ensures
    (c.in_ok-give_rest.ensures.grows.growing (λ p. slice_index_or spans p 0) ordered) c.in_ok-give_rest.ensures.none
