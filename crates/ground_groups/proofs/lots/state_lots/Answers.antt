use Rattle.std.proofs.Common.{map, ◌∙◌}
use Rattle.ground_groups.proofs.StateLots.{ok_so, state_lots_are}
use Rattle.ground_groups.proofs.lots.state_lots.Goals as goal

pub returns : goal.returns
returns c = ok_so _ _ c.sorted.result c.sorted.ensures
    (λ lots a ps s checked are. state_lots_are ps s c.args.transitions.now c.as_slice.result.now lots.heads.keys (map (λ l. l.items) lots.places.items) checked are (c.as_slice.ensures.value ∙ c.in_ok-keys.ensures) a)
