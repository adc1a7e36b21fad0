use Rattle.std.proofs.Common.{◌≡◌, map, replicate, []}
use Rattle.elaborate.proofs.on_events.with_room.Given as goal

abbrev pub invariant-loop-count : goal.invariant-loop-count
invariant-loop-count l = map (λ x. x.items) l.lists.items ≡ replicate l.count-index []
