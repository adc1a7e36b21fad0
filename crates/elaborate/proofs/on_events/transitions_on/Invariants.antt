use Rattle.std.proofs.Common.{map, take}
use Rattle.elaborate.specs.OnEvents.{AreOn}
use Rattle.elaborate.proofs.on_events.transitions_on.Given as goal

abbrev pub invariant-loop-place : goal.invariant-loop-place
invariant-loop-place l = AreOn l.count (map (λ x. x.event) (take l.place l.transitions)) (map (λ x. x.items) l.lists.items)
