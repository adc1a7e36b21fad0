use Rattle.std.proofs.Common.{◌≡◌, map, replicate, []}
use Rattle.elaborate.proofs.on_events.empty.Given as goal

abbrev pub invariant-loop-place : goal.invariant-loop-place
invariant-loop-place l = map (λ x. x.items) l.lists.items ≡ replicate l._place []
