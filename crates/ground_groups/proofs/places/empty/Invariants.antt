use Rattle.std.proofs.Common.{◌≡◌, map, replicate, []}
use Rattle.ground_groups.proofs.places.empty.Given as goal

abbrev pub invariant-loop-place : goal.invariant-loop-place
invariant-loop-place l = map (λ x. x.items) l.lists.items ≡ replicate l._place []
