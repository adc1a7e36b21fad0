use Rattle.std.proofs.Common.{◌≡◌, map, take}
use Rattle.ground_groups.specs.Below.{below_of}
use Rattle.ground_groups.proofs.below.below.Given as goal

abbrev pub invariant-loop-key : goal.invariant-loop-key
invariant-loop-key l = map (λ x. x.items) l.lists.items ≡ map (below_of l.tree l.keys) (take l.key-index l.keys)
