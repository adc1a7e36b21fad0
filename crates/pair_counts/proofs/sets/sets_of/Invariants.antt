use Rattle.std.proofs.Common.{◌≡◌, length, map, take}
use Rattle.pair_counts.specs.AreSets.{AreSets}
use Rattle.pair_counts.proofs.sets.sets_of.Given as goal

abbrev pub invariant-loop-list : goal.invariant-loop-list
invariant-loop-list g l = (length l.sets.items ≡ l.list-index) × AreSets g.T.PartialEq.eq l.numbers.keys (map (λ v. v.items) (take l.list-index l.lists)) l.sets.items
