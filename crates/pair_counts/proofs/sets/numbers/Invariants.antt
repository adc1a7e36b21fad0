use Rattle.std.proofs.Common.{◌≡◌, map, flat_map, take}
use Rattle.pair_counts.specs.Sets.{once}
use Rattle.pair_counts.proofs.sets.numbers.Given as goal

abbrev pub invariant-loop-list : goal.invariant-loop-list
invariant-loop-list g l = l.numbers.keys ≡ once g.T.PartialEq.eq (flat_map (λ l. l) (map (λ v. v.items) (take l.list-index l.lists)))
