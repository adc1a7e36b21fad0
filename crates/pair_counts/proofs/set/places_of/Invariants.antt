use Rattle.std.proofs.Common.{◌≡◌, ℕ, take}
use Rattle.pair_counts.specs.Has.{has_place}
use Rattle.pair_counts.specs.Sets.{is_in}
use Rattle.pair_counts.proofs.set.places_of.Given as goal

abbrev pub invariant-loop-number : goal.invariant-loop-number
invariant-loop-number g l = (q : ℕ) → has_place l.places.items q ≡ is_in g.T.PartialEq.eq l.numbers.keys (take l.number-index l.list) q
