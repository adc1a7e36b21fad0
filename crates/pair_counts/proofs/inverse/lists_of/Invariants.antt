use Rattle.std.proofs.Common.{◌≡◌, ◌<◌, ℕ, length, map}
use Rattle.pair_counts.specs.Grouped.{places_at}
use Rattle.pair_counts.specs.Blocks.{list_at}
use Rattle.pair_counts.proofs.inverse.lists_of.Given as goal

abbrev pub invariant-loop-place : goal.invariant-loop-place
invariant-loop-place l =
    (length l.lists.items ≡ l.place) × ((p : ℕ) → p < l.place → list_at (map (λ v. v.items) l.lists.items) p ≡ places_at l.groups p)
