use Rattle.std.proofs.Common.{◌≡◌, ℕ, nat_eq, map, take}
use Rattle.pair_counts.specs.Grouped.{places_of}
use Rattle.pair_counts.specs.Blocks.{list_at}
use Rattle.pair_counts.specs.Sets.{is_among}
use Rattle.pair_counts.proofs.inverse.blocks_of.Given as goal

abbrev pub invariant-loop-place : goal.invariant-loop-place
invariant-loop-place l =
    (number p : ℕ) → is_among nat_eq (places_of l.blocks.items number) p ≡ is_among nat_eq (list_at (map (λ v. v.items) (take l.place l.lists)) p) number
