-- Sets of places, some as bits and some as lists.
use Rattle.std.specs.Prelude.{ℕ, Bool, false, ◌==◌, List, slice_get}
use Rattle.std.specs.List.{list_any}
use Rattle.std.specs.Option.{option_map_or}
use Rattle.pair_counts.specs.declared.set.Set.{Set}
use Rattle.pair_counts.specs.declared.set.Set.TheVariants as sets
use Rattle.pair_counts.specs.Bits.{bit}

-- whether a place is among these
abbrev pub has_place : List ℕ → ℕ → Bool
has_place places q = list_any (λ p. p == q) places

-- whether a place is in a set
abbrev pub has : Set → ℕ → Bool
has (sets.Few places) q = has_place places.items q
has (sets.Many bits) q = bit bits q

-- whether a place is in the set at a place; none there is empty
abbrev pub has_at : List Set → ℕ → ℕ → Bool
has_at all place q = option_map_or (λ s. has s q) (slice_get all place) false
