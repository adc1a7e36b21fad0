-- The numbers that are not within a range, by their places.
use Rattle.std.specs.Prelude.{◌≡◌, ℕ, ℤ, Bool, not, ◌&&◌, List, int_lt, int_le}
use Rattle.std.specs.Ordering.{int_eq}
use Rattle.pair_counts.specs.declared.blocks.Range.{Range}
use Rattle.pair_counts.specs.Bits.{bit}
use Rattle.pair_counts.specs.Sets.{passes_at}

-- whether a number is not within a range
abbrev pub is_outside : Range → ℤ → Bool
is_outside range n = not (int_lt range.low n && int_le n range.high)

-- The set has the places of the numbers that are not within the range.
abbrev pub HasOutside : List ℤ → Range → List ℕ → Type 0
HasOutside numbers range set = (q : ℕ) → bit set q ≡ passes_at (is_outside range) numbers q

abbrev pub same_range : Range → Range → Bool
same_range a b = int_eq a.low b.low && int_eq a.high b.high
