-- Sets of places as bits, 64 to a word.
use Rattle.std.specs.Prelude.{ℕ, zero, suc, ◌+◌, ◌/◌, ◌%◌, Bool, ◌==◌, List, slice_index, if◌then◌else◌}
use Rattle.std.specs.Int.{bit_at}

-- whether a place is in the set
abbrev pub bit : List ℕ → ℕ → Bool
bit words place = bit_at (slice_index words (place / 64)) (place % 64) == 1

-- 1 for what passes
abbrev pub one : Bool → ℕ
one b = if b then 1 else 0

-- the sum of what is counted at each number below
abbrev pub adds_below : (ℕ → ℕ) → ℕ → ℕ
adds_below count zero = 0
adds_below count (suc n) = adds_below count n + count n
