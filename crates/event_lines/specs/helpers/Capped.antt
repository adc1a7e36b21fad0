-- Numbers of any size, as far as a `u64` goes.
use Rattle.std.specs.Prelude.{ℕ, ◌-◌, ◌^◌, suc, min, ℤ, pos, negsuc, neg_ℤ}

-- the number, or the greatest `u64` in place of a greater one
abbrev pub capped : ℕ → ℕ
capped n = min n (2 ^ 64 - 1)

-- the same of what stands behind the sign
abbrev pub capped_signed : ℤ → ℤ
capped_signed (pos n) = pos (capped n)
capped_signed (negsuc n) = neg_ℤ (pos (capped (suc n)))
