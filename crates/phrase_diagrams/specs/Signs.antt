-- Levels with another sign, and numbers that are small on both sides of 0. No public clause speaks of these.
use Rattle.std.specs.Prelude.{ℕ, Bool, ℤ, pos, neg_ℤ, ◌≤ℤ◌}
use Rattle.spelled_numbers.specs.declared.weighted.Weighted.{Weighted}

-- a level with this sign
abbrev pub with_sign : Bool → Weighted → Weighted
with_sign minus t = record { minus = minus; level = t.level; weight = t.weight }

-- a number from -n to n
pub record IsWithin (n : ℕ) (z : ℤ) : Type 0 where
  pub least : neg_ℤ (pos n) ≤ℤ z
  pub most : z ≤ℤ pos n
