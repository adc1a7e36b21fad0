-- Counts, which stay at the greatest number that a program counts to.
use Rattle.std.specs.Prelude.{ℕ, ◌+◌, ◌-◌, ◌^◌, ◌≤◌, min}

-- one more
abbrev pub counted : ℕ → ℕ
counted n = min (n + 1) (2 ^ 64 - 1)

-- a count is greater than before, or stands at the greatest number
abbrev pub Rose : ℕ → ℕ → Type 0
Rose before now = counted before ≤ now
