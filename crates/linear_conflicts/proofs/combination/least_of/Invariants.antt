use Rattle.std.proofs.Common.{ℕ, ℤ, ◌+ℤ◌, ◌≤ℤ◌, drop}
use Rattle.linear_conflicts.specs.Rows.{AreWithin}
use Rattle.linear_conflicts.specs.Steps.{combination}
use Rattle.linear_conflicts.proofs.combination.least_of.Given as goal

-- the least value of the factors before, and the value of the others
abbrev pub invariant-loop-variable : goal.invariant-loop-variable
invariant-loop-variable l = (v : ℕ → ℤ) → AreWithin l.ranges v
    → (l.least +ℤ combination v (drop l.variable l.factors) l.variable) ≤ℤ combination v l.factors 0
