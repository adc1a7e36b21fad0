-- Signed sums of the weights of true levels, and how they compare with a number.
use Rattle.std.specs.Prelude.{◌≡◌, ℕ, ◌+◌, ◌<◌, Bool, false, not, if◌then◌else◌, List, [], ◌∷◌, All, ℤ, pos, neg_ℤ, ◌+ℤ◌, int_lt, int_le}
use Rattle.std.specs.Ordering.{int_eq}
use Rattle.bdd_core.specs.Diagram.{Diagram}
use Rattle.spelled_numbers.specs.declared.comparison.Comparison.{Comparison}
use Rattle.spelled_numbers.specs.declared.comparison.Comparison.TheVariants as comparisons
use Rattle.spelled_numbers.specs.declared.weighted.Weighted.{Weighted}

-- what a level adds where it has this value
abbrev pub term_value : Bool → Weighted → ℤ
term_value value t = if value then (if t.minus then neg_ℤ (pos t.weight) else pos t.weight) else pos 0

-- the sum of the weights of the true levels, some of them taken off
abbrev pub signed_sum : (ℕ → Bool) → List Weighted → ℤ
signed_sum values [] = pos 0
signed_sum values (t ∷ ts) = term_value (values t.level) t +ℤ signed_sum values ts

-- the sum of the weights of the true levels
abbrev pub weight_sum : (ℕ → Bool) → List Weighted → ℕ
weight_sum values [] = 0
weight_sum values (t ∷ ts) = (if values t.level then t.weight else 0) + weight_sum values ts

-- the sum of all weights
abbrev pub total_weight : List Weighted → ℕ
total_weight [] = 0
total_weight (t ∷ ts) = t.weight + total_weight ts

-- each level is one of the arena
abbrev pub AreLevels : Diagram → List Weighted → Type 0
AreLevels d terms = All (λ t. t.level < d.levels) terms

-- no weight is taken off
abbrev pub AddOnly : List Weighted → Type 0
AddOnly terms = All (λ t. t.minus ≡ false) terms

-- the first number compares so with the second
abbrev pub holds : Comparison → ℤ → ℤ → Bool
holds comparisons.Equal x y = int_eq x y
holds comparisons.NotEqual x y = not (int_eq x y)
holds comparisons.Less x y = int_lt x y
holds comparisons.LessEqual x y = int_le x y
holds comparisons.Greater x y = int_lt y x
holds comparisons.GreaterEqual x y = int_le y x
