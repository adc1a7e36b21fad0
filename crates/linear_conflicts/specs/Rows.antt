-- Rows of linear inequalities, and which of them contradict each other.
use Rattle.std.specs.Prelude.{◌≡◌, ℕ, ◌<◌, List, [], ◌∷◌, All, Contains, slice_get, Some, length, ℤ, pos, ◌+ℤ◌, ◌*ℤ◌, ◌≤ℤ◌}
use Rattle.linear_conflicts.specs.declared.term.Term.{Term}
use Rattle.linear_conflicts.specs.declared.row.Row.{Row}
use Rattle.linear_conflicts.specs.declared.range.Range.{Range}

-- the sum of terms, where the variables have values
abbrev pub terms_at : (ℕ → ℤ) → List Term → ℤ
terms_at v [] = pos 0
terms_at v (t ∷ ts) = t.factor *ℤ v t.variable +ℤ terms_at v ts

-- the sum of a row
abbrev pub sum_at : (ℕ → ℤ) → Row → ℤ
sum_at v row = terms_at v row.terms.items

-- the sum is at most its number
abbrev pub Meets : (ℕ → ℤ) → Row → Type 0
Meets v row = sum_at v row ≤ℤ row.most

-- each variable that has a range is within it
abbrev pub AreWithin : List Range → (ℕ → ℤ) → Type 0
AreWithin ranges v = (i : ℕ) (range : Range) → slice_get ranges i ≡ Some range → (range.low ≤ℤ v i) × (v i ≤ℤ range.high)

-- all rows at these places are met
abbrev pub AreMet : (ℕ → ℤ) → List Row → List ℕ → Type 0
AreMet v rows places = (place : ℕ) (row : Row) → Contains places place → slice_get rows place ≡ Some row → Meets v row

-- no values within the ranges meet all rows at these places
pub record AreInConflict (ranges : List Range) (rows : List Row) (core : List ℕ) : Type 0 where
  pub places : All (λ place. place < length rows) core
  pub contradict : (v : ℕ → ℤ) → AreWithin ranges v → AreMet v rows core → ⊥
