-- Rising numbers below a bound.
use Rattle.std.specs.Prelude.{ℕ, ◌<◌, ◌≤◌, Bool, ◌==◌, List, [], ◌∷◌, ⊤, length, get_or}
use Rattle.std.specs.List.{list_any}
use Rattle.rsml_meaning.specs.Words.{Each}

-- each number is below all behind it
abbrev pub AreRising : List ℕ → Type 0
AreRising [] = ⊤
AreRising (n ∷ ns) = Each (λ k. n < k) ns × AreRising ns

-- whether a number is among these
abbrev pub among : List ℕ → ℕ → Bool
among ns k = list_any (λ n. n == k) ns

-- all before the place are below the number, and all from it on above it
pub record IsPlaceFor (xs : List ℕ) (i y : ℕ) : Type 0 where
  pub within : i ≤ length xs
  pub low : (k : ℕ) → k < i → get_or xs k 0 < y
  pub high : (k : ℕ) → i ≤ k → k < length xs → y < get_or xs k 0

-- Numbers, and the bound that they are below.
pub record Numbers : Type 0 where
  pub below : ℕ
  pub items : List ℕ

-- They rise, and there is room for all that may come.
pub record AreKept (ns : List ℕ) (bound room : ℕ) : Type 0 where
  pub rising : AreRising ns
  pub under : Each (λ k. k < bound) ns
  pub fits : bound ≤ room
