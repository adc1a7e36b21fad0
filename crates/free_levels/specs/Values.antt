-- Values of levels that differ in some levels alone.
use Rattle.std.specs.Prelude.{◌≡◌, ℕ, ◌↔◌, Bool, true, false, ◌==◌, ◌||◌, List, [], ◌∷◌}
use Rattle.bdd_core.specs.Diagram.{Diagram, IsRef, meaning}
use Rattle.bdd_core.specs.Calls.{with_value}

-- whether a number stands in a list
abbrev pub is_in : List ℕ → ℕ → Bool
is_in [] n = false
is_in (m ∷ ms) n = (n == m) || is_in ms n

-- the values differ in these levels alone
abbrev pub AgreeOff : List ℕ → (ℕ → Bool) → (ℕ → Bool) → Type 0
AgreeOff levels a b = (level : ℕ) → is_in levels level ≡ false → a level ≡ b level

-- the values are the same on the kept levels
abbrev pub AgreeOn : (ℕ → Bool) → (ℕ → Bool) → (ℕ → Bool) → Type 0
AgreeOn kept a b = (level : ℕ) → kept level ≡ true → a level ≡ b level

-- some values that differ from these in those levels alone make the function true
pub record TrueOff (function : (ℕ → Bool) → Bool) (levels : List ℕ) (values : ℕ → Bool) : Type 0 where
  pub other : ℕ → Bool
  pub agree : AgreeOff levels other values
  pub holds : function other ≡ true

-- r is true exactly where f is at some values that differ in these levels alone
pub record IsForgotten (old new : Diagram) (f : ℕ) (levels : List ℕ) (r : ℕ) : Type 0 where
  pub is_ref : IsRef new r
  pub means : (values : ℕ → Bool) → (meaning new r values ≡ true) ↔ TrueOff (meaning old f) levels values

-- the function does not depend on the level
abbrev pub Ignores : ((ℕ → Bool) → Bool) → ℕ → Type 0
Ignores function level = (values : ℕ → Bool) (value : Bool) → function (with_value values level value) ≡ function values

-- the function depends on none of these levels
abbrev pub IgnoresAll : ((ℕ → Bool) → Bool) → List ℕ → Type 0
IgnoresAll function levels = (level : ℕ) → is_in levels level ≡ true → Ignores function level
