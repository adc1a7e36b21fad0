-- Functions at lawful values.
use Rattle.std.specs.Prelude.{◌≡◌, ℕ, ◌<◌, ◌↔◌, Bool, true, false}
use Rattle.free_levels.specs.Values.{AgreeOn}
use Rattle.free_levels.specs.Keys.{Keys, IsLawful}

-- the kept levels are no key's, and none of those that were forgotten
pub record AreKept (keys : Keys) (forgotten kept : ℕ → Bool) : Type 0 where
  pub no_key : (i : ℕ) → i < keys.count → kept (keys.level i) ≡ false
  pub others : (level : ℕ) → forgotten level ≡ true → kept level ≡ false

-- some values that are the same on the kept levels make the function true
pub record MayHold (function : (ℕ → Bool) → Bool) (kept values : ℕ → Bool) : Type 0 where
  pub other : ℕ → Bool
  pub agree : AgreeOn kept other values
  pub holds : function other ≡ true

-- some lawful values that are the same on the kept levels make the function true
pub record MayHoldLawfully (keys : Keys) (function : (ℕ → Bool) → Bool) (kept values : ℕ → Bool) : Type 0 where
  pub other : ℕ → Bool
  pub agree : AgreeOn kept other values
  pub lawful : IsLawful keys other
  pub holds : function other ≡ true

-- the settled function is false everywhere exactly where no lawful values make the function true; and on levels that are kept
-- it can be true exactly where the function can at lawful values
pub record IsSettled (keys : Keys) (forgotten : ℕ → Bool) (function settled : (ℕ → Bool) → Bool) : Type 0 where
  pub none : ((values : ℕ → Bool) → settled values ≡ false)
      ↔ ((values : ℕ → Bool) → IsLawful keys values → function values ≡ false)
  pub projects : (kept : ℕ → Bool) → AreKept keys forgotten kept → (values : ℕ → Bool)
      → MayHold settled kept values ↔ MayHoldLawfully keys function kept values
