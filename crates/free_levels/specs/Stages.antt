-- One stage after another: some keys are exact already, and others are left.
use Rattle.std.specs.Prelude.{◌≡◌, ℕ, ◌<◌, ◌↔◌, Bool, true, false, List, length, slice_index_or}
use Rattle.free_levels.specs.Values.{AgreeOn}
use Rattle.free_levels.specs.Keys.{Keys}
use Rattle.free_levels.specs.Settle.{AreKept}

-- whether the key at a place is left
abbrev pub is_left : List Bool → ℕ → Bool
is_left left i = slice_index_or left i false

-- some values that are lawful for the keys that are left, and the same on the kept levels, make the function true
pub record Holds (keys : Keys) (left : List Bool) (function : (ℕ → Bool) → Bool) (kept values : ℕ → Bool) : Type 0 where
  pub other : ℕ → Bool
  pub agree : AgreeOn kept other values
  pub lawful : (i : ℕ) → i < keys.count → is_left left i ≡ true → other (keys.level i) ≡ keys.function i other
  pub holds : function other ≡ true

-- no key is left that was not, and there are as many as before
pub record FewerLeft (before after : List Bool) : Type 0 where
  pub same_length : length after ≡ length before
  pub stays : (i : ℕ) → is_left before i ≡ false → is_left after i ≡ false

-- from one function, with some keys left, to another, with others left, where at most these levels are forgotten: on kept
-- levels both hold or neither
pub record IsStage (keys : Keys) (forgotten : ℕ → Bool) (before after : List Bool) (first second : (ℕ → Bool) → Bool) : Type 0 where
  pub same : (kept : ℕ → Bool) → AreKept keys forgotten kept → (values : ℕ → Bool)
      → Holds keys before first kept values ↔ Holds keys after second kept values
