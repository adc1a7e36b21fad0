-- Exact diagrams of the comparisons that have levels, and functions that are settled: false everywhere exactly where a function
-- is false at all lawful values.
use Rattle.std.specs.Prelude.{◌≡◌, ◌↔◌, ℕ, Bool, true, false, ◌&&◌, List, length, map, Option, Some, slice_get}
use Rattle.free_levels.specs.Values.{is_in}
use Rattle.bdd_core.specs.Diagram.{Diagram, IsRef, meaning}
use Rattle.bdd_core.specs.Calls.{Represents}
use Rattle.spelled_numbers.specs.Bits.{bits_of}
use Rattle.world_levels.specs.Spelling.{cell_part}
use Rattle.keyed_levels.specs.Keyed.{KeyedWorlds, Lawful, keys_of}

-- for each key its exact diagram, where that has been made
pub record AreExact (d : Diagram) (k : KeyedWorlds) (exact : List (Option ℕ)) : Type 0 where
  pub many : length exact ≡ length k.keyed
  pub each : (i f : ℕ) → slice_get exact i ≡ Some (Some f) → Represents d ((keys_of k).function i) f

-- r is false everywhere exactly where f is false at all lawful values
pub record IsSettled (old new : Diagram) (k : KeyedWorlds) (f r : ℕ) : Type 0 where
  pub is_ref : IsRef new r
  pub none : ((values : ℕ → Bool) → meaning new r values ≡ false) ↔ ((values : ℕ → Bool) → Lawful k values → meaning old f values ≡ false)

-- at lawful values r is what f is
pub record IsSameLawfully (old new : Diagram) (k : KeyedWorlds) (f r : ℕ) : Type 0 where
  pub is_ref : IsRef new r
  pub same : (values : ℕ → Bool) → Lawful k values → meaning new r values ≡ meaning old f values

-- the levels of a cell
abbrev pub cell_levels : KeyedWorlds → ℕ → List ℕ
cell_levels k cell = map (λ t. t.level) (bits_of (cell_part k.base.spec cell) false k.slots 0)

-- a test depends on these levels alone
abbrev pub DependsOn : List ℕ → ((ℕ → Bool) → Bool) → Type 0
DependsOn levels test = (one other : ℕ → Bool) → ((level : ℕ) → is_in levels level ≡ true → one level ≡ other level) → test one ≡ test other

-- r tells of some levels what f does at lawful values: with each test of these levels alone it is true together somewhere exactly
-- where f is, at some lawful values
pub record IsProjected (old new : Diagram) (k : KeyedWorlds) (levels : List ℕ) (f r : ℕ) : Type 0 where
  pub is_ref : IsRef new r
  pub same : (test : (ℕ → Bool) → Bool) → DependsOn levels test → ((values : ℕ → Bool) → (meaning new r values && test values) ≡ false)
      ↔ ((values : ℕ → Bool) → Lawful k values → (meaning old f values && test values) ≡ false)
