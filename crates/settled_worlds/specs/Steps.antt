-- What the steps of a sweep promise each other. No public clause speaks of these.
use Rattle.std.specs.Prelude.{◌≡◌, ℕ, ◌<◌, ◌==◌, Bool, true, false, not, ◌||◌, ◌⊎◌, List, length, Option, None, Some, slice_index_or}
use Rattle.std.specs.List.{list_any}
use Rattle.rsml_ground.specs.declared.sums.GroundOperand.{GroundOperand}
use Rattle.rsml_ground.specs.declared.sums.GroundOperand.TheVariants as operands
use Rattle.rsml_ground.specs.declared.sums.GroundSum.{GroundSum}
use Rattle.rsml_ground.specs.declared.phrases.GroundPhrase.{GroundPhrase}
use Rattle.rsml_ground.specs.declared.phrases.GroundPhrase.TheVariants as phrases
use Rattle.bdd_core.specs.Diagram.{Diagram, IsRef, meaning}
use Rattle.free_levels.specs.Values.{is_in, Ignores, IgnoresAll}
use Rattle.free_levels.specs.Keys.{AreKeys}
use Rattle.free_levels.specs.Settle as settle
use Rattle.free_levels.specs.Stages.{is_left, FewerLeft, IsStage}
use Rattle.keyed_levels.specs.Keyed.{KeyedWorlds, keys_of}
use Rattle.settled_worlds.specs.Settled.{AreExact, cell_levels}

-- whether an operand is the cell
abbrev pub is_cell : ℕ → GroundOperand → Bool
is_cell cell (operands.Number n) = false
is_cell cell (operands.Cell other) = other == cell

-- whether a sum names the cell
abbrev pub names : ℕ → GroundSum → Bool
names cell x = list_any (λ t. is_cell cell t.operand) x.terms

-- whether a phrase is a comparison that names the cell
abbrev pub compares : ℕ → Option GroundPhrase → Bool
compares cell (Some (phrases.Compare left relation right)) = names cell left || names cell right
compares cell _ = false

-- the comparison of the key at a place does not depend on the levels of the cell
abbrev pub IsUnread : KeyedWorlds → ℕ → ℕ → Type 0
IsUnread k cell place = IgnoresAll ((keys_of k).function place) (cell_levels k cell)

-- no level may be forgotten
abbrev pub no_levels : ℕ → Bool
no_levels level = false

-- whether the cell is the one that is kept
abbrev pub is_kept : Option ℕ → ℕ → Bool
is_kept None cell = false
is_kept (Some kept) cell = kept == cell

-- any level may be forgotten, but those of the cell that is kept
abbrev pub all_but : KeyedWorlds → Option ℕ → ℕ → Bool
all_but k None level = true
all_but k (Some kept) level = not (is_in (cell_levels k kept) level)

-- what a step finds: keys, an arena with their levels, exact diagrams of some, and which are left
pub record AreReady (d : Diagram) (k : KeyedWorlds) (exact : List (Option ℕ)) (left : List Bool) : Type 0 where
  pub keys : AreKeys (keys_of k)
  pub room : d.levels ≡ length k.slots
  pub are_exact : AreExact d k exact
  pub many : length left ≡ length k.keyed

-- from f, with some keys left, to r, with fewer, where at most these levels are forgotten: both hold at some values that are lawful
-- for those keys, or neither does
pub record IsSwept (k : KeyedWorlds) (gone : ℕ → Bool) (old new : Diagram) (before after : List Bool) (f r : ℕ) : Type 0 where
  pub is_ref : IsRef new r
  pub fewer : FewerLeft before after
  pub stage : IsStage (keys_of k) gone before after (meaning old f) (meaning new r)

-- at the end: r is settled, and at most these levels are forgotten
pub record HasEnded (k : KeyedWorlds) (gone : ℕ → Bool) (old new : Diagram) (f r : ℕ) : Type 0 where
  pub is_ref : IsRef new r
  pub settled : settle.IsSettled (keys_of k) gone (meaning old f) (meaning new r)

-- nothing is left to do: r is false, or no key is left
abbrev pub IsOver : KeyedWorlds → Diagram → List Bool → ℕ → Type 0
IsOver k d left r = ((values : ℕ → Bool) → meaning d r values ≡ false) ⊎ ((i : ℕ) → i < length k.keyed → is_left left i ≡ false)

-- keys are struck off, which changes nothing for a function that depends on used levels alone
pub record AreStruck (k : KeyedWorlds) (used before after : List Bool) : Type 0 where
  pub fewer : FewerLeft before after
  pub stage : (function : (ℕ → Bool) → Bool) → ((level : ℕ) → slice_index_or used level false ≡ false → Ignores function level)
      → IsStage (keys_of k) no_levels before after function function
