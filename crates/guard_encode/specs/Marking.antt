-- Parts marked as read. No public clause speaks of it.
use Rattle.std.specs.Prelude.{◌≡◌, ℕ, ◌+◌, ◌<◌, Bool, true, false, ◌&&◌, List, length, map, Some, slice_get, slice_index_or}
use Rattle.std.specs.List.{list_any}
use Rattle.rsml_meaning.specs.Instances.{components}
use Rattle.rsml_meaning.specs.Cells.{cells}
use Rattle.rsml_ground.specs.declared.sums.GroundTerm.{GroundTerm}
use Rattle.bdd_core.specs.Diagram.{Diagram, meaning}
use Rattle.spelled_numbers.specs.declared.weighted.Weighted.{Weighted}
use Rattle.spelled_numbers.specs.declared.slot.Slot.{Slot}
use Rattle.spelled_numbers.specs.Bits.{bits_of}
use Rattle.world_levels.specs.Spelling.{cell_part}
use Rattle.free_levels.specs.Values.{Ignores, IgnoresAll}
use Rattle.keyed_levels.specs.declared.keyed.Keyed.{Keyed}
use Rattle.keyed_levels.specs.Keyed.{KeyedWorlds, key_at, phrases_of}
use Rattle.settled_worlds.specs.Steps.{compares, is_cell}
use Rattle.guard_encode.specs.declared.reading.ReadParts.{ReadParts}

-- the levels of a part
abbrev pub part_levels : List Slot → ℕ → List ℕ
part_levels slots part = map (λ t. t.level) (bits_of part false slots 0)

-- Each part that is marked false has no level on which f depends, and where it is a cell, no comparison that names it has one.
pub record AreRead (d : Diagram) (k : KeyedWorlds) (f : ℕ) (read : ReadParts) : Type 0 where
  pub many_choices : length read.choices ≡ length (components k.base.spec)
  pub many_cells : length read.cells ≡ length (cells k.base.spec)
  pub of_choice : (component : ℕ) → slice_get read.choices component ≡ Some false → IgnoresAll (meaning d f) (part_levels k.slots component)
  pub of_cell : (cell : ℕ) → slice_get read.cells cell ≡ Some false
      → IgnoresAll (meaning d f) (part_levels k.slots (cell_part k.base.spec cell))
  pub of_key : (cell i : ℕ) → slice_get read.cells cell ≡ Some false → i < length k.keyed
      → compares cell (slice_get (phrases_of k) (key_at k.keyed i).phrase) ≡ true → Ignores (meaning d f) (key_at k.keyed i).level

-- whether the level of a term is used
abbrev pub is_used_at : List Bool → Weighted → Bool
is_used_at used t = slice_index_or used t.level false

-- so many marks, of the first part and those after it: one that is false has no used level
pub record AreOfPart (used : List Bool) (slots : List Slot) (first count : ℕ) (marks : List Bool) : Type 0 where
  pub many : length marks ≡ count
  pub unused : (place : ℕ) → slice_get marks place ≡ Some false → list_any (is_used_at used) (bits_of (first + place) false slots 0) ≡ false

-- more places are marked: all of these, as far as there are places
pub record Marks (these : ℕ → Bool) (old new : List Bool) : Type 0 where
  pub many : length new ≡ length old
  pub unmarked : (place : ℕ) → slice_get new place ≡ Some false → (slice_get old place ≡ Some false) × (these place ≡ false)

-- whether the operand of a term is the cell
abbrev pub is_cell_at : ℕ → GroundTerm → Bool
is_cell_at cell t = is_cell cell t.operand

-- whether a key has a used level, and its comparison names a cell
abbrev pub is_named : KeyedWorlds → List Bool → Keyed → ℕ → Bool
is_named k used x cell = slice_index_or used x.level false && compares cell (slice_get (phrases_of k) x.phrase)

-- whether some key does
abbrev pub is_compared : KeyedWorlds → List Bool → ℕ → Bool
is_compared k used cell = list_any (λ x. is_named k used x cell) k.keyed
