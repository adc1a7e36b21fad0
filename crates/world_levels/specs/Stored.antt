-- What is kept of the levels of a specification.
use Rattle.std.specs.Prelude.{◌≡◌, ℕ, ◌+◌, ◌<◌, Bool, true, false, List, [], ◌++◌, length, option_to_list, slice_index_or}
use Rattle.spelled_numbers.specs.declared.weighted.Weighted.{Weighted}
use Rattle.rsml_syntax.specs.declared.syntax.Spec.{Spec}
use Rattle.rsml_meaning.specs.Instances.{components}
use Rattle.rsml_meaning.specs.Cells.{cells}
use Rattle.spelled_numbers.specs.declared.slot.Slot.{Slot}
use Rattle.spelled_numbers.specs.declared.slot.Slot.TheVariants.{Part, Free}
use Rattle.spelled_numbers.specs.Bits.{bit_of, bits_of}
use Rattle.world_levels.specs.Spelling.{IsLayout, free_from}

-- the slot is for no part
abbrev pub is_free : Slot → Bool
is_free (Part p w) = false
is_free Free = true

-- the list of each part has one level more, where the slot of that level is the part's
pub record AddsBit (slot : Slot) (level : ℕ) (old new : List (List Weighted)) : Type 0 where
  pub many : length new ≡ length old
  pub each : (p : ℕ) → p < length old → slice_index_or new p [] ≡ slice_index_or old p [] ++ option_to_list (bit_of p false slot level)

-- a list for each part, of its levels with their weights
pub record AreBits (parts : ℕ) (slots : List Slot) (bits : List (List Weighted)) : Type 0 where
  pub many : length bits ≡ parts
  pub each : (p : ℕ) → p < parts → slice_index_or bits p [] ≡ bits_of p false slots 0

-- The slots are levels of the specification, and these are the number of parts, the free levels and the levels of each part.
pub record IsStored (s : Spec) (parts : ℕ) (slots : List Slot) (free : List ℕ) (bits : List (List Weighted)) : Type 0 where
  pub layout : IsLayout s slots
  pub parts_are : parts ≡ length (components s) + length (cells s)
  pub free_are : free ≡ free_from slots 0
  pub bits_are : AreBits parts slots bits
