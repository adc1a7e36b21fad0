-- How values of levels spell worlds. Each component and each cell is a part, and the components come first. The number of a
-- component's part is the place of its child; that of a cell's part is how far the cell's number is above its least.
use Rattle.std.specs.Prelude.{◌≡◌, ℕ, suc, ◌+◌, ◌-◌, ◌<◌, ◌≤◌, ◌^◌, Bool, List, [], ◌∷◌, length, if◌then◌else◌, nat_lt, Option, Some, None, slice_get, slice_index_or, zip, ℤ, pos, neg_ℤ, ◌+ℤ◌, unsigned_abs}
use Rattle.rsml_syntax.specs.declared.syntax.Spec.{Spec}
use Rattle.rsml_syntax.specs.declared.world.World.{World}
use Rattle.rsml_meaning.specs.Instances.{Component, components}
use Rattle.rsml_meaning.specs.Cells.{InputCell, cells}
use Rattle.rsml_ground.specs.Rests.{IsSmall}
use Rattle.spelled_numbers.specs.declared.slot.Slot.{Slot}
use Rattle.spelled_numbers.specs.declared.slot.Slot.TheVariants.{Part, Free}
use Rattle.spelled_numbers.specs.Spelling.{Covers, number, total, spelled}

-- the part of a cell
abbrev pub cell_part : Spec → ℕ → ℕ
cell_part s cell = length (components s) + cell

-- the children that are spelled for components, the first of which is this part
abbrev pub choices_from : List Slot → (ℕ → Bool) → ℕ → List Component → List ℕ
choices_from slots values p [] = []
choices_from slots values p (c ∷ cs) = number p slots values 0 ∷ choices_from slots values (suc p) cs

-- the numbers that are spelled for cells, the first of which is this part
abbrev pub numbers_from : List Slot → (ℕ → Bool) → ℕ → List InputCell → List ℤ
numbers_from slots values p [] = []
numbers_from slots values p (c ∷ cs) = (c.numbers.low +ℤ pos (number p slots values 0)) ∷ numbers_from slots values (suc p) cs

-- the world that these values of the levels spell
abbrev pub world_of : Spec → List Slot → (ℕ → Bool) → World
world_of s slots values = record {
  choices = choices_from slots values 0 (components s);
  cells = numbers_from slots values (length (components s)) (cells s);
}

-- how far a cell's number is above its least
abbrev pub above_least : Option (InputCell × ℤ) → ℕ
above_least None = 0
above_least (Some c) = unsigned_abs (c.1 +ℤ neg_ℤ c.0.numbers.low)

-- the number of each part in a world
abbrev pub part_number : Spec → World → ℕ → ℕ
part_number s w p = if nat_lt p (length (components s)) then slice_index_or w.choices p 0
    else above_least (slice_get (zip (cells s) w.cells) (p - length (components s)))

-- values of the levels that spell the world, the free levels as they are
abbrev pub spelled_world : Spec → List Slot → World → (ℕ → Bool) → ℕ → Bool
spelled_world s slots w free = spelled slots (part_number s w) free

-- The levels of a specification: the weights of each part cover, and sum to its greatest number. The least number of each cell is
-- one that can be written, and each part has a number.
pub record IsLayout (s : Spec) (slots : List Slot) : Type 0 where
  pub covers : Covers slots
  pub components_fit : (k : ℕ) (c : Component) → slice_get (components s) k ≡ Some c → suc (total k slots) ≡ length c.children
  pub cells_fit : (k : ℕ) (c : InputCell) → slice_get (cells s) k ≡ Some c
      → c.numbers.low +ℤ pos (total (cell_part s k) slots) ≡ c.numbers.high
  pub small : (p : ℕ) → total p slots ≤ 2000000000
  pub few : length slots ≤ 2 ^ 31
  pub lows : (k : ℕ) (c : InputCell) → slice_get (cells s) k ≡ Some c → IsSmall c.numbers.low
  pub parts : length (components s) + length (cells s) < 2 ^ 32

-- the free levels, where the first slot is that of level k
abbrev pub free_from : List Slot → ℕ → List ℕ
free_from [] k = []
free_from (Free ∷ ss) k = k ∷ free_from ss (suc k)
free_from (Part p w ∷ ss) k = free_from ss (suc k)

-- a specification and the slots of its levels
pub record WorldLevels : Type 0 where
  pub spec : Spec
  pub slots : List Slot
