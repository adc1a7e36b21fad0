-- The laws of levels that spell worlds.
use Rattle.std.specs.Prelude.{◌≡◌, ◌≢◌, ℕ, ◌<◌, Bool, List, Some, slice_get, length}
use Rattle.rsml_syntax.specs.declared.syntax.Spec.{Spec}
use Rattle.rsml_syntax.specs.declared.world.World.{World}
use Rattle.rsml_meaning.specs.Worlds.{IsWorld}
use Rattle.rsml_meaning.specs.Cells.{cells}
use Rattle.bdd_core.specs.Calls.{with_value}
use Rattle.spelled_numbers.specs.declared.slot.Slot.{Slot}
use Rattle.spelled_numbers.specs.declared.slot.Slot.TheVariants.{Free}
use Rattle.spelled_numbers.specs.Spelling.{IsLevelOf}
use Rattle.world_levels.specs.Spelling.{IsLayout, cell_part, world_of, spelled_world}

-- all values of the levels spell a world
abbrev pub AllSpellAWorld : Type 0
AllSpellAWorld = (s : Spec) (slots : List Slot) → IsLayout s slots → (values : ℕ → Bool) → IsWorld s (world_of s slots values)

-- each world is spelled, whatever values the free levels have
abbrev pub EachWorldIsSpelled : Type 0
EachWorldIsSpelled = (s : Spec) (slots : List Slot) → IsLayout s slots → (w : World) → IsWorld s w → (free : ℕ → Bool)
    → world_of s slots (spelled_world s slots w free) ≡ w

-- a free level keeps the value that it was given
abbrev pub FreeLevelsStay : Type 0
FreeLevelsStay = (s : Spec) (slots : List Slot) (w : World) (free : ℕ → Bool) (level : ℕ) → slice_get slots level ≡ Some Free
    → spelled_world s slots w free level ≡ free level

-- a free level spells nothing
abbrev pub FreeLevelsSpellNothing : Type 0
FreeLevelsSpellNothing = (s : Spec) (slots : List Slot) (values : ℕ → Bool) (level : ℕ) (value : Bool) → slice_get slots level ≡ Some Free
    → world_of s slots (with_value values level value) ≡ world_of s slots values

-- a level of a cell spells nothing else: all components and the other cells stay
pub record DifferInCell (s : Spec) (cell : ℕ) (v w : World) : Type 0 where
  pub choices : v.choices ≡ w.choices
  pub cells : (k : ℕ) → k ≢ cell → slice_get v.cells k ≡ slice_get w.cells k

abbrev pub CellLevelsSpellTheirCell : Type 0
CellLevelsSpellTheirCell = (s : Spec) (slots : List Slot) (values : ℕ → Bool) (cell level : ℕ) (value : Bool) → cell < length (cells s)
    → IsLevelOf (cell_part s cell) slots level
    → DifferInCell s cell (world_of s slots (with_value values level value)) (world_of s slots values)
