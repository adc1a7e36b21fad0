-- The greatest numbers of parts.
use Rattle.std.specs.Prelude.{◌≡◌, ℕ, suc, ◌<◌, ◌≤◌, List, length, Some, slice_get, slice_index_or, pos, ◌+ℤ◌}
use Rattle.rsml_syntax.specs.declared.syntax.Spec.{Spec}
use Rattle.rsml_meaning.specs.Instances.{Component, components}
use Rattle.rsml_meaning.specs.Cells.{InputCell, cells}
use Rattle.rsml_ground.specs.Rests.{IsSmall}
use Rattle.world_levels.specs.Spelling.{cell_part}

-- the greatest number of a component's part is the place of the last child
pub record IsComponentSpan (s : Spec) (component span : ℕ) : Type 0 where
  pub last : (c : Component) → slice_get (components s) component ≡ Some c → suc span ≡ length c.children
  pub small : span ≤ 2000000000

-- that of a cell's part leads from the least to the greatest number
pub record IsCellSpan (s : Spec) (cell span : ℕ) : Type 0 where
  pub leads : (c : InputCell) → slice_get (cells s) cell ≡ Some c → c.numbers.low +ℤ pos span ≡ c.numbers.high
  pub low : (c : InputCell) → slice_get (cells s) cell ≡ Some c → IsSmall c.numbers.low
  pub small : span ≤ 2000000000

-- the greatest number of a part
pub record IsSpan (s : Spec) (part span : ℕ) : Type 0 where
  pub last : (c : Component) → slice_get (components s) part ≡ Some c → suc span ≡ length c.children
  pub leads : (cell : ℕ) (c : InputCell) → part ≡ cell_part s cell → slice_get (cells s) cell ≡ Some c → c.numbers.low +ℤ pos span ≡ c.numbers.high
  pub low : (cell : ℕ) (c : InputCell) → part ≡ cell_part s cell → slice_get (cells s) cell ≡ Some c → IsSmall c.numbers.low
  pub small : span ≤ 2000000000

-- those of so many parts
pub record AreSpans (s : Spec) (parts : ℕ) (spans : List ℕ) : Type 0 where
  pub many : length spans ≡ parts
  pub each : (p : ℕ) → p < parts → IsSpan s p (slice_index_or spans p 0)
