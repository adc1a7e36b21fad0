-- Columns that fit a specification: what is asked of those that are written.
use Rattle.std.specs.Prelude.{◌≡◌, ℕ, List, length, Option, Some, None, slice_get, ⊤}
use Rattle.rsml_syntax.specs.declared.syntax.Spec.{Spec}
use Rattle.rsml_meaning.specs.Instances.{components}
use Rattle.rsml_meaning.specs.Cells.{cells}
use Rattle.rsml_meaning.specs.Groups.{groups}
use Rattle.state_tree.specs.Numbers.{HasChild}
use Rattle.world_columns.specs.declared.column.Column.{Column}
use Rattle.world_columns.specs.declared.group.GroupGaps.{GroupGaps}
use Rattle.world_columns.specs.declared.group.GroupGaps.TheVariants as told

-- the component of this number has this child, or it may have any
abbrev pub IsChildOf : Spec → ℕ → Option ℕ → Type 0
IsChildOf s component None = ⊤
IsChildOf s component (Some place) = HasChild s component place

-- A child for each component, or any.
pub record AreChildren (s : Spec) (children : List (Option ℕ)) : Type 0 where
  pub long : length children ≡ length (components s)
  pub each : (k : ℕ) (x : Option ℕ) → slice_get children k ≡ Some x → IsChildOf s k x

-- A child for each component, or any, and numbers for each cell.
pub record FitsColumn (s : Spec) (c : Column) : Type 0 where
  pub children : AreChildren s c.children
  pub spans : length c.spans ≡ length (cells s)

-- each of these columns fits
abbrev pub AreColumns : Spec → List Column → Type 0
AreColumns s cs = (k : ℕ) (c : Column) → slice_get cs k ≡ Some c → FitsColumn s c

-- what is told of a group has columns that fit
abbrev pub FitsGroup : Spec → GroupGaps → Type 0
FitsGroup s told.Sound = ⊤
FitsGroup s (told.Missing x) = AreColumns s x.columns
FitsGroup s (told.Double x) = AreColumns s x.columns

-- Something is told of each group, with columns that fit.
pub record AreOfGroups (s : Spec) (gs : List GroupGaps) : Type 0 where
  pub long : length gs ≡ length (groups s)
  pub each : (k : ℕ) (x : GroupGaps) → slice_get gs k ≡ Some x → FitsGroup s x
