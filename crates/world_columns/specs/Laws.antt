-- The laws of the columns of a set of worlds.
use Rattle.std.specs.Prelude.{◌≡◌, ◌↔◌, ◌<◌, ◌+◌, ◌++◌, ◌&&◌, ℕ, Bool, List, length, Some, slice_get, pos, IsTrue}
use Rattle.rsml_syntax.specs.declared.syntax.Spec.{Spec}
use Rattle.rsml_syntax.specs.declared.world.World.{World}
use Rattle.rsml_meaning.specs.Worlds.{IsWorld}
use Rattle.world_columns.specs.declared.column.Column.{Column}
use Rattle.world_columns.specs.Columns.{LiesIn, in_span, is_allowed, lies_in, passes_from}
use Rattle.world_columns.specs.Gaps.{AreGaps}

-- each of the columns holds worlds of the set alone
abbrev pub ColumnsLieInTheSet : Type 0
ColumnsLieInTheSet = (s : Spec) (set : World → Bool) (most : ℕ) (columns : List Column) (more : Bool) → AreGaps s set most columns more
    → (k : ℕ) (c : Column) → slice_get columns k ≡ Some c → LiesIn s set c

-- no two of them share a world
abbrev pub ColumnsAreDisjoint : Type 0
ColumnsAreDisjoint = (s : Spec) (set : World → Bool) (most : ℕ) (columns : List Column) (more : Bool) → AreGaps s set most columns more
    → (j k : ℕ) (c d : Column) → j < k → slice_get columns j ≡ Some c → slice_get columns k ≡ Some d
    → (w : World) → IsWorld s w → IsTrue (lies_in c w) → IsTrue (lies_in d w) → ⊥

-- A world of the set that lies in none of the columns.
pub record IsLeft (s : Spec) (set : World → Bool) (columns : List Column) (w : World) : Type 0 where
  pub is_world : IsWorld s w
  pub in_set : IsTrue (set w)
  pub in_none : (k : ℕ) (c : Column) → slice_get columns k ≡ Some c → IsTrue (lies_in c w) → ⊥

-- more is told exactly where a world of the set lies in none of them
abbrev pub MoreIsExact : Type 0
MoreIsExact = (s : Spec) (set : World → Bool) (most : ℕ) (columns : List Column) (more : Bool) → AreGaps s set most columns more
    → IsTrue more ↔ ((w : World) × IsLeft s set columns w)

-- a set has one list of columns of at most so many, and more is told or not
abbrev pub GapsAreOne : Type 0
GapsAreOne = (s : Spec) (set : World → Bool) (most : ℕ) (one other : List Column) (more told : Bool)
    → AreGaps s set most one more → AreGaps s set most other told → (one ≡ other) × (more ≡ told)

-- a world lies in a column where its children and its numbers pass one after another
abbrev pub LyingIsPassing : Type 0
LyingIsPassing = (c : Column) (w : World) → length c.children ≡ length w.choices → length c.spans ≡ length w.cells
    → lies_in c w ≡ (passes_from is_allowed 0 0 c.children w.choices && passes_from in_span (pos 0) 0 c.spans w.cells)

-- of two lists one after the other, all pass where those of each do
abbrev pub PassesInTwo : {A B : Type 0} → (A → B → Bool) → B → Type 0
PassesInTwo {A} {B} passes missing = (k : ℕ) (xs ys : List A) (values : List B)
    → passes_from passes missing k (xs ++ ys) values ≡ (passes_from passes missing k xs values && passes_from passes missing (k + length xs) ys values)

-- so do children, and so do spans
abbrev pub PassingOneAfterAnother : Type 0
PassingOneAfterAnother = PassesInTwo is_allowed 0 × PassesInTwo in_span (pos 0)
