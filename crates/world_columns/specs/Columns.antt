-- Columns of worlds: a child or any for each component, and a span of numbers for each cell.
use Rattle.std.specs.Prelude.{◌==◌, ℕ, suc, Bool, true, ◌&&◌, List, [], ◌∷◌, slice_index_or, map, Option, Some, None, ℤ, int_le, IsTrue}
use Rattle.std.specs.Cmp.Lexicographic.{pointwise}
use Rattle.rsml_syntax.specs.declared.syntax.Spec.{Spec}
use Rattle.rsml_syntax.specs.declared.world.World.{World}
use Rattle.rsml_meaning.specs.Cells.{InputType}
use Rattle.rsml_meaning.specs.Worlds.{IsWorld}
use Rattle.world_columns.specs.declared.column.Span.{Span}
use Rattle.world_columns.specs.declared.column.Column.{Column}

-- the number lies in the span
abbrev pub in_span : Span → ℤ → Bool
in_span x n = int_le x.low n && int_le n x.high

-- the child at this place is the one that is asked for, or any may be
abbrev pub is_allowed : Option ℕ → ℕ → Bool
is_allowed None place = true
is_allowed (Some asked) place = place == asked

-- the world lies in the column: each component has an allowed child, and each cell a number of its span
abbrev pub lies_in : Column → World → Bool
lies_in c w = pointwise is_allowed c.children w.choices && pointwise in_span c.spans w.cells

-- the column lies in a set of worlds: all worlds that lie in it are in the set
abbrev pub LiesIn : Spec → (World → Bool) → Column → Type 0
LiesIn s set c = (w : World) → IsWorld s w → IsTrue (lies_in c w) → IsTrue (set w)

-- the span from one number to another
abbrev pub span : ℤ → ℤ → Span
span low high = record { low = low; high = high }

-- the span of one number
abbrev pub only : ℤ → Span
only n = span n n

-- all numbers of a type
abbrev pub all_of : InputType → Span
all_of t = span t.low t.high

-- the column of one world alone
abbrev pub alone : World → Column
alone w = record { children = map Some w.choices; spans = map only w.cells }

-- the values from a place on pass with the items of a list, one after another; a value that is missing is this one
abbrev pub passes_from : {A B : Type 0} → (A → B → Bool) → B → ℕ → List A → List B → Bool
passes_from passes missing k [] values = true
passes_from passes missing k (x ∷ xs) values = passes_from passes missing (suc k) xs values && passes x (slice_index_or values k missing)
