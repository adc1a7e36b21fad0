-- The columns of a set of worlds: least world first, each as wide as it can be.
use Rattle.std.specs.Prelude.{◌≡◌, ℕ, zero, suc, Bool, true, false, ◌&&◌, not, List, [], ◌∷◌, ◌++◌, length, take, drop, Option, Some, None, slice_get, ℤ, int_le, IsTrue}
use Rattle.rsml_syntax.specs.declared.syntax.Spec.{Spec}
use Rattle.rsml_syntax.specs.declared.world.World.{World}
use Rattle.rsml_syntax.specs.text.Names.{Name}
use Rattle.rsml_meaning.specs.Cells.{InputCell, InputType, cells, is_of}
use Rattle.rsml_meaning.specs.Findings.{IsLeast}
use Rattle.rsml_meaning.specs.Worlds.{IsWorld}
use Rattle.world_columns.specs.declared.column.Span.{Span}
use Rattle.world_columns.specs.declared.column.Column.{Column}
use Rattle.world_columns.specs.Columns.{LiesIn, in_span, lies_in, all_of, span, only, alone}

-- a column as far as the component at a place, which has this child, and from there on the world alone
abbrev pub with_child : Column → World → ℕ → Option ℕ → Column
with_child c w k child = record { children = take k c.children ++ child ∷ drop (suc k) (alone w).children; spans = (alone w).spans }

-- a column as far as the cell at a place, which has this span, and from there on the world alone
abbrev pub with_span : Column → World → ℕ → Span → Column
with_span c w k numbers = record { children = c.children; spans = take k c.spans ++ numbers ∷ drop (suc k) (alone w).spans }

-- The child of a component: any where the column then lies in the set, else the world's.
pub data IsWidestChild (Lies : Option ℕ → Type 0) (own : ℕ) : Option ℕ → Type 0 where
  any : Lies None → IsWidestChild Lies own None
  one : (Lies None → ⊥) → IsWidestChild Lies own (Some own)

-- The span of an enumeration: all of its numbers where the column then lies in the set, else the world's alone.
pub data IsWholeOrOne (Lies : Span → Type 0) (t : InputType) (own : ℤ) : Span → Type 0 where
  whole : Lies (all_of t) → IsWholeOrOne Lies t own (all_of t)
  one : (Lies (all_of t) → ⊥) → IsWholeOrOne Lies t own (only own)

-- The span of a range: from the world's number up as far as the column lies in the set, and then down as far as it does.
pub record IsWidestSpan (Lies : Span → Type 0) (t : InputType) (own : ℤ) (x : Span) : Type 0 where
  pub around : IsTrue (in_span x own)
  pub of_type : IsTrue (is_of t x.low) × IsTrue (is_of t x.high)
  pub lies : Lies x
  pub highest : (high : ℤ) → IsTrue (int_le own high) → IsTrue (int_le high t.high) → Lies (span own high) → IsTrue (int_le high x.high)
  pub lowest : (low : ℤ) → IsTrue (int_le t.low low) → IsTrue (int_le low own) → Lies (span low x.high) → IsTrue (int_le x.low low)

-- the span of a cell: a type with names is an enumeration, and one without is a range
abbrev pub IsSpanOf : List Name → (Span → Type 0) → InputType → ℤ → Span → Type 0
IsSpanOf [] Lies t own x = IsWidestSpan Lies t own x
IsSpanOf (name ∷ names) Lies t own x = IsWholeOrOne Lies t own x

-- The column of a set from one of its worlds. Each part in turn, first the components and then the cells, is as wide as it can be
-- while those after it are the world's alone.
pub record IsColumn (s : Spec) (set : World → Bool) (w : World) (c : Column) : Type 0 where
  pub children : length c.children ≡ length w.choices
  pub spans : length c.spans ≡ length w.cells
  pub child : (k own : ℕ) (x : Option ℕ) → slice_get w.choices k ≡ Some own → slice_get c.children k ≡ Some x
      → IsWidestChild (λ child. LiesIn s set (with_child c w k child)) own x
  pub numbers : (k : ℕ) (own : ℤ) (i : InputCell) (x : Span) → slice_get (cells s) k ≡ Some i → slice_get w.cells k ≡ Some own
      → slice_get c.spans k ≡ Some x → IsSpanOf i.numbers.names (λ y. LiesIn s set (with_span c w k y)) i.numbers own x

-- Whether worlds are left: more is told exactly where as many columns as are asked for stand, and a world of the set is in none.
pub data EndsWith (s : Spec) (set : World → Bool) (most : ℕ) : Bool → Type 0 where
  none_left : ((w : World) → IsWorld s w → IsTrue (set w) → ⊥) → EndsWith s set most false
  some_left : most ≡ 0 → (w : World) → IsWorld s w → IsTrue (set w) → EndsWith s set most true

-- the columns of a set, at most so many: that of its least world, then those of the worlds that are left; and whether a world is in none
abbrev pub AreGaps : Spec → (World → Bool) → ℕ → List Column → Bool → Type 0
AreGaps s set most [] more = EndsWith s set most more
AreGaps s set zero (c ∷ cs) more = ⊥
AreGaps s set (suc most) (c ∷ cs) more =
    (w : World) × IsLeast (λ v. IsWorld s v × IsTrue (set v)) w × IsColumn s set w c × AreGaps s (λ v. set v && not (lies_in c v)) most cs more
