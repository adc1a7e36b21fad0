-- Columns made wider, part by part.
use Rattle.std.specs.Prelude.{◌≡◌, ◌↔◌, ℕ, suc, ◌-◌, ◌≤◌, ◌<◌, Bool, true, false, ◌&&◌, not, List, [], ◌∷◌, ◌++◌, length, Option, Some, None, slice_get, slice_index_or, ℤ, int_le, pos, IsTrue}
use Rattle.rsml_syntax.specs.declared.syntax.Spec.{Spec}
use Rattle.rsml_syntax.specs.declared.world.World.{World}
use Rattle.rsml_meaning.specs.Cells.{InputCell, cells}
use Rattle.rsml_meaning.specs.Findings.{IsLeast}
use Rattle.rsml_meaning.specs.Groups.{Group, groups}
use Rattle.rsml_meaning.specs.Worlds.{IsWorld}
use Rattle.world_levels.specs.Laws.{DifferInCell}
use Rattle.guard_encode.specs.declared.reading.ReadParts.{ReadParts}
use Rattle.guard_encode.specs.Encoding.{Encoding, Finds, IsOfCell, Tells, TellsExactly}
use Rattle.guard_encode.specs.Reading.{DifferInChoice}
use Rattle.world_columns.specs.declared.column.Span.{Span}
use Rattle.world_columns.specs.declared.column.Column.{Column}
use Rattle.world_columns.specs.declared.column.Gaps.{Gaps}
use Rattle.world_columns.specs.declared.group.GroupGaps.{GroupGaps}
use Rattle.world_columns.specs.Columns.{LiesIn, all_of, in_span, is_allowed, lies_in, passes_from, span}
use Rattle.world_columns.specs.Gaps.{AreGaps, IsColumn, IsWidestChild, IsSpanOf, with_child, with_span}
use Rattle.world_columns.specs.GapsOf.{AreGroupGaps}

-- it is true of no world
abbrev pub IsNowhere : Spec → (World → Bool) → Type 0
IsNowhere s truth = (w : World) → IsWorld s w → truth w ≡ false

-- the place of the child of a component
abbrev pub child_at : ℕ → World → ℕ
child_at k w = slice_index_or w.choices k 0

-- the number of a cell
abbrev pub number_at : ℕ → World → ℤ
number_at k w = slice_index_or w.cells k (pos 0)

-- the world has the first parts that a column begins with
abbrev pub begins_with : Column → World → Bool
begins_with c v = passes_from is_allowed 0 0 c.children v.choices && passes_from in_span (pos 0) 0 c.spans v.cells

-- a column of children alone
abbrev pub children_alone : List (Option ℕ) → Column
children_alone children = record { children = children; spans = [] }

-- a column with one more child, and with one more span
abbrev pub and_child : Column → Option ℕ → Column
and_child c child = record c { children = c.children ++ child ∷ [] }

abbrev pub and_span : Column → Span → Column
and_span c numbers = record c { spans = c.spans ++ numbers ∷ [] }

-- The read components from one on and the read cells from one on are as in w.
pub record AreAs (read : ReadParts) (w : World) (component cell : ℕ) (v : World) : Type 0 where
  pub children : (k : ℕ) → component ≤ k → k < length w.choices → slice_index_or read.choices k true ≡ true → child_at k v ≡ child_at k w
  pub numbers : (k : ℕ) → cell ≤ k → k < length w.cells → slice_index_or read.cells k true ≡ true → number_at k v ≡ number_at k w

-- all worlds with the first parts of a column, whose later parts that are read are as in w, are in the set
abbrev pub NoneComes : Spec → ReadParts → (World → Bool) → World → Column → Type 0
NoneComes s read set w c = (v : World) → IsWorld s v → AreAs read w (length c.children) (length c.spans) v → IsTrue (begins_with c v) → IsTrue (set v)

-- The set does not depend on parts that are not read.
pub record IsOfParts (s : Spec) (read : ReadParts) (set : World → Bool) : Type 0 where
  pub choices : (k : ℕ) → slice_get read.choices k ≡ Some false → (v w : World) → IsWorld s v → IsWorld s w → DifferInChoice k v w → set v ≡ set w
  pub cells : (k : ℕ) → slice_get read.cells k ≡ Some false → (v w : World) → IsWorld s v → IsWorld s w → DifferInCell s k v w → set v ≡ set w

-- The column of a set from one of its worlds begins with these parts.
pub record IsBegun (s : Spec) (read : ReadParts) (set : World → Bool) (w : World) (c : Column) : Type 0 where
  pub none_comes : NoneComes s read set w c
  pub child : (k own : ℕ) (x : Option ℕ) → slice_get w.choices k ≡ Some own → slice_get c.children k ≡ Some x
      → IsWidestChild (λ y. LiesIn s set (with_child c w k y)) own x
  pub numbers : (k : ℕ) (own : ℤ) (i : InputCell) (x : Span) → slice_get (cells s) k ≡ Some i → slice_get w.cells k ≡ Some own
      → slice_get c.spans k ≡ Some x → IsSpanOf i.numbers.names (λ y. LiesIn s set (with_span c w k y)) i.numbers own x

-- What r tells is this in all worlds.
pub record TellsOf (e : Encoding) (truth : World → Bool) (r : ℕ) : Type 0 where
  pub told : World → Bool
  pub tells : Tells e told r
  pub same : (v : World) → IsWorld e.machine.base.spec v → told v ≡ truth v

-- r finds the worlds whose read parts from these on are as in w
pub record FindsLater (e : Encoding) (read : ReadParts) (w : World) (component cell r : ℕ) : Type 0 where
  pub later : World → Bool
  pub finds : Finds e later r
  pub exact : (v : World) → IsWorld e.machine.base.spec v → IsTrue (later v) ↔ AreAs read w component cell v

-- the column begins with these parts, and r tells which worlds have them
abbrev pub Begun : Encoding → ReadParts → (World → Bool) → World → Column → ℕ → Type 0
Begun e read set w c r = IsBegun e.machine.base.spec read set w c × TellsOf e (begins_with c) r

-- The greatest number, from the first to the last, for which this holds is between the two ends.
pub record IsHighestEnd (Holds : ℤ → Type 0) (first last from to : ℤ) : Type 0 where
  pub order : IsTrue (int_le first from) × IsTrue (int_le from to) × IsTrue (int_le to last)
  pub holds : Holds from
  pub most : (n : ℤ) → IsTrue (int_le first n) → IsTrue (int_le n last) → Holds n → IsTrue (int_le n to)

-- The least number, from the last down to the first, for which this holds is between the two ends.
pub record IsLowestEnd (Holds : ℤ → Type 0) (first last from to : ℤ) : Type 0 where
  pub order : IsTrue (int_le first from) × IsTrue (int_le from to) × IsTrue (int_le to last)
  pub holds : Holds to
  pub least : (n : ℤ) → IsTrue (int_le first n) → IsTrue (int_le n last) → Holds n → IsTrue (int_le from n)

-- Where others tells the worlds outside a set, after finds those with later parts as in w, and inside tells those with the children so
-- far of the column of the set, the column goes on with this child, and r tells the worlds that have it too.
abbrev pub ChildGoesOn : Encoding → Encoding → ReadParts → World → ℕ → ℕ → ℕ → ℕ → Option ℕ → ℕ → Type 0
ChildGoesOn old new read w component after others inside child r = (set : World → Bool) (children : List (Option ℕ)) → IsOfParts old.machine.base.spec read set
    → length children ≡ component → FindsLater old read w (suc component) 0 after → TellsOf old (λ v. not (set v)) others
    → Begun old read set w (children_alone children) inside → Begun new read set w (children_alone (children ++ child ∷ [])) r

-- the same of the next span
abbrev pub SpanGoesOn : Encoding → Encoding → ReadParts → World → ℕ → ℕ → ℕ → ℕ → Span → ℕ → Type 0
SpanGoesOn old new read w cell after others inside numbers r = (set : World → Bool) (children : List (Option ℕ)) (spans : List Span) → IsOfParts old.machine.base.spec read set
    → length children ≡ length w.choices → length spans ≡ cell → FindsLater old read w (length children) (suc cell) after → TellsOf old (λ v. not (set v)) others
    → Begun old read set w (record { children = children; spans = spans }) inside → Begun new read set w (record { children = children; spans = spans ++ numbers ∷ [] }) r

-- no world of a truth has a number of the span in a cell
abbrev pub NoneWithin : Spec → (World → Bool) → ℕ → Span → Type 0
NoneWithin s truth cell x = IsNowhere s (λ v. truth v && in_span x (number_at cell v))

-- the greatest number up to which no world that r tells of a cell has a number of it, if none has the first
abbrev pub HighestEnd : Encoding → ℕ → ℕ → ℤ → ℤ → ℤ → ℤ → Type 0
HighestEnd e cell r own high from to = (truth : World → Bool) → IsOfCell e cell truth r → NoneWithin e.machine.base.spec truth cell (span own own)
    → IsHighestEnd (λ n. NoneWithin e.machine.base.spec truth cell (span own n)) own high from to

-- the least number from which on, if no such world has one from the last on
abbrev pub LowestEnd : Encoding → ℕ → ℕ → ℤ → ℤ → ℤ → ℤ → ℤ → Type 0
LowestEnd e cell r low own high from to = (truth : World → Bool) → IsOfCell e cell truth r → NoneWithin e.machine.base.spec truth cell (span own high)
    → IsLowestEnd (λ n. NoneWithin e.machine.base.spec truth cell (span n high)) low own from to

-- the span has all numbers of a cell
abbrev pub HoldsWhole : Spec → ℕ → Span → Type 0
HoldsWhole s cell x = (c : InputCell) → slice_get (cells s) cell ≡ Some c → x ≡ all_of c.numbers

-- it is the span of a cell with which no world that bad finds has a number of it, if none has the world's
abbrev pub IsSpanAsked : Encoding → ℕ → ℤ → ℕ → Span → Type 0
IsSpanAsked e cell own bad x = (truth : World → Bool) → Finds e truth bad → NoneWithin e.machine.base.spec truth cell (span own own)
    → (c : InputCell) → slice_get (cells e.machine.base.spec) cell ≡ Some c
    → IsSpanOf c.numbers.names (NoneWithin e.machine.base.spec truth cell) c.numbers own x

-- the item at a place finds the worlds whose last so many cells are as in w, as far as they are read
abbrev pub AreLaterCells : Encoding → ReadParts → World → List ℕ → Type 0
AreLaterCells e read w later = (k r : ℕ) → slice_get later k ≡ Some r → FindsLater e read w (length w.choices) (length w.cells - k) r

-- the same of its last components, and all of its cells
abbrev pub AreLaterChildren : Encoding → ReadParts → World → List ℕ → Type 0
AreLaterChildren e read w later = (k r : ℕ) → slice_get later k ≡ Some r → FindsLater e read w (length w.choices - k) 0 r

-- where others tells the worlds outside a set, these are the children of its column from w, and r tells the worlds that have them
abbrev pub ChildrenFound : Encoding → Encoding → ReadParts → World → ℕ → List (Option ℕ) → ℕ → Type 0
ChildrenFound old new read w others children r = (set : World → Bool) → IsOfParts old.machine.base.spec read set → IsTrue (set w)
    → TellsOf old (λ v. not (set v)) others → Begun new read set w (children_alone children) r

-- where inside tells the worlds that have the children of the column, these are the spans so far, and r tells the worlds that have them too
abbrev pub SpansFound : Encoding → Encoding → ReadParts → World → ℕ → List (Option ℕ) → ℕ → List Span → ℕ → Type 0
SpansFound old new read w others children inside spans r = (set : World → Bool) → IsOfParts old.machine.base.spec read set
    → TellsOf old (λ v. not (set v)) others → Begun old read set w (children_alone children) inside → Begun new read set w (record { children = children; spans = spans }) r

-- where others tells the worlds outside a set, this is its column from w, and r tells the worlds that have its parts
abbrev pub ColumnFound : Encoding → Encoding → ReadParts → World → ℕ → Column → ℕ → Type 0
ColumnFound old new read w others c r = (set : World → Bool) → IsOfParts old.machine.base.spec read set → IsTrue (set w)
    → TellsOf old (λ v. not (set v)) others → IsColumn old.machine.base.spec set w c × TellsOf new (lies_in c) r

-- What r tells is this in all worlds, and r is false everywhere exactly where this is true of none.
pub record TellsAll (e : Encoding) (truth : World → Bool) (r : ℕ) : Type 0 where
  pub told : World → Bool
  pub tells : TellsExactly e told r
  pub same : (v : World) → IsWorld e.machine.base.spec v → told v ≡ truth v

-- the column of the least world of a set, and a function that tells the worlds that are left; none where there is no such world
abbrev pub IsNextColumn : Encoding → Encoding → (World → Bool) → Option (Column × ℕ) → Type 0
IsNextColumn old new set None = (w : World) → IsWorld old.machine.base.spec w → IsTrue (set w) → ⊥
IsNextColumn old new set (Some found) = ((w : World) × IsLeast (λ v. IsWorld old.machine.base.spec v × IsTrue (set v)) w × IsColumn old.machine.base.spec set w found.0)
    × TellsAll new (λ v. set v && not (lies_in found.0 v)) found.1

-- the columns of the worlds in which the group at a place fails
abbrev pub ColumnsAt : ℕ → ℕ → (Spec → Group → World → Bool) → Spec → Gaps → Type 0
ColumnsAt most group fails s x = (g : Group) → slice_get (groups s) group ≡ Some g → AreGaps s (fails s g) most x.columns x.more

-- what is told of the group at a place
abbrev pub ToldAt : ℕ → GroupGaps → ℕ → Spec → Type 0
ToldAt most x group s = (g : Group) → slice_get (groups s) group ≡ Some g → AreGroupGaps s most g x
