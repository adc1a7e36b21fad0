-- Worlds narrowed down, part by part, to those that have the least.
use Rattle.std.specs.Prelude.{◌≡◌, ℕ, ◌-◌, ◌<◌, ◌≤◌, Bool, true, false, ◌&&◌, IsTrue, ⊤, List, [], ◌∷◌, map, take, drop, if◌then◌else◌, Some, slice_get, slice_index_or, ℤ, int_le, pos}
use Rattle.std.specs.Ordering.{MatchOrdering}
use Rattle.std.specs.declared.cmp.Ordering.{Ordering}
use Rattle.rsml_syntax.specs.declared.syntax.Spec.{Spec}
use Rattle.rsml_syntax.specs.declared.world.World.{World}
use Rattle.rsml_meaning.specs.Instances.{Component, components}
use Rattle.rsml_meaning.specs.Cells.{InputCell, cells}
use Rattle.rsml_meaning.specs.Worlds.{IsWorld}
use Rattle.guard_encode.specs.declared.reading.ReadParts.{ReadParts}

-- it is true of none of these worlds
abbrev pub IsOfNone : (World → Type 0) → (World → Bool) → Type 0
IsOfNone Among truth = (w : World) → Among w → truth w ≡ false

-- Of the worlds of `truth` among these, those of `next` are those with this part, and no part of any comes before it.
pub record Narrows {A : Type 0} (Among : World → Type 0) (cmp : A → A → Ordering) (part : World → A) (least : A)
    (truth next : World → Bool) : Type 0 where
  pub some : IsOfNone Among next → ⊥
  pub kept : (w : World) → Among w → IsTrue (next w) → IsTrue (truth w) × (part w ≡ least)
  pub order : (w : World) → Among w → IsTrue (truth w) → MatchOrdering (cmp (part w) least) ⊥ (IsTrue (next w)) ⊤

-- Of the worlds of `truth`, some has a number up to the higher one, and none has a number below the lower one.
pub record Bounds (s : Spec) (number : World → ℤ) (low high : ℤ) (truth : World → Bool) : Type 0 where
  pub some : IsOfNone (IsWorld s) (λ w. truth w && int_le (number w) high) → ⊥
  pub above : (w : World) → IsWorld s w → IsTrue (truth w) → IsTrue (int_le low (number w))

-- the values of parts, but the least ones where they are not read
abbrev pub lowered : {A : Type 0} → List Bool → List A → List A → List A
lowered [] least values = values
lowered (r ∷ read) [] values = values
lowered (r ∷ read) (l ∷ least) [] = []
lowered (r ∷ read) (l ∷ least) (x ∷ values) = (if r then x else l) ∷ lowered read least values

-- a world, but with the first child of each component and the least number of each cell that is not read
abbrev pub low_of : Spec → ReadParts → World → World
low_of s read w = record {
  choices = lowered read.choices (map (λ c. 0) (components s)) w.choices;
  cells = lowered read.cells (map (λ c. c.numbers.low) (cells s)) w.cells;
}

-- a world in which each component that is not read has its first child, and each cell that is not its least number
pub record IsLow (s : Spec) (read : ReadParts) (w : World) : Type 0 where
  pub is_world : IsWorld s w
  pub first : (k : ℕ) (c : Component) → slice_get read.choices k ≡ Some false → slice_get (components s) k ≡ Some c
      → slice_index_or w.choices k 0 ≡ 0
  pub least : (k : ℕ) (c : InputCell) → slice_get read.cells k ≡ Some false → slice_get (cells s) k ≡ Some c
      → slice_index_or w.cells k (pos 0) ≡ c.numbers.low

-- it does not depend on the parts that are not read
abbrev pub IsOfRead : Spec → ReadParts → (World → Bool) → Type 0
IsOfRead s read truth = (w : World) → IsWorld s w → truth (low_of s read w) ≡ truth w

-- the cells from a place to another that are read have their least numbers
abbrev pub AreLeast : Spec → ReadParts → ℕ → ℕ → World → Type 0
AreLeast s read from to w = (k : ℕ) (c : InputCell) → from ≤ k → k < to → slice_get (cells s) k ≡ Some c
    → slice_index_or read.cells k true ≡ true → slice_index_or w.cells k (pos 0) ≡ c.numbers.low

-- the least numbers that the cells from a place to another may hold
abbrev pub lows : Spec → ℕ → ℕ → List ℤ
lows s from to = map (λ c. c.numbers.low) (take (to - from) (drop from (cells s)))
