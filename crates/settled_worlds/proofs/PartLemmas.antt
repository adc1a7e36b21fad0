-- The levels of a cell are levels of its part: no key's, and of no matter to comparisons that do not name the cell.
use Rattle.std.proofs.Common.{◌≡◌, ℕ, suc, ◌+◌, ◌<◌, ◌==◌, ◌⊎◌, inl, inr, Bool, true, false, not, ◌||◌, if◌then◌else◌, List, [], ◌∷◌, ◌++◌, length, map, refl, sym, ap, subst, ◌∙◌, true≢false, arith, Option, None, Some, slice_get, option_to_list}
use Rattle.std.proofs.lemmas.Bool.{eq-eqb}
use Rattle.std.proofs.lemmas.Bool.Decides.{eqb_tells}
use Rattle.rsml_meaning.specs.Cells.{cells}
use Rattle.spelled_numbers.specs.declared.weighted.Weighted.{Weighted}
use Rattle.spelled_numbers.specs.declared.slot.Slot.{Slot}
use Rattle.spelled_numbers.specs.declared.slot.Slot.TheVariants.{Part, Free}
use Rattle.spelled_numbers.specs.Spelling.{IsLevelOf}
use Rattle.spelled_numbers.specs.Bits.{bits_of}
use Rattle.bdd_core.specs.Calls.{with_value}
use Rattle.world_levels.specs.Spelling.{cell_part}
use Rattle.world_levels.proofs.Changes.{cell_spells_itself}
use Rattle.free_levels.specs.Values.{is_in}
use Rattle.free_levels.proofs.StageLemmas.{never_true}
use Rattle.keyed_levels.specs.Keyed.{AreKeyed, KeyedWorlds, key_at, phrases_of, world_at}
use Rattle.settled_worlds.specs.Settled.{cell_levels}
use Rattle.settled_worlds.specs.Steps.{all_but, compares, is_kept, IsUnread}
use Rattle.settled_worlds.proofs.ReadLemmas.{same_comparison}

-- one of the two is true
either : (p q : Bool) → (p || q) ≡ true → (p ≡ true) ⊎ (q ≡ true)
either true q e = inl refl
either false q e = inr e

abbrev level_list : List Weighted → List ℕ
level_list ts = map (λ t. t.level) ts

abbrev one_bit : Bool → ℕ → ℕ → List Weighted
one_bit b w k = option_to_list (if b then Some (record { minus = false; level = k; weight = w }) else None)

-- the slot of a part's level, where the first is that of level k
record Stands (p : ℕ) (slots : List Slot) (k level : ℕ) : Type 0 where
  place : ℕ
  weight : ℕ
  is : level ≡ k + place
  there : slice_get slots place ≡ Some (Part p weight)

later : (p : ℕ) (s : Slot) (ss : List Slot) (k level : ℕ) → Stands p ss (k + 1) level → Stands p (s ∷ ss) k level
later p s ss k level h = record { place = suc h.place; weight = h.weight; is = omega (arith, h.is); there = h.there }

stands : (p : ℕ) (slots : List Slot) (k level : ℕ) → is_in (level_list (bits_of p false slots k)) level ≡ true → Stands p slots k level
stands p [] k level e = absurd (true≢false (sym e))
stands p (Free ∷ ss) k level e = later p Free ss k level (stands p ss (k + 1) level e)
stands p (Part q w ∷ ss) k level e = by (q == p) refl (stands p ss (k + 1) level) e
  where
    by : (b : Bool) → (q == p) ≡ b → (is_in (level_list (bits_of p false ss (k + 1))) level ≡ true → Stands p ss (k + 1) level)
        → is_in (level_list (one_bit b w k ++ bits_of p false ss (k + 1))) level ≡ true → Stands p (Part q w ∷ ss) k level
    by false not rest there = later p (Part q w) ss k level (rest there)
    by true same rest there = elim (either (level == k) (is_in (level_list (bits_of p false ss (k + 1))) level) there) [
      | inl h ↦ record {
        place = 0;
        weight = w;
        is = elim (eqb_tells level k) [
          | inl t ↦ omega (arith, t.1)
          | inr t ↦ absurd (true≢false (sym h ∙ t.0))
        ];
        there = elim (eqb_tells q p) [
          | inl t ↦ ap (λ x. Some (Part x w)) t.1
          | inr t ↦ absurd (true≢false (sym same ∙ t.0))
        ];
      }
      | inr h ↦ later p (Part q w) ss k level (rest h)
    ]

level_of : (k : KeyedWorlds) (cell level : ℕ) → is_in (cell_levels k cell) level ≡ true → IsLevelOf (cell_part k.base.spec cell) k.slots level
level_of k cell level e =
    let h = stands (cell_part k.base.spec cell) k.slots 0 level e in
    let same : h.place ≡ level = omega (arith, h.is) in
    (h.weight, subst (λ j. slice_get k.slots j ≡ Some (Part (cell_part k.base.spec cell) h.weight)) same h.there)

abbrev free_there : Option Slot → Bool
free_there None = false
free_there (Some Free) = true
free_there (Some (Part p w)) = false

-- no key's level is a cell's
pub apart : (k : KeyedWorlds) (cell i : ℕ) → AreKeyed k → i < length k.keyed → is_in (cell_levels k cell) (key_at k.keyed i).level ≡ false
apart k cell i are less = never_true (is_in (cell_levels k cell) (key_at k.keyed i).level) (λ e.
    true≢false (ap free_there (sym (are.free i less) ∙ (level_of k cell (key_at k.keyed i).level e).1)))

-- a key that does not name the cell
pub unread : (k : KeyedWorlds) (cell i : ℕ) → cell < length (cells k.base.spec) → compares cell (slice_get (phrases_of k) (key_at k.keyed i).phrase) ≡ false → IsUnread k cell i
unread k cell i less not = λ level there values value.
    let differ = cell_spells_itself k.base.spec k.slots values cell level value less (level_of k cell level there) in
    same_comparison cell (world_at k (with_value values level value)) (world_at k values) (slice_get (phrases_of k) (key_at k.keyed i).phrase) differ.cells not

abbrev part_at : Option Slot → ℕ
part_at None = 0
part_at (Some Free) = 0
part_at (Some (Part p w)) = p

-- a level of a cell is none of another
other_level : (k : KeyedWorlds) (cell other level : ℕ) → (other == cell) ≡ false → is_in (cell_levels k cell) level ≡ true → is_in (cell_levels k other) level ≡ false
other_level k cell other level differ e = never_true (is_in (cell_levels k other) level) (λ f.
    let same : cell_part k.base.spec other ≡ cell_part k.base.spec cell = sym (ap part_at (level_of k other level f).1) ∙ ap part_at (level_of k cell level e).1 in
    let one : other ≡ cell = omega (arith, same) in
    true≢false (sym (eq-eqb other cell one) ∙ differ))

-- the levels of a cell that is not kept may be forgotten
pub gone : (k : KeyedWorlds) (kept : Option ℕ) (cell level : ℕ) → is_kept kept cell ≡ false → is_in (cell_levels k cell) level ≡ true → all_but k kept level ≡ true
gone k None cell level differ e = refl
gone k (Some other) cell level differ e = ap not (other_level k cell other level differ e)
