-- Ranges in which the numbers of cells are.
use Rattle.std.proofs.Common.{◌≡◌, ℕ, zero, suc, ◌<◌, true, false, ◌&&◌, List, [], ◌∷◌, ◌++◌, length, get_or, refl, sym, ap, subst, ◌∙◌, true≢false, inl, inr, arith, Some, slice_get, slice_index_or, ℤ, pos, neg_ℤ, ◌+ℤ◌, ◌≤ℤ◌, int_le}
use Rattle.std.specs.Cmp.{first_so, second_so}
use Rattle.std.specs.Cmp.Lexicographic.{pointwise}
use Rattle.std.proofs.lemmas.Bool.{cases_eq}
use Rattle.std.proofs.lemmas.Int.{ints}
use Rattle.std.proofs.lemmas.List.{get_or_append_left, length-append}
use Rattle.std.proofs.lemmas.Option.{get_or_from_slice_get, same_Some, slice_get_read, slice_get_within}
use Rattle.std.proofs.Math.Seq.{get_or-append_seam}
use Rattle.linear_conflicts.specs.declared.range.Range.{Range}
use Rattle.rsml_meaning.specs.Cells.{InputCell, cells, is_of}
use Rattle.rsml_meaning.specs.Worlds.{is_choice}
use Rattle.rsml_meaning.specs.Instances.{components}
use Rattle.spelled_numbers.specs.Spelling.{total}
use Rattle.spelled_numbers.specs.Sums.{total_weight}
use Rattle.spelled_numbers.specs.Bits.{bits_of}
use Rattle.spelled_numbers.proofs.BitLemmas.{totals}
use Rattle.rsml_ground.specs.Rests.{IsSmall}
use Rattle.world_levels.specs.Spelling.{cell_part}
use Rattle.phrase_diagrams.specs.Signs.{IsWithin}
use Rattle.phrase_diagrams.proofs.WorldLemmas.{item_at}
use Rattle.keyed_levels.specs.Keyed.{KeyedWorlds, AreKeyed, world_at}
use Rattle.keyed_levels.specs.Laws.{LawfulValuesSpellWorlds}
use Rattle.settled_worlds.specs.Conflicts.{numbers_at, HoldWorlds, IsRangeOf}

at_most : (a b : ℤ) → int_le a b ≡ true → a ≤ℤ b
at_most a b h = grind (arith, ints)

-- a small number
pub within : (n : ℤ) → IsSmall n → IsWithin 1000000000 n
within n small = record {
  least = at_most (neg_ℤ (pos 1000000000)) n (first_so (int_le (neg_ℤ (pos 1000000000)) n) (int_le n (pos 1000000000)) small);
  most = at_most n (pos 1000000000) (second_so (int_le (neg_ℤ (pos 1000000000)) n) (int_le n (pos 1000000000)) small);
}

-- the number of a cell is of its type
is_of_type : (cs : List InputCell) (ns : List ℤ) (i : ℕ) (c : InputCell) → pointwise (λ c n. is_of c.numbers n) cs ns ≡ true → slice_get cs i ≡ Some c
    → is_of c.numbers (slice_index_or ns i (pos 0)) ≡ true
is_of_type [] ns i c are at = absurd (let no : ⊥ = cc in no)
is_of_type (x ∷ cs) [] i c are at = absurd (true≢false (sym are))
is_of_type (x ∷ cs) (n ∷ ns) zero c are at =
    subst (λ y. is_of y.numbers n ≡ true) (same_Some x c at) (first_so (is_of x.numbers n) (pointwise (λ c n. is_of c.numbers n) cs ns) are)
is_of_type (x ∷ cs) (n ∷ ns) (suc i) c are at = is_of_type cs ns i c (second_so (is_of x.numbers n) (pointwise (λ c n. is_of c.numbers n) cs ns) are) at

-- the weights of a cell's levels
pub weights : (k : KeyedWorlds) (cell : ℕ) → total_weight (bits_of (cell_part k.base.spec cell) false k.slots 0) ≡ total (cell_part k.base.spec cell) k.slots
weights k cell = totals (cell_part k.base.spec cell) false k.slots 0

-- the range of a cell
pub range_is : (k : KeyedWorlds) (cell : ℕ) (range : Range) (above : ℕ) → LawfulValuesSpellWorlds → AreKeyed k → cell < length (cells k.base.spec)
    → ((c : InputCell) → slice_get (cells k.base.spec) cell ≡ Some c → range.low ≡ c.numbers.low) → range.high ≡ range.low +ℤ pos above
    → above ≡ total (cell_part k.base.spec cell) k.slots → IsRangeOf k cell range
range_is k cell range above spell are less low high is values =
    let there = item_at (cells k.base.spec) cell less in
    let c : InputCell = there.0 in
    let w = world_at k values in
    let n : ℤ = slice_index_or w.cells cell (pos 0) in
    let numbers : pointwise (λ c n. is_of c.numbers n) (cells k.base.spec) w.cells ≡ true =
    second_so (pointwise is_choice (components k.base.spec) w.choices) (pointwise (λ c n. is_of c.numbers n) (cells k.base.spec) w.cells) (spell k are values) in
    let of_type : int_le c.numbers.low n && int_le n c.numbers.high ≡ true = is_of_type (cells k.base.spec) w.cells cell c numbers there.1 in
    let ends : range.high ≡ c.numbers.high = high ∙ ap (λ z. z +ℤ pos above) (low c there.1) ∙ ap (λ t. c.numbers.low +ℤ pos t) is ∙ are.layout.cells_fit cell c there.1 in (
      subst (λ z. z ≤ℤ n) (sym (low c there.1)) (at_most c.numbers.low n (first_so (int_le c.numbers.low n) (int_le n c.numbers.high) of_type)),
      subst (λ z. n ≤ℤ z) (sym ends) (at_most n c.numbers.high (second_so (int_le c.numbers.low n) (int_le n c.numbers.high) of_type)),
    )

-- no ranges
pub none_hold : (k : KeyedWorlds) → HoldWorlds k []
none_hold k values i range at = absurd (let no : ⊥ = cc in no)

-- one more
pub hold_more : (k : KeyedWorlds) (ranges : List Range) (range : Range) → HoldWorlds k ranges → IsRangeOf k (length ranges) range → HoldWorlds k (ranges ++ range ∷ [])
hold_more k ranges range hold is values i found at =
    let read : get_or (ranges ++ range ∷ []) i found ≡ found = get_or_from_slice_get (ranges ++ range ∷ []) i found found at in
    elim (cases_eq i (length ranges)) [
      | inl same ↦ (
          let one : range ≡ found = sym (get_or-append_seam ranges range [] found) ∙ ap (λ j. get_or (ranges ++ range ∷ []) j found) (sym same) ∙ read in
          subst (λ r. (r.low ≤ℤ numbers_at k values i) × (numbers_at k values i ≤ℤ r.high)) one
          (subst (λ j. (range.low ≤ℤ numbers_at k values j) × (numbers_at k values j ≤ℤ range.high)) (sym same) (is values)))
      | inr ne ↦ (
          let less : i < length ranges = omega (arith, slice_get_within (ranges ++ range ∷ []) i found at, length-append ranges (range ∷ []), ne) in
          hold values i found (slice_get_read ranges (length ranges) i found refl less (sym (sym (get_or_append_left ranges (range ∷ []) found i less) ∙ read))))
    ]
