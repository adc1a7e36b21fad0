-- The places of rows that are multiplied.
use Rattle.std.proofs.Common.{inl, inr, ◌≡◌, ℕ, ◌+◌, ◌<◌, List, [], ◌∷◌, ◌++◌, length, get_or, take, arith, sym, ap, ◌∙◌, slice_get, Some, ℤ, ◌≤ℤ◌}
use Rattle.std.specs.Prelude.{Contains}
use Rattle.std.proofs.lemmas.Bool.{cases_lt}
use Rattle.std.proofs.lemmas.List.{length-map, get_or-map, map_more}
use Rattle.std.proofs.lemmas.Option.{slice_get-get_or}
use Rattle.linear_conflicts.specs.declared.multiplier.Multiplier.{Multiplier}
use Rattle.linear_conflicts.specs.declared.row.Row.{Row}
use Rattle.linear_conflicts.specs.declared.range.Range.{Range}
use Rattle.linear_conflicts.specs.Rows.{Meets, AreMet, AreWithin}
use Rattle.linear_conflicts.specs.Steps.{places}

length-places : (ms : List Multiplier) → length (places ms) ≡ length ms
length-places ms = length-map ms (λ (m : Multiplier). m.place)

-- the place of a multiplier is among the places
contains_place : (ms : List Multiplier) (i : ℕ) (d : Multiplier) → i < length ms → Contains (places ms) (get_or ms i d).place
contains_place ms i d h = (i, omega (arith, length-places ms), get_or-map (λ (x : Multiplier). x.place) ms i d (get_or ms i d).place h)

-- what a look-up gives
got : {A : Type 0} (xs : List A) (k : ℕ) (x : A) → k < length xs → x ≡ get_or xs k x → slice_get xs k ≡ Some x
got xs k x b e = slice_get-get_or xs k x b ∙ ap Some (sym e)

-- the row of a multiplier is met
pub row_met : (v : ℕ → ℤ) (rows : List Row) (ms : List Multiplier) (i : ℕ) (d : Multiplier) (row : Row) → AreMet v rows (places ms)
    → i < length ms → (get_or ms i d).place < length rows → row ≡ get_or rows (get_or ms i d).place row → Meets v row
row_met v rows ms i d row all h within r = all (get_or ms i d).place row (contains_place ms i d h) (got rows (get_or ms i d).place row within r)

-- one place more is one of a row
pub within_more : (count : ℕ) (ms : List Multiplier) (i k e : ℕ) (d : Multiplier) → ((j e : ℕ) → j < i → get_or (places ms) j e < count)
    → i < length ms → (get_or ms i d).place < count → k < i + 1 → get_or (places ms) k e < count
within_more count ms i k e d before h within less = elim (cases_lt k i) [
  | inl l ↦ before k e l
  | inr u ↦
      let same : k ≡ i = omega arith in
      let told : get_or (places ms) i e ≡ (get_or ms i d).place = get_or-map (λ (x : Multiplier). x.place) ms i d e h in
      omega (arith, within, told, ap (λ n. get_or (places ms) n e) same)
]

-- one place more is told
pub place_told : (ms : List Multiplier) (i : ℕ) (d : Multiplier) (found more : List ℕ) → i < length ms
    → more ≡ found ++ (get_or ms i d).place ∷ [] → found ≡ places (take i ms) → more ≡ places (take (i + 1) ms)
place_told ms i d found more h push are =
    push ∙ ap (λ xs. xs ++ (get_or ms i d).place ∷ []) are ∙ sym (map_more (λ (x : Multiplier). x.place) ms i d h)

-- a variable is within its range
pub range_met : (ranges : List Range) (v : ℕ → ℤ) (i : ℕ) (range : Range) → AreWithin ranges v → i < length ranges → range ≡ get_or ranges i range
    → (range.low ≤ℤ v i) × (v i ≤ℤ range.high)
range_met ranges v i range all h e = all i range (got ranges i range h e)
