-- Numbers as they are spelled in one way: what has these values comes to the number, and a world that has the number is spelled so.
use Rattle.std.proofs.Common.{◌≡◌, ℕ, zero, suc, ◌+◌, ◌-◌, ◌<◌, ◌≤◌, ◌==◌, ltb, Bool, true, false, ◌&&◌, not, if◌then◌else◌, List, [], ◌∷◌, ◌++◌, length, zip, refl, sym, ap, ◌∙◌, subst, true≢false, arith, slice_get, slice_index_or, Some, ℤ, pos, neg_ℤ, ◌+ℤ◌, int_le, unsigned_abs}
use Rattle.std.specs.Cmp.{first_so, second_so}
use Rattle.std.proofs.lemmas.Bool.Decides.{nat_tests}
use Rattle.std.proofs.lemmas.Int.{ints}
use Rattle.std.proofs.lemmas.Option.{same_Some}
use Rattle.rsml_syntax.specs.declared.syntax.Spec.{Spec}
use Rattle.rsml_syntax.specs.declared.world.World.{World}
use Rattle.rsml_meaning.specs.Instances.{components}
use Rattle.rsml_meaning.specs.Cells.{InputCell, cells}
use Rattle.rsml_meaning.specs.Worlds.{IsWorld}
use Rattle.bdd_core.specs.Diagram.{Diagram}
use Rattle.bdd_core.specs.Calls.{Represents}
use Rattle.spelled_numbers.specs.declared.weighted.Weighted.{Weighted}
use Rattle.spelled_numbers.specs.Sums.{total_weight}
use Rattle.spelled_numbers.specs.declared.slot.Slot.{Slot}
use Rattle.spelled_numbers.specs.declared.slot.Slot.TheVariants.{Part, Free}
use Rattle.spelled_numbers.specs.Spelling.{Covers, total, number, left_after, digits}
use Rattle.spelled_numbers.specs.Bits.{bits_of}
use Rattle.spelled_numbers.proofs.BitLemmas.{totals}
use Rattle.spelled_numbers.proofs.SpellingLemmas.{within}
use Rattle.world_levels.specs.Spelling.{above_least, cell_part, part_number, spelled_world}
use Rattle.world_levels.specs.Laws.{EachWorldIsSpelled}
use Rattle.world_levels.proofs.NumberLemmas.{above_at}
use Rattle.phrase_diagrams.proofs.WorldLemmas.{cell_at}
use Rattle.macros.proofs.SmallCells.{world_cells}
use Rattle.keyed_levels.specs.Keyed.{KeyedWorlds, AreKeyed}
use Rattle.guard_encode.specs.Spelling.{IsNumber, has_value, is_spelled}
use Rattle.guard_encode.specs.Spelling.{left_after as left_with}
use Rattle.guard_encode.proofs.CellLemmas.{one_bit}

-- What has the values comes to the number.

nothing : (b : Bool) (n : ℕ) → ((if b then 0 else 0) + n) ≡ n
nothing true n = omega arith
nothing false n = omega arith

has_weight : (b : Bool) (w n : ℕ) → b ≡ true → ((if b then w else 0) + n) ≡ w + n
has_weight b w n e = ap (λ t. (if t then w else 0) + n) e

has_none : (b : Bool) (w n : ℕ) → not b ≡ true → ((if b then w else 0) + n) ≡ n
has_none true w n e = absurd (true≢false (sym e))
has_none false w n e = omega arith

-- one level of a part, or of another
one_level : (b : Bool) (w k left more : ℕ) (bs : List Weighted) (v : ℕ → Bool) (n : ℕ) → total_weight bs ≡ more → (b ≡ true → w ≤ more + 1)
    → left ≤ (if b then w else 0) + more → is_spelled (one_bit b w k ++ bs) left v ≡ true
    → ((rest : ℕ) → rest ≤ more → is_spelled bs rest v ≡ true → n ≡ rest)
    → ((if v k then (if b then w else 0) else 0) + n) ≡ left
one_level false w k left more bs v n all covers most h so = nothing (v k) n ∙ so left (omega (arith, most)) h
one_level true w k left more bs v n all covers most h so = by (ltb (total_weight bs) left) refl h
  where
    by : (is : Bool) → ltb (total_weight bs) left ≡ is → (has_value v k is && is_spelled bs (left_with left w is) v) ≡ true → ((if v k then w else 0) + n) ≡ left
    by true e g =
        let rest : n ≡ left - w = so (left - w) (omega (arith, most)) (second_so (v k) (is_spelled bs (left - w) v) g) in
        let above : total_weight bs < left = grind (arith, nat_tests, e) in
        let cover : w ≤ more + 1 = covers refl in
        has_weight (v k) w n (first_so (v k) (is_spelled bs (left - w) v) g) ∙ omega (arith, rest, above, cover, all)
    by false e g =
        let below : left ≤ total_weight bs = grind (arith, nat_tests, e) in
        has_none (v k) w n (first_so (not (v k)) (is_spelled bs left v) g)
        ∙ so left (omega (arith, below, all)) (second_so (not (v k)) (is_spelled bs left v) g)

pub comes_to : (p : ℕ) (slots : List Slot) (k left : ℕ) (v : ℕ → Bool) → Covers slots → left ≤ total p slots → is_spelled (bits_of p false slots k) left v ≡ true → number p slots v k ≡ left
comes_to p [] k left v covers most h = omega (arith, most)
comes_to p (Free ∷ ss) k left v covers most h = nothing (v k) (number p ss v (k + 1)) ∙ comes_to p ss (k + 1) left v covers (omega (arith, most)) h
comes_to p (Part q w ∷ ss) k left v covers most h =
    one_level (q == p) w k left (total p ss) (bits_of p false ss (k + 1)) v (number p ss v (k + 1)) (totals p false ss (k + 1))
    (λ e. let same : q ≡ p = grind (arith, nat_tests, e) in subst (λ r. w ≤ total r ss + 1) same covers.0)
    most h (λ rest few g. comes_to p ss (k + 1) rest v covers.1 few g)

-- A number is spelled so.

left_at : (b : Bool) (m : ℕ → ℕ) (p q v : ℕ) → (if b then left_after m q v else m) p ≡ (if b then m p - (if q == p then v else 0) else m p)
left_at true m p q v = refl
left_at false m p q v = refl

none_off : (d : Bool) (n : ℕ) → (if d then n - 0 else n) ≡ n
none_off true n = omega arith
none_off false n = refl

both_so : (a b : Bool) → a ≡ true → b ≡ true → (a && b) ≡ true
both_so a b e f = λ i. e i && f i

is_value : (v : ℕ → Bool) (k : ℕ) (d : Bool) → v k ≡ d → has_value v k d ≡ true
is_value v k true e = e
is_value v k false e = ap not e

one_digit : (b d : Bool) (w k n rest : ℕ) (bs : List Weighted) (v : ℕ → Bool) → v k ≡ d → (b ≡ true → ltb (total_weight bs) n ≡ d)
    → rest ≡ (if d then n - (if b then w else 0) else n) → is_spelled bs rest v ≡ true → is_spelled (one_bit b w k ++ bs) n v ≡ true
one_digit false d w k n rest bs v at tests is h = subst (λ m. is_spelled bs m v ≡ true) (is ∙ none_off d n) h
one_digit true d w k n rest bs v at tests is h =
    subst (λ (t : Bool). (has_value v k t && is_spelled bs (left_with n w t) v) ≡ true) (sym (tests refl))
    (both_so (has_value v k d) (is_spelled bs (left_with n w d) v) (is_value v k d at) (subst (λ m. is_spelled bs m v ≡ true) is h))

pub spelled_so : (p : ℕ) (slots : List Slot) (k : ℕ) (numbers : ℕ → ℕ) (free v : ℕ → Bool) → ((j : ℕ) → v (k + j) ≡ slice_index_or (digits slots numbers free k) j false)
    → is_spelled (bits_of p false slots k) (numbers p) v ≡ true
spelled_so p [] k numbers free v same = refl
spelled_so p (Free ∷ ss) k numbers free v same =
    spelled_so p ss (k + 1) numbers free v (λ j. (let e : k + 1 + j ≡ k + suc j = omega arith in ap v e) ∙ same (suc j))
spelled_so p (Part q w ∷ ss) k numbers free v same =
    one_digit (q == p) (ltb (total q ss) (numbers q)) w k (numbers p) (next p) (bits_of p false ss (k + 1)) v
    ((let e : k ≡ k + 0 = omega arith in ap v e) ∙ same 0)
    (λ e.
    let own : p ≡ q = grind (arith, nat_tests, e) in
    ap (λ n. ltb n (numbers p)) (totals p false ss (k + 1)) ∙ ap (λ r. ltb (total r ss) (numbers r)) own)
    (left_at (ltb (total q ss) (numbers q)) numbers p q w)
    (spelled_so p ss (k + 1) next free v (λ j. (let e : k + 1 + j ≡ k + suc j = omega arith in ap v e) ∙ same (suc j)))
  where
    next : ℕ → ℕ
    next = if ltb (total q ss) (numbers q) then left_after numbers q w else numbers

-- The number of a cell.

-- in a world, by the values that spell it
record InCell (k : KeyedWorlds) (cell : ℕ) (c : InputCell) (w : World) (n : ℤ) : Type 0 where
  above : ℕ
  is : n ≡ c.numbers.low +ℤ pos above
  few : above ≤ total (cell_part k.base.spec cell) k.slots

in_cell : EachWorldIsSpelled → (k : KeyedWorlds) (cell : ℕ) (c : InputCell) (w : World) (free : ℕ → Bool) → AreKeyed k → slice_get (cells k.base.spec) cell ≡ Some c → IsWorld k.base.spec w
    → InCell k cell c w (slice_index_or w.cells cell (pos 0))
in_cell each k cell c w free keyed at is =
    let v : ℕ → Bool = spelled_world k.base.spec k.slots w free in
    record {
      above = number (cell_part k.base.spec cell) k.slots v 0;
      is = ap (λ (x : World). slice_index_or x.cells cell (pos 0)) (sym (each k.base.spec k.slots keyed.layout w is free)) ∙ cell_at k.base.spec k.slots v cell c at;
      few = within (cell_part k.base.spec cell) k.slots v;
    }

same_default : (xs : List ℤ) (k : ℕ) (d e : ℤ) → k < length xs → slice_index_or xs k d ≡ slice_index_or xs k e
same_default [] k d e less = absurd (omega (arith, less))
same_default (x ∷ xs) zero d e less = refl
same_default (x ∷ xs) (suc k) d e less = same_default xs k d e (omega (arith, less))

of_part : (s : Spec) (cell : ℕ) (c : InputCell) (w : World) (n : ℤ) (left : ℕ) → slice_get (cells s) cell ≡ Some c → cell < length (cells s) → IsWorld s w
    → slice_index_or w.cells cell (pos 0) ≡ n → n ≡ c.numbers.low +ℤ pos left
    → part_number s w (cell_part s cell) ≡ left
of_part s cell c w n left at less is has above =
    let len : ℕ = length (components s) in
    let there : cell < length w.cells = omega (arith, less, world_cells s w is) in
    let later : ltb (len + cell) len ≡ false = grind (arith, nat_tests) in
    let own : (len + cell) - len ≡ cell = omega arith in
    let far : unsigned_abs (n +ℤ neg_ℤ c.numbers.low) ≡ left = grind (arith, ints, above) in
    ap (λ b. if b then slice_index_or w.choices (len + cell) 0 else above_least (slice_get (zip (cells s) w.cells) ((len + cell) - len))) later
    ∙ ap (λ j. above_least (slice_get (zip (cells s) w.cells) j)) own
    ∙ sym (above_at (cells s) w.cells cell c.numbers.low n (world_cells s w is) (sym has ∙ same_default w.cells cell (pos 0) n there) there
    (λ d also. ap (λ (x : InputCell). x.numbers.low) (same_Some c d (sym at ∙ also))))
    ∙ far

-- no world has a number that is not one of the cell
pub no_number : EachWorldIsSpelled → (d : Diagram) (k : KeyedWorlds) (cell : ℕ) (c : InputCell) (n : ℤ) (r : ℕ) → AreKeyed k → slice_get (cells k.base.spec) cell ≡ Some c
    → (int_le c.numbers.low n && int_le n c.numbers.high) ≡ false → Represents d (λ v. false) r → IsNumber d k cell n r
no_number each d k cell c n r keyed at outside never = record {
  is_ref = never.is_ref;
  only = λ v h. absurd (true≢false (sym h ∙ never.means v));
  all = λ w free is has.
      let there = in_cell each k cell c w free keyed at is in
      let fit : c.numbers.low +ℤ pos (total (cell_part k.base.spec cell) k.slots) ≡ c.numbers.high = keyed.layout.cells_fit cell c at in
      let own : n ≡ c.numbers.low +ℤ pos there.above = sym has ∙ there.is in
      let few : there.above ≤ total (cell_part k.base.spec cell) k.slots = there.few in
      let low : int_le c.numbers.low n ≡ true = grind (arith, ints, own) in
      let high : int_le n c.numbers.high ≡ true = grind (arith, ints, own, fit, few) in
      absurd (true≢false (sym (both_so (int_le c.numbers.low n) (int_le n c.numbers.high) low high) ∙ outside));
}

-- a number of the cell, by its levels
pub is_number : EachWorldIsSpelled → (d : Diagram) (k : KeyedWorlds) (cell left r : ℕ) (c : InputCell) (n : ℤ) (bits : List Weighted) → AreKeyed k → slice_get (cells k.base.spec) cell ≡ Some c
    → cell < length (cells k.base.spec) → bits ≡ bits_of (cell_part k.base.spec cell) false k.slots 0 → n ≡ c.numbers.low +ℤ pos left → int_le n c.numbers.high ≡ true
    → Represents d (is_spelled bits left) r → IsNumber d k cell n r
is_number each d k cell left r c n bits keyed at less is above below h = record {
  is_ref = h.is_ref;
  only = λ v holds.
      cell_at k.base.spec k.slots v cell c at
      ∙ ap (λ m. c.numbers.low +ℤ pos m)
      (comes_to part k.slots 0 left v keyed.layout.covers most (sym (ap (λ bs. is_spelled bs left v) is) ∙ sym (h.means v) ∙ holds))
      ∙ sym above;
  all = λ w free world has.
      h.means (spelled_world k.base.spec k.slots w free)
      ∙ ap (λ bs. is_spelled bs left (spelled_world k.base.spec k.slots w free)) is
      ∙ ap (λ m. is_spelled (bits_of part false k.slots 0) m (spelled_world k.base.spec k.slots w free)) (sym (of_part k.base.spec cell c w n left at less world has above))
      ∙ spelled_so part k.slots 0 (part_number k.base.spec w) free (spelled_world k.base.spec k.slots w free) (λ j. let e : 0 + j ≡ j = omega arith in ap (spelled_world k.base.spec k.slots w free) e);
}
  where
    part : ℕ
    part = cell_part k.base.spec cell

    most : left ≤ total part k.slots
    most =
        let fit : c.numbers.low +ℤ pos (total part k.slots) ≡ c.numbers.high = keyed.layout.cells_fit cell c at in
        grind (arith, ints, fit, above, below)
