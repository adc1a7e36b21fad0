-- The digit of a level, by going over the slots before it.
use Rattle.std.proofs.Common.{◌≡◌, ℕ, zero, suc, ◌+◌, ◌-◌, ◌<◌, ltb, eqb, Bool, true, false, if◌then◌else◌, List, [], ◌∷◌, length, get_or, drop, refl, sym, ◌∙◌, ap, subst, arith, inl, inr, Some, slice_get}
use Rattle.std.proofs.lemmas.Bool.Decides.{eqb_tells}
use Rattle.std.proofs.lemmas.List.{drop_more}
use Rattle.std.proofs.lemmas.Option.{get_or_from_slice_get}
use Rattle.spelled_numbers.specs.declared.slot.Slot.{Slot}
use Rattle.spelled_numbers.specs.declared.slot.Slot.TheVariants.{Part, Free}
use Rattle.spelled_numbers.specs.Spelling.{weight_for, total, left_after, digits, spelled}

-- one slot passed: what is left of the numbers, and that the later digits are those of it
record Passed (p : ℕ) (s : Slot) (ss : List Slot) (now : ℕ → ℕ) (free : ℕ → Bool) (k left : ℕ) : Type 0 where
  next : ℕ → ℕ
  has : next p ≡ (if ltb (total p ss) left then left - weight_for p s else left)
  same : (j : ℕ) → get_or (digits (s ∷ ss) now free k) (suc j) false ≡ get_or (digits ss next free (k + 1)) j false

unchanged : (b : Bool) (n c : ℕ) → c ≡ 0 → (if b then n - c else n) ≡ n
unchanged true n c z = omega (arith, z)
unchanged false n c z = refl

picked : (b : Bool) (now : ℕ → ℕ) (p q w : ℕ) → (if b then left_after now q w else now) p ≡ (if b then now p - (if eqb q p then w else 0) else now p)
picked true now p q w = refl
picked false now p q w = refl

passed : (p : ℕ) (s : Slot) (ss : List Slot) (now : ℕ → ℕ) (free : ℕ → Bool) (k left : ℕ) → now p ≡ left → Passed p s ss now free k left
passed p Free ss now free k left e = record {
  next = now;
  has = e ∙ sym (unchanged (ltb (total p ss) left) left 0 refl);
  same = λ j. refl;
}
passed p (Part q w) ss now free k left e = record {
  next = if ltb (total q ss) (now q) then left_after now q w else now;
  has = picked (ltb (total q ss) (now q)) now p q w ∙ elim (eqb_tells q p) [
    | inl h ↦ ap (λ r. if ltb (total r ss) (now r) then now p - (if eqb q p then w else 0) else now p) h.1
        ∙ ap (λ n. if ltb (total p ss) n then n - (if eqb q p then w else 0) else n) e
    | inr h ↦ let z : (if eqb q p then w else 0) ≡ 0 = ap (λ b. if b then w else 0) h.0 in
        unchanged (ltb (total q ss) (now q)) (now p) (if eqb q p then w else 0) z ∙ e
        ∙ sym (unchanged (ltb (total p ss) left) left (if eqb q p then w else 0) z)
  ];
  same = λ j. refl;
}

-- the slots before a place passed
pub record Reached (p : ℕ) (slots : List Slot) (level place left : ℕ) (numbers : ℕ → ℕ) (free : ℕ → Bool) : Type 0 where
  pub now : ℕ → ℕ
  pub has : now p ≡ left
  pub same : spelled slots numbers free level ≡ get_or (digits (drop place slots) now free place) (level - place) false

pub start : (p : ℕ) (slots : List Slot) (level left : ℕ) (numbers : ℕ → ℕ) (free : ℕ → Bool) → numbers p ≡ left → Reached p slots level 0 left numbers free
start p slots level left numbers free e = record {
  now = numbers;
  has = e;
  same = let z : level ≡ level - 0 = omega arith in ap (λ i. get_or (digits slots numbers free 0) i false) z;
}

turn_of : (p : ℕ) (slots : List Slot) (level place left : ℕ) (numbers : ℕ → ℕ) (free : ℕ → Bool) → place < level → place < length slots → Reached p slots level place left numbers free
    → Reached p slots level (place + 1) (if ltb (total p (drop (place + 1) slots)) left then left - weight_for p (get_or slots place Free) else left) numbers free
turn_of p slots level place left numbers free before less r =
    let s : Slot = get_or slots place Free in
    let ss : List Slot = drop (place + 1) slots in
    let t : Passed p s ss r.now free place left = passed p s ss r.now free place left r.has in
    record {
      now = t.next;
      has = t.has;
      same = r.same
          ∙ ap (λ xs. get_or (digits xs r.now free place) (level - place) false) (drop_more slots place Free less)
          ∙ (let z : level - place ≡ suc (level - (place + 1)) = omega (arith, before) in ap (λ i. get_or (digits (s ∷ ss) r.now free place) i false) z)
          ∙ t.same (level - (place + 1));
    }

pub turn : (p : ℕ) (slots : List Slot) (level place left w later : ℕ) (numbers : ℕ → ℕ) (free : ℕ → Bool) → place < level → place < length slots
    → w ≡ weight_for p (get_or slots place Free) → later ≡ total p (drop (place + 1) slots) → Reached p slots level place left numbers free
    → Reached p slots level (place + 1) (if ltb later left then left - w else left) numbers free
turn p slots level place left w later numbers free before less is_w is_later r =
    subst (λ n. Reached p slots level (place + 1) n numbers free)
    (ap (λ t. if ltb t left then left - weight_for p (get_or slots place Free) else left) (sym is_later) ∙ ap (λ x. if ltb later left then left - x else left) (sym is_w))
    (turn_of p slots level place left numbers free before less r)

pub total_more : (p : ℕ) (slots : List Slot) (place : ℕ) → place < length slots → total p (drop place slots) ≡ weight_for p (get_or slots place Free) + total p (drop (place + 1) slots)
total_more p slots place less = ap (total p) (drop_more slots place Free less)

pub within : (slots : List Slot) (level p w : ℕ) → slice_get slots level ≡ Some (Part p w) → level < length slots
within [] level p w e = cc
within (s ∷ ss) zero p w e = omega arith
within (s ∷ ss) (suc level) p w e = omega (arith, within ss level p w e)

-- the digit itself
pub last : (p : ℕ) (slots : List Slot) (level place left later w x : ℕ) (numbers : ℕ → ℕ) (free : ℕ → Bool) → place ≡ level → slice_get slots level ≡ Some (Part p w)
    → x ≡ weight_for p (get_or slots level Free) → later ≡ total p (drop place slots) → Reached p slots level place left numbers free
    → ltb (later - x) left ≡ spelled slots numbers free level
last p slots level place left later w x numbers free at is is_x total_is r =
    let less : level < length slots = within slots level p w is in
    let less2 : place < length slots = omega (arith, less, at) in
    let it : get_or slots place Free ≡ Part p w = ap (λ i. get_or slots i Free) at ∙ get_or_from_slice_get slots level (Part p w) Free is in
    let rest : later - x ≡ total p (drop (place + 1) slots) =
    omega (arith, is_x, total_is, total_more p slots place less2, ap (λ i. weight_for p (get_or slots i Free)) at) in
    ap (λ n. ltb n left) rest
    ∙ ap (λ n. ltb (total p (drop (place + 1) slots)) n) (sym r.has)
    ∙ sym (r.same
    ∙ ap (λ xs. get_or (digits xs r.now free place) (level - place) false) (drop_more slots place Free less2 ∙ ap (λ s. s ∷ drop (place + 1) slots) it)
    ∙ (let z : level - place ≡ 0 = omega (arith, at) in ap (λ i. get_or (digits (Part p w ∷ drop (place + 1) slots) r.now free place) i false) z))
