-- Worlds whose later parts are as in one world.
use Rattle.std.proofs.Common.{◌≡◌, ◌↔◌, ◌==◌, ◌<◌, ◌+◌, ◌-◌, ◌∙◌, inl, inr, ℕ, suc, Bool, true, false, ◌&&◌, List, [], ◌∷◌, ◌++◌, length, Some, refl, sym, ap, subst, true≢false, ℤ, arith, slice_get, slice_index_or, IsTrue}
use Rattle.std.specs.Cmp.{first_so, second_so}
use Rattle.std.specs.Ordering.{int_eq}
use Rattle.std.proofs.lemmas.Bool.{and_from}
use Rattle.std.proofs.lemmas.Bool.Decides.{nat_tests}
use Rattle.std.proofs.lemmas.Int.{ints}
use Rattle.rsml_syntax.specs.declared.world.World.{World}
use Rattle.rsml_meaning.specs.Worlds.{IsWorld}
use Rattle.guard_encode.specs.declared.reading.ReadParts.{ReadParts}
use Rattle.guard_encode.specs.Encoding.{Encoding, Finds, Keeps, Tells}
use Rattle.guard_encode.proofs.FindLemmas.{found_on, found_told}
use Rattle.guard_encode.proofs.StepLemmas.{keeps_on}
use Rattle.group_verdicts.proofs.Keeping.{on_new}
use Rattle.gap_tables.specs.Widening.{AreAs, AreLaterCells, AreLaterChildren, FindsLater, child_at, number_at}
use Rattle.gap_tables.proofs.Places.{before_or_last}
use Rattle.gap_tables.proofs.Steps.{earlier_cell, earlier_child}
use Rattle.gap_tables.proofs.PartAnswers.{later_on}

same_number : (m n : ℤ) → int_eq m n ≡ true → m ≡ n
same_number m n e = grind (arith, ints, e)

number_same : (m n : ℤ) → m ≡ n → int_eq m n ≡ true
number_same m n e = grind (arith, ints, e)

same_child : (m n : ℕ) → (m == n) ≡ true → m ≡ n
same_child m n e = grind (arith, nat_tests, e)

child_same : (m n : ℕ) → m ≡ n → (m == n) ≡ true
child_same m n e = grind (arith, nat_tests, e)

fewer_cells : (read : ReadParts) (w v : World) (m n : ℕ) → AreAs read w m n v → AreAs read w m (n + 1) v
fewer_cells read w v m n alike = record { children = alike.children; numbers = λ k from within is. alike.numbers k (omega (arith, from)) within is }

fewer_children : (read : ReadParts) (w v : World) (m n : ℕ) → AreAs read w m n v → AreAs read w (m + 1) n v
fewer_children read w v m n alike = record { children = λ k from within is. alike.children k (omega (arith, from)) within is; numbers = alike.numbers }

next : (n : ℕ) → n + 1 ≡ suc n
next n = omega arith

pub number_kept : (a d : Encoding) (read : ReadParts) (w : World) (m place f r : ℕ) (number : ℤ) → Keeps a d → number ≡ number_at place w → slice_index_or read.cells place true ≡ true → place < length w.cells
    → (after : FindsLater a read w m (place + 1) f) → Finds d (λ v. after.later v && int_eq (number_at place v) number) r → FindsLater d read w m place r
number_kept a d read w m place f r number keeps own is_read less after found = record {
  later = λ v. after.later v && int_eq (number_at place v) number;
  finds = found;
  exact = λ v is. (
    λ h. earlier_cell read w v place (place + 1) m (next place) (λ is. same_number (number_at place v) number (second_so (after.later v) (int_eq (number_at place v) number) h) ∙ own)
        ((exact v is).0 (first_so (after.later v) (int_eq (number_at place v) number) h)),
    λ alike. and_from (after.later v) (int_eq (number_at place v) number) ((exact v is).1 (fewer_cells read w v m place alike))
        (number_same (number_at place v) number (alike.numbers place (omega arith) less is_read ∙ sym own)),
  );
}
  where
    exact : (v : World) → IsWorld d.machine.base.spec v → IsTrue (after.later v) ↔ AreAs read w m (place + 1) v
    exact = on_new (λ s. (v : World) → IsWorld s v → IsTrue (after.later v) ↔ AreAs read w m (place + 1) v) a d keeps after.exact

-- by the number of the cell
pub number_more : (a d : Encoding) (read : ReadParts) (w : World) (m place f r k : ℕ) (number : ℤ) → Keeps a d → k ≡ place → number ≡ number_at k w → slice_index_or read.cells place true ≡ true
    → place < length w.cells → (after : FindsLater a read w m (place + 1) f) → Finds d (λ v. after.later v && int_eq (number_at k v) number) r → FindsLater d read w m place r
number_more a d read w m place f r k number keeps at own is_read less after found =
    number_kept a d read w m place f r number keeps (own ∙ ap (λ n. number_at n w) at) is_read less after
    (subst (λ n. Finds d (λ v. after.later v && int_eq (number_at n v) number) r) at found)

pub number_unread : (a : Encoding) (read : ReadParts) (w : World) (m place f : ℕ) → slice_index_or read.cells place true ≡ false → FindsLater a read w m (place + 1) f → FindsLater a read w m place f
number_unread a read w m place f not after = record {
  later = after.later;
  finds = after.finds;
  exact = λ v is. (
    λ h. earlier_cell read w v place (place + 1) m (next place) (λ is. absurd (true≢false (sym is ∙ not))) ((after.exact v is).0 h),
    λ alike. (after.exact v is).1 (fewer_cells read w v m place alike),
  );
}

pub child_kept : (a d : Encoding) (read : ReadParts) (w : World) (n place f r own : ℕ) → Keeps a d → own ≡ child_at place w → slice_index_or read.choices place true ≡ true → place < length w.choices
    → (after : FindsLater a read w (place + 1) n f) → Finds d (λ v. after.later v && (child_at place v == own)) r → FindsLater d read w place n r
child_kept a d read w n place f r own keeps is_own is_read less after found = record {
  later = λ v. after.later v && (child_at place v == own);
  finds = found;
  exact = λ v is. (
    λ h. earlier_child read w v place (place + 1) n (next place) (λ is. same_child (child_at place v) own (second_so (after.later v) (child_at place v == own) h) ∙ is_own)
        ((exact v is).0 (first_so (after.later v) (child_at place v == own) h)),
    λ alike. and_from (after.later v) (child_at place v == own) ((exact v is).1 (fewer_children read w v place n alike))
        (child_same (child_at place v) own (alike.children place (omega arith) less is_read ∙ sym is_own)),
  );
}
  where
    exact : (v : World) → IsWorld d.machine.base.spec v → IsTrue (after.later v) ↔ AreAs read w (place + 1) n v
    exact = on_new (λ s. (v : World) → IsWorld s v → IsTrue (after.later v) ↔ AreAs read w (place + 1) n v) a d keeps after.exact

-- by the function that tells it
pub child_more : (a b d : Encoding) (read : ReadParts) (w : World) (n place f chosen r k own : ℕ) → Keeps a b → Keeps b d → k ≡ place → own ≡ child_at k w → slice_index_or read.choices place true ≡ true
    → place < length w.choices → (after : FindsLater a read w (place + 1) n f) → Tells b (λ v. child_at k v == own) chosen
    → ((one other : World → Bool) → Finds b one f → Tells b other chosen → Finds d (λ v. one v && other v) r) → FindsLater d read w place n r
child_more a b d read w n place f chosen r k own ab bd at is_own is_read less after told both =
    let found = both after.later (λ v. child_at k v == own) (found_on a b after.later f ab after.finds) told in
    child_kept a d read w n place f r own (keeps_on a b d ab bd) (is_own ∙ ap (λ m. child_at m w) at) is_read less after
    (subst (λ m. Finds d (λ v. after.later v && (child_at m v == own)) r) at found)

pub child_unread : (a : Encoding) (read : ReadParts) (w : World) (n place f : ℕ) → slice_index_or read.choices place true ≡ false → FindsLater a read w (place + 1) n f → FindsLater a read w place n f
child_unread a read w n place f not after = record {
  later = after.later;
  finds = after.finds;
  exact = λ v is. (
    λ h. earlier_child read w v place (place + 1) n (next place) (λ is. absurd (true≢false (sym is ∙ not))) ((after.exact v is).0 h),
    λ alike. (after.exact v is).1 (fewer_children read w v place n alike),
  );
}

-- after the last part all worlds are
pub all_later : (e : Encoding) (read : ReadParts) (w : World) (r : ℕ) → Tells e (λ w. true) r → FindsLater e read w (length w.choices) (length w.cells) r
all_later e read w r told = record {
  later = λ v. true;
  finds = found_told e (λ v. true) r told;
  exact = λ v is. (
    λ h. record { children = λ k from within is. absurd (omega (arith, from, within)); numbers = λ k from within is. absurd (omega (arith, from, within)) },
    λ alike. refl,
  );
}

-- Lists of them.

pub cells_on : (a b : Encoding) (read : ReadParts) (w : World) (later : List ℕ) → Keeps a b → AreLaterCells a read w later → AreLaterCells b read w later
cells_on a b read w later keeps are = λ k r at. later_on a b read w (length w.choices) (length w.cells - k) r keeps (are k r at)

pub children_on : (a b : Encoding) (read : ReadParts) (w : World) (later : List ℕ) → Keeps a b → AreLaterChildren a read w later → AreLaterChildren b read w later
children_on a b read w later keeps are = λ k r at. later_on a b read w (length w.choices - k) 0 r keeps (are k r at)

-- one more
pub more_later : (P : ℕ → ℕ → Type 0) (later : List ℕ) (f : ℕ) → ((k r : ℕ) → slice_get later k ≡ Some r → P k r) → P (length later) f → (k r : ℕ) → slice_get (later ++ f ∷ []) k ≡ Some r → P k r
more_later P later f are here k r at = elim (before_or_last later f r k at) [
  | inl h ↦ are k r h.at
  | inr h ↦ subst (λ n. P n r) (sym h.place) (subst (λ g. P (length later) g) h.item here)
]

-- none yet
pub first_later : (P : ℕ → ℕ → Type 0) (f : ℕ) → P 0 f → (k r : ℕ) → slice_get (f ∷ []) k ≡ Some r → P k r
first_later P f here = more_later P [] f (λ k r at. absurd (let no : ⊥ = cc in no)) here
