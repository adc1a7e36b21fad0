-- What a world that levels spell has at a place.
use Rattle.std.proofs.Common.{◌≡◌, ℕ, zero, suc, ◌+◌, ◌<◌, Bool, List, [], ◌∷◌, length, get_or, refl, ap, ◌∙◌, arith, pos, ◌+ℤ◌, Some, slice_get}
use Rattle.rsml_syntax.specs.declared.syntax.Spec.{Spec}
use Rattle.rsml_meaning.specs.Instances.{Component, components}
use Rattle.rsml_meaning.specs.Cells.{InputCell, cells}
use Rattle.spelled_numbers.specs.declared.slot.Slot.{Slot}
use Rattle.spelled_numbers.specs.Spelling.{number}
use Rattle.world_levels.specs.Spelling.{world_of, cell_part, choices_from, numbers_from}

choices_at : (slots : List Slot) (v : ℕ → Bool) (p : ℕ) (cs : List Component) (k : ℕ) → k < length cs → get_or (choices_from slots v p cs) k 0 ≡ number (p + k) slots v 0
choices_at slots v p [] k less = absurd (omega (arith, less))
choices_at slots v p (c ∷ cs) zero less = let e : p ≡ p + 0 = omega arith in ap (λ q. number q slots v 0) e
choices_at slots v p (c ∷ cs) (suc k) less =
    choices_at slots v (suc p) cs k (omega (arith, less)) ∙ (let e : suc p + k ≡ p + suc k = omega arith in ap (λ q. number q slots v 0) e)

-- a component has the child that is the number of its part
pub choice_at : (s : Spec) (slots : List Slot) (v : ℕ → Bool) (k : ℕ) → k < length (components s) → get_or (world_of s slots v).choices k 0 ≡ number k slots v 0
choice_at s slots v k less = choices_at slots v 0 (components s) k less ∙ (let e : 0 + k ≡ k = omega arith in ap (λ q. number q slots v 0) e)

-- there is an item at each place within a list
pub item_at : {A : Type 0} (xs : List A) (k : ℕ) → k < length xs → (x : A) × (slice_get xs k ≡ Some x)
item_at [] k less = absurd (omega (arith, less))
item_at (x ∷ xs) zero less = (x, refl)
item_at (x ∷ xs) (suc k) less = item_at xs k (omega (arith, less))

same_item : (c d : InputCell) → Some d ≡ Some c → d ≡ c
same_item c d e = cc

numbers_at : (slots : List Slot) (v : ℕ → Bool) (p : ℕ) (cs : List InputCell) (k : ℕ) (c : InputCell) → slice_get cs k ≡ Some c
    → get_or (numbers_from slots v p cs) k (pos 0) ≡ c.numbers.low +ℤ pos (number (p + k) slots v 0)
numbers_at slots v p [] k c is = cc
numbers_at slots v p (d ∷ cs) zero c is =
    ap (λ (x : InputCell). x.numbers.low +ℤ pos (number p slots v 0)) (same_item c d is)
    ∙ (let e : p ≡ p + 0 = omega arith in ap (λ q. c.numbers.low +ℤ pos (number q slots v 0)) e)
numbers_at slots v p (d ∷ cs) (suc k) c is =
    numbers_at slots v (suc p) cs k c is ∙ (let e : suc p + k ≡ p + suc k = omega arith in ap (λ q. c.numbers.low +ℤ pos (number q slots v 0)) e)

-- a cell's number is its least, and the number of its part above it
pub cell_at : (s : Spec) (slots : List Slot) (v : ℕ → Bool) (k : ℕ) (c : InputCell) → slice_get (cells s) k ≡ Some c
    → get_or (world_of s slots v).cells k (pos 0) ≡ c.numbers.low +ℤ pos (number (cell_part s k) slots v 0)
cell_at s slots v k c is = numbers_at slots v (length (components s)) (cells s) k c is
