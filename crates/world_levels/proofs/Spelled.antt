-- All values of the levels spell a world.
use Rattle.std.proofs.Common.{◌≡◌, ℕ, suc, ◌+◌, ◌<◌, ◌≤◌, Bool, true, false, ◌&&◌, nat_lt, List, [], ◌∷◌, length, refl, ◌∙◌, ap, arith, Some, slice_get, ℤ, pos, ◌+ℤ◌, int_le}
use Rattle.std.specs.Cmp.Lexicographic.{pointwise}
use Rattle.std.proofs.lemmas.Bool.Decides.{nat_tests}
use Rattle.std.proofs.lemmas.Int.{ints}
use Rattle.rsml_syntax.specs.declared.syntax.Spec.{Spec}
use Rattle.rsml_meaning.specs.Instances.{Component, components}
use Rattle.rsml_meaning.specs.Cells.{InputCell, cells, is_of}
use Rattle.rsml_meaning.specs.Worlds.{IsWorld, is_choice}
use Rattle.spelled_numbers.specs.declared.slot.Slot.{Slot}
use Rattle.spelled_numbers.specs.Spelling.{total, number}
use Rattle.spelled_numbers.proofs.SpellingLemmas.{within}
use Rattle.world_levels.specs.Spelling.{IsLayout, choices_from, numbers_from, world_of}

pub both : (a b : Bool) → a ≡ true → b ≡ true → (a && b) ≡ true
both true b h k = k
both false b h k = h

pub is_less : (m n : ℕ) → m < n → nat_lt m n ≡ true
is_less m n h = grind (arith, nat_tests)

pub less_is : (m n : ℕ) → nat_lt m n ≡ true → m < n
less_is m n h = grind (arith, nat_tests)

-- the greatest numbers of these components' parts, the first of which is p, are those of their last children
abbrev pub ChildrenFit : List Slot → ℕ → List Component → Type 0
ChildrenFit slots p cs = (k : ℕ) (c : Component) → slice_get cs k ≡ Some c → suc (total (p + k) slots) ≡ length c.children

-- and those of these cells' parts lead from the least to the greatest number
abbrev pub NumbersFit : List Slot → ℕ → List InputCell → Type 0
NumbersFit slots p cs = (k : ℕ) (c : InputCell) → slice_get cs k ≡ Some c → c.numbers.low +ℤ pos (total (p + k) slots) ≡ c.numbers.high

pub children_later : (slots : List Slot) (p : ℕ) (c : Component) (cs : List Component) → ChildrenFit slots p (c ∷ cs) → ChildrenFit slots (suc p) cs
children_later slots p c cs fit k d e = (let z : suc p + k ≡ p + suc k = omega arith in ap (λ i. suc (total i slots)) z) ∙ fit (suc k) d e

pub numbers_later : (slots : List Slot) (p : ℕ) (c : InputCell) (cs : List InputCell) → NumbersFit slots p (c ∷ cs) → NumbersFit slots (suc p) cs
numbers_later slots p c cs fit k d e = (let z : suc p + k ≡ p + suc k = omega arith in ap (λ i. d.numbers.low +ℤ pos (total i slots)) z) ∙ fit (suc k) d e

pub first_child : (slots : List Slot) (p : ℕ) (c : Component) (cs : List Component) → ChildrenFit slots p (c ∷ cs) → suc (total p slots) ≡ length c.children
first_child slots p c cs fit = (let z : p ≡ p + 0 = omega arith in ap (λ i. suc (total i slots)) z) ∙ fit 0 c refl

pub first_number : (slots : List Slot) (p : ℕ) (c : InputCell) (cs : List InputCell) → NumbersFit slots p (c ∷ cs) → c.numbers.low +ℤ pos (total p slots) ≡ c.numbers.high
first_number slots p c cs fit = (let z : p ≡ p + 0 = omega arith in ap (λ i. c.numbers.low +ℤ pos (total i slots)) z) ∙ fit 0 c refl

choices_fit : (slots : List Slot) (values : ℕ → Bool) (p : ℕ) (cs : List Component) → ChildrenFit slots p cs → pointwise is_choice cs (choices_from slots values p cs) ≡ true
choices_fit slots values p [] fit = refl
choices_fit slots values p (c ∷ cs) fit =
    both (is_choice c (number p slots values 0)) (pointwise is_choice cs (choices_from slots values (suc p) cs))
    (is_less (number p slots values 0) (length c.children) (omega (arith, within p slots values, first_child slots p c cs fit)))
    (choices_fit slots values (suc p) cs (children_later slots p c cs fit))

not_below : (low : ℤ) (n : ℕ) → int_le low (low +ℤ pos n) ≡ true
not_below low n = grind (arith, ints)

not_above : (low high : ℤ) (n most : ℕ) → low +ℤ pos most ≡ high → n ≤ most → int_le (low +ℤ pos n) high ≡ true
not_above low high n most e h = grind (arith, ints)

numbers_fit : (slots : List Slot) (values : ℕ → Bool) (p : ℕ) (cs : List InputCell) → NumbersFit slots p cs → pointwise (λ c n. is_of c.numbers n) cs (numbers_from slots values p cs) ≡ true
numbers_fit slots values p [] fit = refl
numbers_fit slots values p (c ∷ cs) fit =
    both (is_of c.numbers (c.numbers.low +ℤ pos (number p slots values 0))) (pointwise (λ c n. is_of c.numbers n) cs (numbers_from slots values (suc p) cs))
    (both (int_le c.numbers.low (c.numbers.low +ℤ pos (number p slots values 0))) (int_le (c.numbers.low +ℤ pos (number p slots values 0)) c.numbers.high)
    (not_below c.numbers.low (number p slots values 0))
    (not_above c.numbers.low c.numbers.high (number p slots values 0) (total p slots) (first_number slots p c cs fit) (within p slots values)))
    (numbers_fit slots values (suc p) cs (numbers_later slots p c cs fit))

pub children_of_layout : (s : Spec) (slots : List Slot) → IsLayout s slots → ChildrenFit slots 0 (components s)
children_of_layout s slots layout k c e = (let z : 0 + k ≡ k = omega arith in ap (λ i. suc (total i slots)) z) ∙ layout.components_fit k c e

pub all_spell : (s : Spec) (slots : List Slot) → IsLayout s slots → (values : ℕ → Bool) → IsWorld s (world_of s slots values)
all_spell s slots layout values =
    both (pointwise is_choice (components s) (choices_from slots values 0 (components s)))
    (pointwise (λ c n. is_of c.numbers n) (cells s) (numbers_from slots values (length (components s)) (cells s)))
    (choices_fit slots values 0 (components s) (children_of_layout s slots layout))
    (numbers_fit slots values (length (components s)) (cells s) layout.cells_fit)
