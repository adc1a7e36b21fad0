-- Each world is spelled.
use Rattle.std.proofs.Common.{◌≡◌, ℕ, zero, suc, ◌+◌, ◌-◌, ◌<◌, ◌≤◌, Bool, true, false, ◌&&◌, nat_lt, if◌then◌else◌, List, [], ◌∷◌, length, zip, refl, sym, ◌∙◌, ap, subst, true≢false, arith, slice_get, slice_index_or, ℤ, pos, neg_ℤ, ◌+ℤ◌, int_le, unsigned_abs}
use Rattle.std.specs.Cmp.{first_so, second_so}
use Rattle.std.specs.Cmp.Lexicographic.{pointwise}
use Rattle.std.proofs.lemmas.Bool.Decides.{nat_tests}
use Rattle.std.proofs.lemmas.Int.{ints}
use Rattle.rsml_syntax.specs.declared.syntax.Spec.{Spec}
use Rattle.rsml_syntax.specs.declared.world.World.{World}
use Rattle.rsml_meaning.specs.Instances.{Component, components}
use Rattle.rsml_meaning.specs.Cells.{InputCell, cells, is_of}
use Rattle.rsml_meaning.specs.Worlds.{IsWorld, is_choice}
use Rattle.spelled_numbers.specs.declared.slot.Slot.{Slot}
use Rattle.spelled_numbers.specs.Spelling.{total, number}
use Rattle.spelled_numbers.proofs.SpellingLemmas.{every}
use Rattle.world_levels.specs.Spelling.{IsLayout, choices_from, numbers_from, world_of, above_least, part_number, spelled_world}
use Rattle.world_levels.proofs.Spelled.{is_less, less_is, ChildrenFit, NumbersFit, children_later, numbers_later, first_child, first_number, children_of_layout}

-- the choices of a world
abbrev AreChoices : List Component → List ℕ → Type 0
AreChoices cs ns = pointwise is_choice cs ns ≡ true

-- the numbers of its cells
abbrev AreNumbers : List InputCell → List ℤ → Type 0
AreNumbers cs ns = pointwise (λ c n. is_of c.numbers n) cs ns ≡ true

pub choices_of : (s : Spec) (w : World) → IsWorld s w → pointwise is_choice (components s) w.choices ≡ true
choices_of s w is = first_so (pointwise is_choice (components s) w.choices) (pointwise (λ c n. is_of c.numbers n) (cells s) w.cells) is

pub numbers_of : (s : Spec) (w : World) → IsWorld s w → pointwise (λ c n. is_of c.numbers n) (cells s) w.cells ≡ true
numbers_of s w is = second_so (pointwise is_choice (components s) w.choices) (pointwise (λ c n. is_of c.numbers n) (cells s) w.cells) is

-- A cell's number above its least.

unsigned_above : (low n : ℤ) → int_le low n ≡ true → low +ℤ pos (unsigned_abs (n +ℤ neg_ℤ low)) ≡ n
unsigned_above low n h = grind (arith, ints)

above_fits : (low high n : ℤ) (most : ℕ) → low +ℤ pos most ≡ high → int_le low n && int_le n high ≡ true → unsigned_abs (n +ℤ neg_ℤ low) ≤ most
above_fits low high n most e h =
    let a = first_so (int_le low n) (int_le n high) h in
    let b = second_so (int_le low n) (int_le n high) h in
    let u = unsigned_above low n a in
    grind (arith, ints, u)

-- The numbers of parts are within.

choice_within : (slots : List Slot) (p : ℕ) (cs : List Component) (ns : List ℕ) → ChildrenFit slots p cs → AreChoices cs ns → (k : ℕ) → slice_index_or ns k 0 ≤ total (p + k) slots
choice_within slots p [] [] fit are k = omega arith
choice_within slots p [] (n ∷ ns) fit are k = absurd (true≢false (sym are))
choice_within slots p (c ∷ cs) [] fit are k = omega arith
choice_within slots p (c ∷ cs) (n ∷ ns) fit are zero =
    let l : n < length c.children = less_is n (length c.children) (first_so (is_choice c n) (pointwise is_choice cs ns) are) in
    let z : p + 0 ≡ p = omega arith in
    let t : total (p + 0) slots ≡ total p slots = ap (λ i. total i slots) z in
    omega (arith, l, first_child slots p c cs fit, t)
choice_within slots p (c ∷ cs) (n ∷ ns) fit are (suc k) =
    let z : suc p + k ≡ p + suc k = omega arith in
    subst (λ i. slice_index_or ns k 0 ≤ total i slots) z
    (choice_within slots (suc p) cs ns (children_later slots p c cs fit) (second_so (is_choice c n) (pointwise is_choice cs ns) are) k)

number_within : (slots : List Slot) (p : ℕ) (cs : List InputCell) (ns : List ℤ) → NumbersFit slots p cs → AreNumbers cs ns → (k : ℕ) → above_least (slice_get (zip cs ns) k) ≤ total (p + k) slots
number_within slots p [] [] fit are k = omega arith
number_within slots p [] (n ∷ ns) fit are k = omega arith
number_within slots p (c ∷ cs) [] fit are k = omega arith
number_within slots p (c ∷ cs) (n ∷ ns) fit are zero =
    let z : p ≡ p + 0 = omega arith in
    subst (λ i. unsigned_abs (n +ℤ neg_ℤ c.numbers.low) ≤ total i slots) z
    (above_fits c.numbers.low c.numbers.high n (total p slots) (first_number slots p c cs fit) (first_so (is_of c.numbers n) (pointwise (λ c n. is_of c.numbers n) cs ns) are))
number_within slots p (c ∷ cs) (n ∷ ns) fit are (suc k) =
    let z : suc p + k ≡ p + suc k = omega arith in
    subst (λ i. above_least (slice_get (zip cs ns) k) ≤ total i slots) z
    (number_within slots (suc p) cs ns (numbers_later slots p c cs fit) (second_so (is_of c.numbers n) (pointwise (λ c n. is_of c.numbers n) cs ns) are) k)

part_within : (s : Spec) (slots : List Slot) → IsLayout s slots → (w : World) → IsWorld s w → (p : ℕ) → part_number s w p ≤ total p slots
part_within s slots layout w is p = by (nat_lt p (length (components s))) refl
  where
    by : (b : Bool) → nat_lt p (length (components s)) ≡ b
        → (if b then slice_index_or w.choices p 0 else above_least (slice_get (zip (cells s) w.cells) (p - length (components s)))) ≤ total p slots
    by true e =
        let z : 0 + p ≡ p = omega arith in
        subst (λ i. slice_index_or w.choices p 0 ≤ total i slots) z
        (choice_within slots 0 (components s) w.choices (children_of_layout s slots layout) (choices_of s w is) p)
    by false e =
        let z : length (components s) + (p - length (components s)) ≡ p = grind (arith, nat_tests) in
        subst (λ i. above_least (slice_get (zip (cells s) w.cells) (p - length (components s))) ≤ total i slots) z
        (number_within slots (length (components s)) (cells s) w.cells layout.cells_fit (numbers_of s w is) (p - length (components s)))

-- The world again.

choices_again : (slots : List Slot) (values : ℕ → Bool) (p : ℕ) (cs : List Component) (ns : List ℕ) → AreChoices cs ns
    → ((k : ℕ) → k < length cs → number (p + k) slots values 0 ≡ slice_index_or ns k 0) → choices_from slots values p cs ≡ ns
choices_again slots values p [] [] are same = refl
choices_again slots values p [] (n ∷ ns) are same = absurd (true≢false (sym are))
choices_again slots values p (c ∷ cs) [] are same = absurd (true≢false (sym are))
choices_again slots values p (c ∷ cs) (n ∷ ns) are same =
    let here : number p slots values 0 ≡ n = (let z : p ≡ p + 0 = omega arith in ap (λ i. number i slots values 0) z) ∙ same 0 (omega arith) in
    let there : choices_from slots values (suc p) cs ≡ ns = choices_again slots values (suc p) cs ns (second_so (is_choice c n) (pointwise is_choice cs ns) are)
    (λ k l. (let z : suc p + k ≡ p + suc k = omega arith in ap (λ i. number i slots values 0) z) ∙ same (suc k) (omega (arith, l))) in
    λ i. here i ∷ there i

numbers_again : (slots : List Slot) (values : ℕ → Bool) (p : ℕ) (cs : List InputCell) (ns : List ℤ) → AreNumbers cs ns
    → ((k : ℕ) → number (p + k) slots values 0 ≡ above_least (slice_get (zip cs ns) k)) → numbers_from slots values p cs ≡ ns
numbers_again slots values p [] [] are same = refl
numbers_again slots values p [] (n ∷ ns) are same = absurd (true≢false (sym are))
numbers_again slots values p (c ∷ cs) [] are same = absurd (true≢false (sym are))
numbers_again slots values p (c ∷ cs) (n ∷ ns) are same =
    let first : number p slots values 0 ≡ unsigned_abs (n +ℤ neg_ℤ c.numbers.low) = (let z : p ≡ p + 0 = omega arith in ap (λ i. number i slots values 0) z) ∙ same 0 in
    let here : c.numbers.low +ℤ pos (number p slots values 0) ≡ n = ap (λ m. c.numbers.low +ℤ pos m) first
    ∙ unsigned_above c.numbers.low n (first_so (int_le c.numbers.low n) (int_le n c.numbers.high) (first_so (is_of c.numbers n) (pointwise (λ c n. is_of c.numbers n) cs ns) are)) in
    let there : numbers_from slots values (suc p) cs ≡ ns = numbers_again slots values (suc p) cs ns (second_so (is_of c.numbers n) (pointwise (λ c n. is_of c.numbers n) cs ns) are)
    (λ k. (let z : suc p + k ≡ p + suc k = omega arith in ap (λ i. number i slots values 0) z) ∙ same (suc k)) in
    λ i. here i ∷ there i

not_less : (m k : ℕ) → nat_lt (m + k) m ≡ false
not_less m k = grind (arith, nat_tests)

of_component : (s : Spec) (w : World) (k : ℕ) → k < length (components s) → part_number s w k ≡ slice_index_or w.choices k 0
of_component s w k l =
    ap (λ b. if b then slice_index_or w.choices k 0 else above_least (slice_get (zip (cells s) w.cells) (k - length (components s)))) (is_less k (length (components s)) l)

of_cell : (s : Spec) (w : World) (k : ℕ) → part_number s w (length (components s) + k) ≡ above_least (slice_get (zip (cells s) w.cells) k)
of_cell s w k =
    ap (λ b. if b then slice_index_or w.choices (length (components s) + k) 0 else above_least (slice_get (zip (cells s) w.cells) (length (components s) + k - length (components s))))
    (not_less (length (components s)) k)
    ∙ (let z : length (components s) + k - length (components s) ≡ k = omega arith in ap (λ i. above_least (slice_get (zip (cells s) w.cells) i)) z)

pub each_spelled : (s : Spec) (slots : List Slot) → IsLayout s slots → (w : World) → IsWorld s w → (free : ℕ → Bool) → world_of s slots (spelled_world s slots w free) ≡ w
each_spelled s slots layout w is free =
    let part : (p : ℕ) → number p slots (spelled_world s slots w free) 0 ≡ part_number s w p = every slots layout.covers (part_number s w) (part_within s slots layout w is) free in
    let choices : choices_from slots (spelled_world s slots w free) 0 (components s) ≡ w.choices =
    choices_again slots (spelled_world s slots w free) 0 (components s) w.choices (choices_of s w is)
    (λ k l. (let z : 0 + k ≡ k = omega arith in ap (λ i. number i slots (spelled_world s slots w free) 0) z) ∙ part k ∙ of_component s w k l) in
    let numbers : numbers_from slots (spelled_world s slots w free) (length (components s)) (cells s) ≡ w.cells =
    numbers_again slots (spelled_world s slots w free) (length (components s)) (cells s) w.cells (numbers_of s w is)
    (λ k. part (length (components s) + k) ∙ of_cell s w k) in
    λ i. record { choices = choices i; cells = numbers i }
