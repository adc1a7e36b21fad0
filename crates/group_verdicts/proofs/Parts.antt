-- The parts of worlds: the places of children and the numbers of cells.
use Rattle.std.proofs.Common.{◌≡◌, ℕ, zero, suc, ◌<◌, Bool, true, List, [], ◌∷◌, ◌++◌, length, Some, refl, sym, ap, ◌∙◌, true≢false, slice_get, slice_index_or, int_le, pos, ℤ, arith}
use Rattle.std.specs.Cmp.{first_so, second_so}
use Rattle.std.specs.Cmp.Lexicographic.{pointwise, slice_cmp}
use Rattle.std.specs.Ordering.{ordering_then}
use Rattle.std.specs.declared.cmp.Ordering.{Ordering}
use Rattle.std.specs.declared.cmp.Ordering.TheVariants.{Less, Equal, Greater}
use Rattle.std.proofs.lemmas.Option.{same_Some}
use Rattle.std.proofs.lemmas.Bool.Decides.{nat_tests}
use Rattle.rsml_syntax.specs.declared.syntax.Spec.{Spec}
use Rattle.rsml_syntax.specs.declared.world.World.{World}
use Rattle.rsml_meaning.specs.Instances.{Component, components}
use Rattle.rsml_meaning.specs.Cells.{InputCell, cells, is_of}
use Rattle.rsml_meaning.specs.Worlds.{IsWorld, is_choice}

-- lists beside each other are equally long
same_length : {A B : Type 0} (t : A → B → Bool) (xs : List A) (ys : List B) → pointwise t xs ys ≡ true → length ys ≡ length xs
same_length t [] [] h = refl
same_length t [] (y ∷ ys) h = absurd (true≢false (sym h))
same_length t (x ∷ xs) [] h = absurd (true≢false (sym h))
same_length t (x ∷ xs) (y ∷ ys) h = ap suc (same_length t xs ys (second_so (t x y) (pointwise t xs ys) h))

-- what stands beside an item passes with it
beside : {A B : Type 0} (t : A → B → Bool) (xs : List A) (ys : List B) → pointwise t xs ys ≡ true → (k : ℕ) (x : A) (d : B)
    → slice_get xs k ≡ Some x → t x (slice_index_or ys k d) ≡ true
beside t [] ys h k x d at = absurd (let no : ⊥ = cc in no)
beside t (x ∷ xs) [] h k z d at = absurd (true≢false (sym h))
beside t (x ∷ xs) (y ∷ ys) h zero z d at = ap (λ a. t a y) (sym (same_Some x z at)) ∙ first_so (t x y) (pointwise t xs ys) h
beside t (x ∷ xs) (y ∷ ys) h (suc k) z d at = beside t xs ys (second_so (t x y) (pointwise t xs ys) h) k z d at

abbrev pub fits : InputCell → ℤ → Bool
fits c n = is_of c.numbers n

pub choices_are : (s : Spec) (w : World) → IsWorld s w → pointwise is_choice (components s) w.choices ≡ true
choices_are s w is = first_so (pointwise is_choice (components s) w.choices) (pointwise fits (cells s) w.cells) is

pub cells_are : (s : Spec) (w : World) → IsWorld s w → pointwise fits (cells s) w.cells ≡ true
cells_are s w is = second_so (pointwise is_choice (components s) w.choices) (pointwise fits (cells s) w.cells) is

-- a choice for each component
pub many_choices : (s : Spec) (w : World) → IsWorld s w → length w.choices ≡ length (components s)
many_choices s w is = same_length is_choice (components s) w.choices (choices_are s w is)

-- a number for each cell
pub many_cells : (s : Spec) (w : World) → IsWorld s w → length w.cells ≡ length (cells s)
many_cells s w is = same_length fits (cells s) w.cells (cells_are s w is)

-- a choice is one of the component's children
pub choice_less : (s : Spec) (w : World) → IsWorld s w → (k : ℕ) (c : Component) → slice_get (components s) k ≡ Some c
    → slice_index_or w.choices k 0 < length c.children
choice_less s w is k c at =
    let t : is_choice c (slice_index_or w.choices k 0) ≡ true = beside is_choice (components s) w.choices (choices_are s w is) k c 0 at in
    grind (arith, nat_tests)

-- a number is between the ends of its cell
pub number_above : (s : Spec) (w : World) → IsWorld s w → (k : ℕ) (c : InputCell) → slice_get (cells s) k ≡ Some c
    → int_le c.numbers.low (slice_index_or w.cells k (pos 0)) ≡ true
number_above s w is k c at =
    first_so (int_le c.numbers.low (slice_index_or w.cells k (pos 0))) (int_le (slice_index_or w.cells k (pos 0)) c.numbers.high)
    (beside fits (cells s) w.cells (cells_are s w is) k c (pos 0) at)

pub number_below : (s : Spec) (w : World) → IsWorld s w → (k : ℕ) (c : InputCell) → slice_get (cells s) k ≡ Some c
    → int_le (slice_index_or w.cells k (pos 0)) c.numbers.high ≡ true
number_below s w is k c at =
    second_so (int_le c.numbers.low (slice_index_or w.cells k (pos 0))) (int_le (slice_index_or w.cells k (pos 0)) c.numbers.high)
    (beside fits (cells s) w.cells (cells_are s w is) k c (pos 0) at)

-- lists that are equally long, with more items each
pub cmp_append : {A : Type 0} (cmp : A → A → Ordering) (xs ys us vs : List A) → length xs ≡ length ys
    → slice_cmp cmp (xs ++ us) (ys ++ vs) ≡ ordering_then (slice_cmp cmp xs ys) (slice_cmp cmp us vs)
cmp_append cmp [] [] us vs l = refl
cmp_append cmp [] (b ∷ ys) us vs l = absurd (omega (arith, l))
cmp_append cmp (a ∷ xs) [] us vs l = absurd (omega (arith, l))
cmp_append cmp (a ∷ xs) (b ∷ ys) us vs l =
    ap (ordering_then (cmp a b)) (cmp_append cmp xs ys us vs (omega (arith, l))) ∙ by (cmp a b) (slice_cmp cmp xs ys) (slice_cmp cmp us vs)
  where
    by : (o p q : Ordering) → ordering_then o (ordering_then p q) ≡ ordering_then (ordering_then o p) q
    by Less p q = refl
    by Equal p q = refl
    by Greater p q = refl

-- and with one more
pub cmp_more : {A : Type 0} (cmp : A → A → Ordering) (xs ys : List A) (x y : A) → length xs ≡ length ys
    → slice_cmp cmp (xs ++ x ∷ []) (ys ++ y ∷ []) ≡ ordering_then (slice_cmp cmp xs ys) (cmp x y)
cmp_more cmp xs ys x y l = cmp_append cmp xs ys (x ∷ []) (y ∷ []) l ∙ ap (ordering_then (slice_cmp cmp xs ys)) (by (cmp x y))
  where
    by : (o : Ordering) → ordering_then o Equal ≡ o
    by Less = refl
    by Equal = refl
    by Greater = refl
