-- Whether choices fit, place by place.
use Rattle.std.proofs.Common.{◌≡◌, ℕ, zero, suc, ◌+◌, ◌<◌, ◌≤◌, Bool, true, false, ◌&&◌, List, [], ◌∷◌, Some, slice_get, drop, drop-cons, length, get_or, nat_lt, add-one, sym, ap, ◌∙◌, arith}
use Rattle.std.proofs.lemmas.Option.{same_Some}
use Rattle.std.specs.Cmp.Lexicographic.{pointwise}

-- what is asked of two lists from a place on is asked of the items there, and of what follows
pub asked_at : {A B : Type 0} (t : A → B → Bool) (xs : List A) (ys : List B) (i : ℕ) (x : A) (y : B) → drop i xs ≡ x ∷ drop (i + 1) xs → drop i ys ≡ y ∷ drop (i + 1) ys →
    pointwise t (drop i xs) (drop i ys) ≡ (t x y && pointwise t (drop (i + 1) xs) (drop (i + 1) ys))
asked_at t xs ys i x y e f = ap (λ zs. pointwise t zs (drop i ys)) e ∙ ap (λ zs. pointwise t (x ∷ drop (i + 1) xs) zs) f

pub asked_no : {A B : Type 0} (t : A → B → Bool) (xs : List A) (ys : List B) (i : ℕ) (x : A) (y : B) → drop i xs ≡ x ∷ drop (i + 1) xs → drop i ys ≡ y ∷ drop (i + 1) ys →
    t x y ≡ false → false ≡ pointwise t (drop i xs) (drop i ys)
asked_no t xs ys i x y e f h = sym (asked_at t xs ys i x y e f ∙ ap (λ b. b && pointwise t (drop (i + 1) xs) (drop (i + 1) ys)) h)

pub asked_yes : {A B : Type 0} (t : A → B → Bool) (xs : List A) (ys : List B) (i : ℕ) (x : A) (y : B) → drop i xs ≡ x ∷ drop (i + 1) xs → drop i ys ≡ y ∷ drop (i + 1) ys →
    t x y ≡ true → pointwise t (drop (i + 1) xs) (drop (i + 1) ys) ≡ pointwise t (drop i xs) (drop i ys)
asked_yes t xs ys i x y e f h = sym (asked_at t xs ys i x y e f ∙ ap (λ b. b && pointwise t (drop (i + 1) xs) (drop (i + 1) ys)) h)

get_suc : {A : Type 0} (xs : List A) (i : ℕ) (x : A) → slice_get xs i ≡ Some x → drop i xs ≡ x ∷ drop (suc i) xs
get_suc [] i x h = absurd (let no : ⊥ = cc in no)
get_suc (y ∷ xs) zero x h = ap (λ z. z ∷ xs) (same_Some y x h)
get_suc (y ∷ xs) (suc i) x h = get_suc xs i x h

-- the items from a place on begin with the one that stands there
pub from_item : {A : Type 0} (xs : List A) (i : ℕ) (x : A) → slice_get xs i ≡ Some x → drop i xs ≡ x ∷ drop (i + 1) xs
from_item xs i x h = get_suc xs i x h ∙ ap (λ k. x ∷ drop k xs) (sym (add-one i))

pub from_number : (ys : List ℕ) (i : ℕ) → i < length ys → drop i ys ≡ get_or ys i 0 ∷ drop (i + 1) ys
from_number ys i h = drop-cons ys i 0 h ∙ ap (λ k. get_or ys i 0 ∷ drop k ys) (sym (add-one i))

pub not_below : (n m k : ℕ) → m ≡ k → m ≤ n → nat_lt n k ≡ false
not_below n m k e h = grind (arith, e, h)

pub is_below : (n m k : ℕ) → m ≡ k → n < m → nat_lt n k ≡ true
is_below n m k e h = grind (arith, e, h)
