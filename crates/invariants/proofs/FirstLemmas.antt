-- The first item that passes, from a place on.
use Rattle.std.proofs.Common.{◌≡◌, ℕ, zero, suc, ◌+◌, ◌<◌, ◌≤◌, Bool, true, false, cond, List, [], ◌∷◌, drop, length, get_or, Some, None, sym, ap, ◌∙◌, arith}
use Rattle.std.specs.List.{position_from}
use Rattle.std.proofs.lemmas.List.{drop_all}

-- it is the one at the place
pub first_at : {A : Type 0} (t : A → Bool) (xs : List A) (i n : ℕ) (x : A) → i < length xs → x ≡ get_or xs i x → t x ≡ true → position_from t n (drop i xs) ≡ Some n
first_at t [] i n x l is h = absurd (omega (arith, l))
first_at t (y ∷ xs) zero n x l is h = ap (λ (b : Bool). cond b (Some n) (position_from t (n + 1) xs)) (ap t (sym is) ∙ h)
first_at t (y ∷ xs) (suc i) n x l is h = first_at t xs i n x (omega (arith, l)) is h

-- or a later one
pub first_later : {A : Type 0} (t : A → Bool) (xs : List A) (i n : ℕ) (x : A) → i < length xs → x ≡ get_or xs i x → t x ≡ false
    → position_from t n (drop i xs) ≡ position_from t (n + 1) (drop (i + 1) xs)
first_later t [] i n x l is h = absurd (omega (arith, l))
first_later t (y ∷ xs) zero n x l is h = ap (λ (b : Bool). cond b (Some n) (position_from t (n + 1) xs)) (ap t (sym is) ∙ h)
first_later t (y ∷ xs) (suc i) n x l is h =
    let same : suc (i + 1) ≡ suc i + 1 = omega arith in
    first_later t xs i n x (omega (arith, l)) is h ∙ ap (λ k. position_from t (n + 1) (drop k (y ∷ xs))) same

-- or none
pub first_none : {A : Type 0} (t : A → Bool) (xs : List A) (i n : ℕ) → length xs ≤ i → position_from t n (drop i xs) ≡ None
first_none t xs i n l = ap (position_from t n) (drop_all i xs l)
