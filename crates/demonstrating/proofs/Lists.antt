-- Words on lists, and what is kept of lists that are made for 1 to n.
use Rattle.std.proofs.Common.{◌≡◌, ℕ, zero, suc, ◌<◌, ◌≤◌, Bool, true, false, not, cond, List, [], ◌∷◌, ◌++◌, map, filter, flat_map, length, nat_eq, inl, inr, ⊎_elim, refl, sym, ap, ◌∙◌, append-nil, arith}
use Rattle.std.proofs.lemmas.Bool.Decides.{nat_tests}
use Rattle.std.proofs.lemmas.Grind.{flat_map-append}
use Rattle.std.proofs.lemmas.List.Elements.{filter-append}
use Rattle.rsml_syntax.specs.rules.Globals.{up_to}
use Rattle.rsml_meaning.specs.Words.{Each, IsOne}
use Rattle.rsml_meaning.proofs.Lists.{one_of_append, one_front, one_back}

pub each_passing : {A B : Type 0} (P : B → Type 0) (f : A → B) (p : A → Bool) (xs : List A) → ((x : A) → p x ≡ true → P (f x))
    → Each P (map f (filter p xs))
each_passing P f p [] h = tt
each_passing P f p (x ∷ xs) h = by_test (p x) (h x) (each_passing P f p xs h)
  where
    by_test : (b : Bool) → (b ≡ true → P (f x)) → Each P (map f (filter p xs)) → Each P (map f (cond b (x ∷ filter p xs) (filter p xs)))
    by_test true k rest = (k refl, rest)
    by_test false k rest = rest

-- one of two passes
pub one_of_two : {A : Type 0} (p : A → Bool) (x y : A) (b : Bool) → p x ≡ b → p y ≡ not b → length (filter p (x ∷ y ∷ [])) ≡ 1
one_of_two p x y b h k = by_test (p x) (p y) b h k
  where
    by_test : (m n b : Bool) → m ≡ b → n ≡ not b → length (cond m (x ∷ cond n (y ∷ []) []) (cond n (y ∷ []) [])) ≡ 1
    by_test m n true h k = rw (h, k) refl
    by_test m n false h k = rw (h, k) refl

-- 1 to n.

pub up_to_has : (n i : ℕ) → 1 ≤ i → i ≤ n → IsOne i (up_to n)
up_to_has zero i h k = absurd (omega arith)
up_to_has (suc n) i h k = by_test (nat_eq i (suc n)) refl (up_to_has n i h)
  where
    by_test : (b : Bool) → nat_eq i (suc n) ≡ b → (i ≤ n → IsOne i (up_to n)) → IsOne i (up_to n ++ (suc n ∷ []))
    by_test true e before = one_back i (up_to n) (suc n ∷ []) (inl (grind (arith, nat_tests)))
    by_test false e before = one_front i (up_to n) (suc n ∷ []) (before (grind (arith, nat_tests)))

up_to_within : (n i : ℕ) → IsOne i (up_to n) → i ≤ n
up_to_within zero i m = absurd m
up_to_within (suc n) i m = ⊎_elim (λ l. let k = up_to_within n i l in omega (arith, k)) here (one_of_append i (up_to n) (suc n ∷ []) m)
  where
    here : IsOne i (suc n ∷ []) → i ≤ suc n
    here (inl e) = omega (arith, e)
    here (inr m) = absurd m

-- what is kept of the last list stands behind what is kept of the others
last_kept : {A : Type 0} (f : ℕ → List A) (p : A → Bool) (n : ℕ)
    → filter p (flat_map f (up_to (suc n))) ≡ filter p (flat_map f (up_to n)) ++ filter p (f (suc n))
last_kept f p n =
    ap (filter p) (flat_map-append f (up_to n) (suc n ∷ []) ∙ ap (λ xs. flat_map f (up_to n) ++ xs) (append-nil (f (suc n))))
    ∙ filter-append p (flat_map f (up_to n)) (f (suc n))

none_kept : {A : Type 0} (f : ℕ → List A) (p : A → Bool) (n : ℕ) → ((j : ℕ) → j ≤ n → filter p (f j) ≡ [])
    → filter p (flat_map f (up_to n)) ≡ []
none_kept f p zero h = refl
none_kept f p (suc n) h = last_kept f p n ∙ (λ k. none_kept f p n (λ j l. h j (omega arith)) k ++ h (suc n) (omega arith) k)

differ : (m n : ℕ) → m < n → nat_eq m n ≡ false
differ m n h = grind (arith, nat_tests)

differ_back : (m n : ℕ) → m < n → nat_eq n m ≡ false
differ_back m n h = grind (arith, nat_tests)

-- where nothing is kept of the other lists, what is kept is what is kept of this one
pub only_one_kept : {A : Type 0} (f : ℕ → List A) (p : A → Bool) (n i : ℕ) → IsOne i (up_to n)
    → ((j : ℕ) → nat_eq j i ≡ false → filter p (f j) ≡ [])
    → filter p (flat_map f (up_to n)) ≡ filter p (f i)
only_one_kept f p zero i m h = absurd m
only_one_kept f p (suc n) i m h =
    last_kept f p n ∙ ⊎_elim (λ l. before l (only_one_kept f p n i l h)) here (one_of_append i (up_to n) (suc n ∷ []) m)
  where
    before : IsOne i (up_to n) → filter p (flat_map f (up_to n)) ≡ filter p (f i)
        → filter p (flat_map f (up_to n)) ++ filter p (f (suc n)) ≡ filter p (f i)
    before l e =
        let within = up_to_within n i l in
        (λ k. e k ++ h (suc n) (differ_back i (suc n) (omega (arith, within))) k) ∙ append-nil (filter p (f i))

    here : IsOne i (suc n ∷ []) → filter p (flat_map f (up_to n)) ++ filter p (f (suc n)) ≡ filter p (f i)
    here (inl e) =
        (λ k. none_kept f p n (λ j l. h j (differ j i (omega (arith, e)))) k ++ filter p (f (suc n))) ∙ ap (λ j. filter p (f j)) (sym e)
    here (inr m) = absurd m
