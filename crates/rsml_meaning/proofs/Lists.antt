-- Words on tests and lists.
use Rattle.std.proofs.Common.{◌≡◌, ℕ, suc, ◌≤◌, Bool, true, false, cond, ◌&&◌, ◌||◌, List, [], ◌∷◌, ◌++◌, map, flat_map, filter, length, ◌⊎◌, inl, inr, ⊎_elim, refl, sym, ap, subst, true≢false, arith}
use Rattle.std.specs.List.{list_any, list_all}
use Rattle.std.specs.Cmp.{first_so, second_so}
use Rattle.rsml_meaning.specs.Words.{Each, IsOne, numbered_from}

-- Tests.

pub both : (a b : Bool) → a ≡ true → b ≡ true → (a && b) ≡ true
both true b h k = k
both false b h k = absurd (true≢false (sym h))

pub or_left : (a b : Bool) → a ≡ true → (a || b) ≡ true
or_left true b h = refl
or_left false b h = absurd (true≢false (sym h))

pub or_right : (a b : Bool) → b ≡ true → (a || b) ≡ true
or_right true b h = refl
or_right false b h = h

pub or_cases : (a b : Bool) → (a || b) ≡ true → (a ≡ true) ⊎ (b ≡ true)
or_cases true b h = inl refl
or_cases false b h = inr h

-- where neither is true the first is not, and the second is not
pub none_first : (a b : Bool) → (a || b) ≡ false → a ≡ false
none_first true b h = absurd (true≢false h)
none_first false b h = refl

pub none_second : (a b : Bool) → (a || b) ≡ false → b ≡ false
none_second true b h = absurd (true≢false h)
none_second false b h = h

-- a test is false where it cannot be true
pub is_false : (a : Bool) → (a ≡ true → ⊥) → a ≡ false
is_false true f = absurd (f refl)
is_false false f = refl

-- The fact holds of each item.

pub each_append : {A : Type 0} (P : A → Type 0) (xs ys : List A) → Each P xs → Each P ys → Each P (xs ++ ys)
each_append P [] ys a b = b
each_append P (x ∷ xs) ys a b = (a.0, each_append P xs ys a.1 b)

pub each_flat_map : {A B : Type 0} (P : B → Type 0) (f : A → List B) (xs : List A) → ((x : A) → IsOne x xs → Each P (f x)) → Each P (flat_map f xs)
each_flat_map P f [] h = tt
each_flat_map P f (x ∷ xs) h = each_append P (f x) (flat_map f xs) (h x (inl refl)) (each_flat_map P f xs (λ y m. h y (inr m)))

pub each_map : {A B : Type 0} (P : B → Type 0) (f : A → B) (xs : List A) → ((x : A) → P (f x)) → Each P (map f xs)
each_map P f [] h = tt
each_map P f (x ∷ xs) h = (h x, each_map P f xs h)

pub each_map_ones : {A B : Type 0} (P : B → Type 0) (f : A → B) (xs : List A) → ((x : A) → IsOne x xs → P (f x)) → Each P (map f xs)
each_map_ones P f [] h = tt
each_map_ones P f (x ∷ xs) h = (h x (inl refl), each_map_ones P f xs (λ y m. h y (inr m)))

kept : {A : Type 0} (Q : A → Type 0) (x : A) (rest : List A) (b : Bool) → (b ≡ true → Q x) → Each Q rest → Each Q (cond b (x ∷ rest) rest)
kept Q x rest true h e = (h refl, e)
kept Q x rest false h e = e

pub each_filter : {A : Type 0} (P : A → Type 0) (p : A → Bool) (xs : List A) → Each P xs → Each (λ x. P x × (p x ≡ true)) (filter p xs)
each_filter P p [] h = tt
each_filter P p (x ∷ xs) h = kept (λ y. P y × (p y ≡ true)) x (filter p xs) (p x) (λ e. (h.0, e)) (each_filter P p xs h.1)

pub each_more : {A : Type 0} (P Q : A → Type 0) → ((x : A) → P x → Q x) → (xs : List A) → Each P xs → Each Q xs
each_more P Q f [] h = tt
each_more P Q f (x ∷ xs) h = (f x h.0, each_more P Q f xs h.1)

pub each_ones : {A : Type 0} (P : A → Type 0) (xs : List A) → ((x : A) → IsOne x xs → P x) → Each P xs
each_ones P [] f = tt
each_ones P (x ∷ xs) f = (f x (inl refl), each_ones P xs (λ y m. f y (inr m)))

pub each_one : {A : Type 0} (P : A → Type 0) (xs : List A) (x : A) → Each P xs → IsOne x xs → P x
each_one P [] x h m = absurd m
each_one P (y ∷ ys) x h (inl e) = subst P (sym e) h.0
each_one P (y ∷ ys) x h (inr m) = each_one P ys x h.1 m

pub list_all_one : {A : Type 0} (p : A → Bool) (xs : List A) (x : A) → list_all p xs ≡ true → IsOne x xs → p x ≡ true
list_all_one p [] x h m = absurd m
list_all_one p (y ∷ ys) x h (inl e) = subst (λ z. p z ≡ true) (sym e) (first_so (p y) (list_all p ys) h)
list_all_one p (y ∷ ys) x h (inr m) = list_all_one p ys x (second_so (p y) (list_all p ys) h) m

-- It is one of the items.

pub one_map : {A B : Type 0} (f : A → B) (xs : List A) (x : A) → IsOne x xs → IsOne (f x) (map f xs)
one_map f [] x m = absurd m
one_map f (y ∷ ys) x (inl e) = inl (ap f e)
one_map f (y ∷ ys) x (inr m) = inr (one_map f ys x m)

pub one_of_map : {A B : Type 0} (f : A → B) (xs : List A) (y : B) → IsOne y (map f xs) → (x : A) × IsOne x xs × (y ≡ f x)
one_of_map f [] y m = absurd m
one_of_map f (x ∷ xs) y (inl e) = (x, inl refl, e)
one_of_map f (x ∷ xs) y (inr m) = let r = one_of_map f xs y m in (r.0, inr r.1, r.2)

one_cond : {A : Type 0} (x y : A) (rest : List A) (b : Bool) → (x ≡ y → b ≡ true) → (x ≡ y) ⊎ IsOne x rest → IsOne x (cond b (y ∷ rest) rest)
one_cond x y rest true h m = m
one_cond x y rest false h (inl e) = absurd (true≢false (sym (h e)))
one_cond x y rest false h (inr m) = m

pub one_filter : {A : Type 0} (p : A → Bool) (xs : List A) (x : A) → IsOne x xs → p x ≡ true → IsOne x (filter p xs)
one_filter p [] x m h = absurd m
one_filter p (y ∷ ys) x (inl e) h = one_cond x y (filter p ys) (p y) (λ d. subst (λ z. p z ≡ true) d h) (inl e)
one_filter p (y ∷ ys) x (inr m) h = one_cond x y (filter p ys) (p y) (λ d. subst (λ z. p z ≡ true) d h) (inr (one_filter p ys x m h))

pub one_front : {A : Type 0} (x : A) (xs ys : List A) → IsOne x xs → IsOne x (xs ++ ys)
one_front x [] ys m = absurd m
one_front x (z ∷ xs) ys (inl e) = inl e
one_front x (z ∷ xs) ys (inr m) = inr (one_front x xs ys m)

pub one_back : {A : Type 0} (x : A) (xs ys : List A) → IsOne x ys → IsOne x (xs ++ ys)
one_back x [] ys m = m
one_back x (z ∷ xs) ys m = inr (one_back x xs ys m)

pub one_flat_map : {A B : Type 0} (f : A → List B) (xs : List A) (x : A) (y : B) → IsOne x xs → IsOne y (f x) → IsOne y (flat_map f xs)
one_flat_map f [] x y m k = absurd m
one_flat_map f (z ∷ xs) x y (inl e) k = one_front y (f z) (flat_map f xs) (subst (λ a. IsOne y (f a)) e k)
one_flat_map f (z ∷ xs) x y (inr m) k = one_back y (f z) (flat_map f xs) (one_flat_map f xs x y m k)

-- Some item passes.

pub any_one : {A : Type 0} (p : A → Bool) (xs : List A) (x : A) → IsOne x xs → p x ≡ true → list_any p xs ≡ true
any_one p [] x m h = absurd m
any_one p (y ∷ ys) x (inl e) h = or_left (p y) (list_any p ys) (subst (λ z. p z ≡ true) e h)
any_one p (y ∷ ys) x (inr m) h = or_right (p y) (list_any p ys) (any_one p ys x m h)

pub any_some : {A : Type 0} (p : A → Bool) (xs : List A) → list_any p xs ≡ true → (x : A) × IsOne x xs × (p x ≡ true)
any_some p [] h = absurd (true≢false (sym h))
any_some p (y ∷ ys) h = ⊎_elim (λ e. (y, inl refl, e)) (λ e. let r = any_some p ys e in (r.0, inr r.1, r.2)) (or_cases (p y) (list_any p ys) h)

pub none_any : {A : Type 0} (p : A → Bool) (xs : List A) → ((x : A) → IsOne x xs → p x ≡ false) → list_any p xs ≡ false
none_any p [] h = refl
none_any p (x ∷ xs) h = λ i. h x (inl refl) i || none_any p xs (λ y m. h y (inr m)) i

-- where none passes, one item does not
pub none_one : {A : Type 0} (p : A → Bool) (xs : List A) (x : A) → list_any p xs ≡ false → IsOne x xs → p x ≡ false
none_one p [] x h m = absurd m
none_one p (y ∷ ys) x h (inl e) = subst (λ z. p z ≡ false) (sym e) (none_first (p y) (list_any p ys) h)
none_one p (y ∷ ys) x h (inr m) = none_one p ys x (none_second (p y) (list_any p ys) h) m

-- How many pass.

-- two items, at different places
abbrev pub Two : {A : Type 0} → A → A → List A → Type 0
Two t u [] = ⊥
Two t u (x ∷ xs) = ((t ≡ x) × IsOne u xs) ⊎ Two t u xs

pub two_one : {A : Type 0} (t u : A) (xs : List A) → Two t u xs → IsOne t xs × IsOne u xs
two_one t u [] h = absurd h
two_one t u (x ∷ xs) (inl p) = (inl p.0, inr p.1)
two_one t u (x ∷ xs) (inr h) = let r = two_one t u xs h in (inr r.0, inr r.1)

abbrev pub many : {A : Type 0} → (A → Bool) → List A → ℕ
many p xs = length (filter p xs)

kept_more : {A : Type 0} (n : ℕ) (b : Bool) (y : A) (r : List A) → n ≤ length r → n ≤ length (cond b (y ∷ r) r)
kept_more n true y r h = omega (arith, h)
kept_more n false y r h = h

counted : {A : Type 0} (p : A → Bool) (xs : List A) (x : A) → IsOne x xs → p x ≡ true → 1 ≤ many p xs
counted p [] x m h = absurd m
counted p (y ∷ ys) x (inl e) h = subst (λ b. 1 ≤ length (cond b (y ∷ filter p ys) (filter p ys))) (sym (subst (λ z. p z ≡ true) e h)) (omega arith)
counted p (y ∷ ys) x (inr m) h = kept_more 1 (p y) y (filter p ys) (counted p ys x m h)

pub two_counted : {A : Type 0} (p : A → Bool) (xs : List A) (t u : A) → Two t u xs → p t ≡ true → p u ≡ true → 2 ≤ many p xs
two_counted p [] t u h a b = absurd h
two_counted p (x ∷ xs) t u (inl e) a b = let r = counted p xs u e.1 b in subst (λ b. 2 ≤ length (cond b (x ∷ filter p xs) (filter p xs))) (sym (subst (λ z. p z ≡ true) e.0 a)) (omega (arith, r))
two_counted p (x ∷ xs) t u (inr h) a b = kept_more 2 (p x) x (filter p xs) (two_counted p xs t u h a b)

pub many_map : {A B : Type 0} (f : A → B) (p : B → Bool) (xs : List A) → many p (map f xs) ≡ many (λ x. p (f x)) xs
many_map f p [] = refl
many_map f p (x ∷ xs) = by_test (p (f x)) (many_map f p xs)
  where
    by_test : (b : Bool) → length (filter p (map f xs)) ≡ length (filter (λ x. p (f x)) xs) → length (cond b (f x ∷ filter p (map f xs)) (filter p (map f xs))) ≡ length (cond b (x ∷ filter (λ x. p (f x)) xs) (filter (λ x. p (f x)) xs))
    by_test true e = ap suc e
    by_test false e = e

pub filter_twice : {A : Type 0} (q p : A → Bool) (xs : List A) → filter p (filter q xs) ≡ filter (λ x. q x && p x) xs
filter_twice q p [] = refl
filter_twice q p (x ∷ xs) = by_test (q x) (filter_twice q p xs)
  where
    by_test : (b : Bool) → filter p (filter q xs) ≡ filter (λ x. q x && p x) xs → filter p (cond b (x ∷ filter q xs) (filter q xs)) ≡ cond (b && p x) (x ∷ filter (λ x. q x && p x) xs) (filter (λ x. q x && p x) xs)
    by_test true e = ap (λ r. cond (p x) (x ∷ r) r) e
    by_test false e = e

-- tests that agree on the items keep the same
pub filter_same : {A : Type 0} (p q : A → Bool) (xs : List A) → ((x : A) → IsOne x xs → p x ≡ q x) → filter p xs ≡ filter q xs
filter_same p q [] h = refl
filter_same p q (x ∷ xs) h = λ i. cond (h x (inl refl) i) (x ∷ filter_same p q xs (λ y m. h y (inr m)) i) (filter_same p q xs (λ y m. h y (inr m)) i)

-- two tests are one where each follows from the other
pub same_truth : (a b : Bool) → (a ≡ true → b ≡ true) → (b ≡ true → a ≡ true) → a ≡ b
same_truth true b f g = sym (f refl)
same_truth false true f g = g refl
same_truth false false f g = refl

-- Lists that are put together.

pub one_of_append : {A : Type 0} (x : A) (xs ys : List A) → IsOne x (xs ++ ys) → IsOne x xs ⊎ IsOne x ys
one_of_append x [] ys m = inr m
one_of_append x (z ∷ xs) ys (inl e) = inl (inl e)
one_of_append x (z ∷ xs) ys (inr m) = ⊎_elim (λ l. inl (inr l)) (λ r. inr r) (one_of_append x xs ys m)

pub all_append : {A : Type 0} (p : A → Bool) (xs ys : List A) → list_all p xs ≡ true → list_all p ys ≡ true → list_all p (xs ++ ys) ≡ true
all_append p [] ys h k = k
all_append p (x ∷ xs) ys h k = both (p x) (list_all p (xs ++ ys)) (first_so (p x) (list_all p xs) h) (all_append p xs ys (second_so (p x) (list_all p xs) h) k)

pub any_front : {A : Type 0} (p : A → Bool) (xs ys : List A) → list_any p xs ≡ true → list_any p (xs ++ ys) ≡ true
any_front p [] ys h = absurd (true≢false (sym h))
any_front p (x ∷ xs) ys h = ⊎_elim (λ e. or_left (p x) (list_any p (xs ++ ys)) e) (λ e. or_right (p x) (list_any p (xs ++ ys)) (any_front p xs ys e)) (or_cases (p x) (list_any p xs) h)

pub any_back : {A : Type 0} (p : A → Bool) (xs ys : List A) → list_any p ys ≡ true → list_any p (xs ++ ys) ≡ true
any_back p [] ys h = h
any_back p (x ∷ xs) ys h = or_right (p x) (list_any p (xs ++ ys)) (any_back p xs ys h)

-- Numbered items.

pub each_numbered : {A B : Type 0} (P : B → Type 0) (f : ℕ × A → B) (n : ℕ) (xs : List A) → ((n : ℕ) (x : A) → IsOne x xs → P (f (n, x))) → Each P (map f (numbered_from n xs))
each_numbered P f n [] h = tt
each_numbered P f n (x ∷ xs) h = (h n x (inl refl), each_numbered P f (suc n) xs (λ k y m. h k y (inr m)))

pub each_numbered_flat : {A B : Type 0} (P : B → Type 0) (f : ℕ × A → List B) (n : ℕ) (xs : List A) → ((n : ℕ) (x : A) → IsOne x xs → Each P (f (n, x))) → Each P (flat_map f (numbered_from n xs))
each_numbered_flat P f n [] h = tt
each_numbered_flat P f n (x ∷ xs) h = each_append P (f (n, x)) (flat_map f (numbered_from (suc n) xs)) (h n x (inl refl)) (each_numbered_flat P f (suc n) xs (λ k y m. h k y (inr m)))
