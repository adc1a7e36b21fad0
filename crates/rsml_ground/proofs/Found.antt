-- The first item that passes a test, and the item that a list of lists has at a place.
use Rattle.std.proofs.Common.{◌≡◌, ℕ, zero, suc, ◌+◌, ◌<◌, ◌≤◌, Bool, true, false, cond, List, [], ◌∷◌, ◌++◌, map, flat_map, length, Some, ◌⊎◌, inl, inr, ⊎_elim, refl, sym, ap, ◌∙◌, arith, slice_get, true≢false, length-append}
use Rattle.std.specs.List.{position_from}
use Rattle.rsml_meaning.specs.Words.{IsOne}
use Rattle.rsml_meaning.proofs.Globals.{position_from_on}

-- The first item of a list that passes the test, and its place.
pub record IsFirst {A : Type 0} (t : A → Bool) (i : ℕ) (xs : List A) : Type 0 where
  pub place : ℕ
  pub is : position_from t i xs ≡ Some (i + place)
  pub below : place < length xs
  pub item : A
  pub there : slice_get xs place ≡ Some item
  pub among : IsOne item xs
  pub passes : t item ≡ true

first_here : {A : Type 0} (t : A → Bool) (i : ℕ) (x : A) (xs : List A) → t x ≡ true → IsFirst t i (x ∷ xs)
first_here t i x xs e = record {
  place = 0;
  is = ap (λ b. cond b (Some i) (position_from t (i + 1) xs)) e ∙ ap (λ n. Some n) (omega arith);
  below = omega arith;
  item = x;
  there = refl;
  among = inl refl;
  passes = e;
}

first_later : {A : Type 0} (t : A → Bool) (i : ℕ) (x : A) (xs : List A) → t x ≡ false → IsFirst t (i + 1) xs → IsFirst t i (x ∷ xs)
first_later t i x xs e f =
    let l = f.below in
    record {
      place = suc f.place;
      is = ap (λ b. cond b (Some i) (position_from t (i + 1) xs)) e ∙ f.is ∙ ap (λ n. Some n) (omega arith);
      below = omega (arith, l);
      item = f.item;
      there = f.there;
      among = inr f.among;
      passes = f.passes;
    }

-- where an item passes, there is a first one
pub first_is : {A : Type 0} (t : A → Bool) (i : ℕ) (xs : List A) (x : A) → IsOne x xs → t x ≡ true → IsFirst t i xs
first_is t i [] x m e = absurd m
first_is {A} t i (y ∷ ys) x m e = by_test (t y) refl m (λ k. first_is t (i + 1) ys x k e)
  where
    by_test : (b : Bool) → t y ≡ b → (x ≡ y) ⊎ IsOne x ys → (IsOne x ys → IsFirst t (i + 1) ys) → IsFirst t i (y ∷ ys)
    by_test true k m later = first_here t i y ys k
    by_test false k (inl same) later = absurd (true≢false (sym e ∙ ap t same ∙ k))
    by_test false k (inr m) later = first_later t i y ys k (later m)

-- what is first in a list stays first where more stand behind it
pub first_in_front : {A : Type 0} (t : A → Bool) (i : ℕ) (xs ys : List A) (p : ℕ) → position_from t i xs ≡ Some (i + p) → position_from t i (xs ++ ys) ≡ Some (i + p)
first_in_front t i [] ys p e = cc
first_in_front t i (x ∷ xs) ys p e = by_test (t x) p e (λ q. first_in_front t (i + 1) xs ys q)
  where
    by_test : (b : Bool) (p : ℕ) → cond b (Some i) (position_from t (i + 1) xs) ≡ Some (i + p)
        → ((q : ℕ) → position_from t (i + 1) xs ≡ Some (i + 1 + q) → position_from t (i + 1) (xs ++ ys) ≡ Some (i + 1 + q)) → cond b (Some i) (position_from t (i + 1) (xs ++ ys)) ≡ Some (i + p)
    by_test true p e rest = e
    by_test false zero e rest = absurd (let l = position_from_on t (i + 1) (i + 0) xs e in omega (arith, l))
    by_test false (suc p) e rest = rest p (e ∙ ap (λ n. Some n) (omega arith)) ∙ ap (λ n. Some n) (omega arith)

pub get_in_front : {A : Type 0} (xs ys : List A) (p : ℕ) (x : A) → slice_get xs p ≡ Some x → slice_get (xs ++ ys) p ≡ Some x
get_in_front [] ys p x h = cc
get_in_front (z ∷ xs) ys zero x h = h
get_in_front (z ∷ xs) ys (suc p) x h = get_in_front xs ys p x h

-- the first of what is made of the items is made of the first
pub first_of_map : {A B : Type 0} (t : B → Bool) (f : A → B) (i : ℕ) (xs : List A) → position_from t i (map f xs) ≡ position_from (λ x. t (f x)) i xs
first_of_map t f i [] = refl
first_of_map t f i (x ∷ xs) = ap (λ o. cond (t (f x)) (Some i) o) (first_of_map t f (i + 1) xs)

-- An item of a list of lists stands in one of them.
pub record IsMade {A B : Type 0} (f : A → List B) (xs : List A) (n : ℕ) (y : B) : Type 0 where
  pub before : List A
  pub item : A
  pub after : List A
  pub is : xs ≡ before ++ (item ∷ after)
  pub among : IsOne y (f item)
  pub start : length (flat_map f before) ≤ n

made_later : {A B : Type 0} (f : A → List B) (x : A) (xs : List A) (n k : ℕ) (y : B) → length (f x) + k ≡ n → IsMade f xs k y → IsMade f (x ∷ xs) n y
made_later f x xs n k y e m =
    let l = length-append (f x) (flat_map f m.before) in
    let s = m.start in
    record { before = x ∷ m.before; item = m.item; after = m.after; is = ap (λ zs. x ∷ zs) m.is; among = m.among; start = omega (arith, e, l, s) }

pub made_at : {A B : Type 0} (f : A → List B) (xs : List A) (n : ℕ) (y : B) → slice_get (flat_map f xs) n ≡ Some y → IsMade f xs n y
made_at f [] n y h = cc
made_at {A} {B} f (x ∷ xs) n y h = ⊎_elim
    (λ m. record { before = []; item = x; after = xs; is = refl; among = m; start = omega arith })
    (λ r. made_later f x xs n r.0 y r.1 (made_at f xs r.0 y r.2))
    (split (f x) (flat_map f xs) n h)
  where
    split : (ys zs : List B) (n : ℕ) → slice_get (ys ++ zs) n ≡ Some y → IsOne y ys ⊎ ((k : ℕ) × (length ys + k ≡ n) × (slice_get zs k ≡ Some y))
    split [] zs n h = inr (n, omega arith, h)
    split (z ∷ ys) zs zero h = inl (inl (let same : z ≡ y = cc in sym same))
    split (z ∷ ys) zs (suc n) h = ⊎_elim (λ m. inl (inr m)) (λ r. let e = r.1 in inr (r.0, omega (arith, e), r.2)) (split ys zs n h)

-- an item of a list of lists is one of some list
pub made_one : {A B : Type 0} (f : A → List B) (xs : List A) (y : B) → IsOne y (flat_map f xs) → (x : A) × IsOne x xs × IsOne y (f x)
made_one f [] y m = absurd m
made_one {A} {B} f (x ∷ xs) y m = ⊎_elim (λ k. (x, inl refl, k)) (λ k. let r = made_one f xs y k in (r.0, inr r.1, r.2)) (split (f x) m)
  where
    split : (ys : List B) → IsOne y (ys ++ flat_map f xs) → IsOne y ys ⊎ IsOne y (flat_map f xs)
    split [] m = inr m
    split (z ∷ ys) (inl e) = inl (inl e)
    split (z ∷ ys) (inr m) = ⊎_elim (λ k. inl (inr k)) (λ k. inr k) (split ys m)
