-- Lists that are gone over item by item.
use Rattle.std.proofs.Common.{◌≡◌, ℕ, zero, suc, ◌+◌, ◌<◌, ◌≤◌, List, [], ◌∷◌, ◌++◌, map, length, take, get_or, Option, Some, None, unwrap_or, ◌⊎◌, inl, inr, refl, sym, ap, ◌∙◌, subst, slice_get, arith, not-suc-le-zero, le_of_suc-le-suc}
use Rattle.std.specs.List.{AllZip}
use Rattle.rsml_syntax.specs.rules.Globals.{up_to}
use Rattle.rsml_meaning.specs.Words.{Each, numbered_from, item_of}

pub none_some : {A : Type 0} {p : A} → None ≡ Some p → ⊥
none_some {A} h = subst is_no h tt
  where
    is_no : Option A → Type 0
    is_no None = Unit {0}
    is_no (Some p) = ⊥

pub some_same : {A : Type 0} {a b : A} → Some a ≡ Some b → a ≡ b
some_same {A} {a} {b} h = ap (λ o. unwrap_or o a) h

pub front : {A : Type 0} (xs ys : List A) (k : ℕ) (x : A) → slice_get xs k ≡ Some x → slice_get (xs ++ ys) k ≡ Some x
front [] ys k x h = absurd (none_some h)
front (y ∷ xs) ys zero x h = h
front (y ∷ xs) ys (suc k) x h = front xs ys k x h

-- an item of a list and one more is one of the list, or that one
pub either : {A : Type 0} (xs : List A) (y : A) (k : ℕ) (x : A) → slice_get (xs ++ (y ∷ [])) k ≡ Some x → (slice_get xs k ≡ Some x) ⊎ ((k ≡ length xs) × (y ≡ x))
either [] y zero x h = inr (refl, some_same h)
either [] y (suc k) x h = absurd (none_some h)
either (z ∷ xs) y zero x h = inl h
either (z ∷ xs) y (suc k) x h = elim (either xs y k x h) [ inl a ↦ inl a | inr b ↦ inr (ap suc b.0, b.1) ]

pub there_is : {A : Type 0} (xs : List A) (k : ℕ) → k < length xs → (x : A) × (slice_get xs k ≡ Some x)
there_is [] k l = absurd (not-suc-le-zero l)
there_is (x ∷ xs) zero l = (x, refl)
there_is (x ∷ xs) (suc k) l = there_is xs k (le_of_suc-le-suc l)

pub get_below : {A : Type 0} (xs : List A) (k : ℕ) (x : A) → slice_get xs k ≡ Some x → k < length xs
get_below [] k x h = absurd (none_some h)
get_below (y ∷ xs) zero x h = omega arith
get_below (y ∷ xs) (suc k) x h = omega (arith, get_below xs k x h)

pub item_is : {A : Type 0} (xs : List A) (n : ℕ) (x : A) → n < length xs → x ≡ get_or xs n x → slice_get xs n ≡ Some x
item_is [] n x l e = absurd (not-suc-le-zero l)
item_is (y ∷ xs) zero x l e = ap Some (sym e)
item_is (y ∷ xs) (suc n) x l e = item_is xs n x (le_of_suc-le-suc l) e

pub take_more : {A : Type 0} (xs : List A) (k : ℕ) (x : A) → slice_get xs k ≡ Some x → take (suc k) xs ≡ take k xs ++ (x ∷ [])
take_more [] k x h = absurd (none_some h)
take_more (y ∷ xs) zero x h = ap (λ z. z ∷ []) (some_same h)
take_more (y ∷ xs) (suc k) x h = ap (λ zs. y ∷ zs) (take_more xs k x h)

pub append_nil : {A : Type 0} (xs : List A) → xs ++ [] ≡ xs
append_nil [] = refl
append_nil (x ∷ xs) = ap (λ zs. x ∷ zs) (append_nil xs)

pub item_here : {A : Type 0} (xs : List A) (k : ℕ) (d : A) → k < length xs → slice_get xs k ≡ Some (get_or xs k d)
item_here [] k d l = absurd (not-suc-le-zero l)
item_here (x ∷ xs) zero d l = refl
item_here (x ∷ xs) (suc k) d l = item_here xs k d (le_of_suc-le-suc l)

-- What holds of each.

pub each_to : {A : Type 0} (P Q : A → Type 0) → ((x : A) → P x → Q x) → (xs : List A) → Each P xs → Each Q xs
each_to P Q f [] e = tt
each_to P Q f (x ∷ xs) e = (f x e.0, each_to P Q f xs e.1)

pub each_at : {A : Type 0} (P : A → Type 0) (xs : List A) → Each P xs → (k : ℕ) (x : A) → slice_get xs k ≡ Some x → P x
each_at P [] e k x h = absurd (none_some h)
each_at P (y ∷ xs) e zero x h = subst P (some_same h) e.0
each_at P (y ∷ xs) e (suc k) x h = each_at P xs e.1 k x h

pub each_here : {A : Type 0} (P : A → Type 0) (xs : List A) (k : ℕ) (d : A) → Each P xs → k < length xs → P (get_or xs k d)
each_here P [] k d e l = absurd (not-suc-le-zero l)
each_here P (x ∷ xs) zero d e l = e.0
each_here P (x ∷ xs) (suc k) d e l = each_here P xs k d e.1 (le_of_suc-le-suc l)

each_last : {A : Type 0} (P : A → Type 0) (xs : List A) (x : A) → Each P (xs ++ (x ∷ [])) → P x
each_last P [] x e = e.0
each_last P (y ∷ xs) x e = each_last P xs x e.1

each_first : {A : Type 0} (P : A → Type 0) (xs ys : List A) → Each P (xs ++ ys) → Each P xs
each_first P [] ys e = tt
each_first P (x ∷ xs) ys e = (e.0, each_first P xs ys e.1)

-- of each number from 1 on
pub each_up_to : (P : ℕ → Type 0) (n k : ℕ) → Each P (up_to n) → k < n → P (k + 1)
each_up_to P zero k e l = absurd (not-suc-le-zero l)
each_up_to P (suc n) k e l = elim (last_or_less n k l) [ inl same ↦ subst P (let q : suc n ≡ k + 1 = omega (arith, same) in q) (each_last P (up_to n) (suc n) e) | inr less ↦ each_up_to P n k (each_first P (up_to n) (suc n ∷ []) e) less ]
  where
    last_or_less : (n k : ℕ) → k < suc n → (k ≡ n) ⊎ (k < n)
    last_or_less zero zero l = inl refl
    last_or_less zero (suc k) l = absurd (not-suc-le-zero (le_of_suc-le-suc l))
    last_or_less (suc n) zero l = inr (omega arith)
    last_or_less (suc n) (suc k) l = elim (last_or_less n k (le_of_suc-le-suc l)) [ inl a ↦ inl (ap suc a) | inr b ↦ inr (omega (arith, b)) ]

pub each_numbered : {A : Type 0} (P : A → Type 0) (n : ℕ) (xs : List A) → Each (λ (c : ℕ × A). P (item_of c)) (numbered_from n xs) → Each P xs
each_numbered P n [] e = tt
each_numbered P n (x ∷ xs) e = (e.0, each_numbered P (suc n) xs e.1)

-- What holds of pairs.

pub zip_to : {A B : Type 0} (P Q : A → B → Type 0) → ((x : A) (y : B) → P x y → Q x y) → (xs : List A) (ys : List B) → AllZip P xs ys → AllZip Q xs ys
zip_to P Q f [] [] e = tt
zip_to P Q f (x ∷ xs) (y ∷ ys) e = (f x y e.0, zip_to P Q f xs ys e.1)
zip_to P Q f [] (y ∷ ys) e = elim e [ ]
zip_to P Q f (x ∷ xs) [] e = elim e [ ]

pub zip_more : {A B : Type 0} (P : A → B → Type 0) (xs : List A) (ys : List B) (x : A) (y : B) → AllZip P xs ys → P x y → AllZip P (xs ++ (x ∷ [])) (ys ++ (y ∷ []))
zip_more P [] [] x y e h = (h, tt)
zip_more P (a ∷ xs) (b ∷ ys) x y e h = (e.0, zip_more P xs ys x y e.1 h)
zip_more P [] (b ∷ ys) x y e h = elim e [ ]
zip_more P (a ∷ xs) [] x y e h = elim e [ ]

pub zip_length : {A B : Type 0} (P : A → B → Type 0) (xs : List A) (ys : List B) → AllZip P xs ys → length xs ≡ length ys
zip_length P [] [] e = refl
zip_length P (x ∷ xs) (y ∷ ys) e = ap suc (zip_length P xs ys e.1)
zip_length P [] (y ∷ ys) e = elim e [ ]
zip_length P (x ∷ xs) [] e = elim e [ ]

-- what holds of a pair by what holds of its first holds of its second
pub each_zip : {A B : Type 0} (P : A → B → Type 0) (Q : A → Type 0) (R : B → Type 0) → ((x : A) (y : B) → Q x → P x y → R y) → (xs : List A) (ys : List B) → Each Q xs → AllZip P xs ys → Each R ys
each_zip P Q R f [] [] q e = tt
each_zip P Q R f (x ∷ xs) (y ∷ ys) q e = (f x y q.0 e.0, each_zip P Q R f xs ys q.1 e.1)
each_zip P Q R f [] (y ∷ ys) q e = elim e [ ]
each_zip P Q R f (x ∷ xs) [] q e = elim e [ ]

-- one turn of a loop over a list that makes an item of each
pub zip_turn_at : {A B : Type 0} (P Q : A → B → Type 0) → ((x : A) (y : B) → P x y → Q x y) → (xs : List A) (n : ℕ) (x : A) (y : B) (ys zs : List B) → zs ≡ ys ++ (y ∷ []) → slice_get xs n ≡ Some x → AllZip P (take n xs) ys → Q x y → AllZip Q (take (n + 1) xs) zs
zip_turn_at P Q f xs n x y ys zs e h t q =
    let next : n + 1 ≡ suc n = omega arith in
    let new = zip_more Q (take n xs) ys x y (zip_to P Q f (take n xs) ys t) q in
    subst (λ z. AllZip Q (take z xs) zs) (sym next) (subst (λ z. AllZip Q (take (suc n) xs) z) (sym e) (subst (λ z. AllZip Q z (ys ++ (y ∷ []))) (sym (take_more xs n x h)) new))

pub zip_turn : {A B : Type 0} (P Q : A → B → Type 0) → ((x : A) (y : B) → P x y → Q x y) → (xs : List A) (n : ℕ) (x : A) (y : B) (ys zs : List B) → zs ≡ ys ++ (y ∷ []) → n < length xs → x ≡ get_or xs n x → AllZip P (take n xs) ys → Q x y → AllZip Q (take (n + 1) xs) zs
zip_turn P Q f xs n x y ys zs e l is t q = zip_turn_at P Q f xs n x y ys zs e (item_is xs n x l is) t q

-- one turn of a loop over the numbers from 1 on
pub up_to_turn : {B : Type 0} (P Q : ℕ → B → Type 0) → ((x : ℕ) (y : B) → P x y → Q x y) → (n : ℕ) (y : B) (ys zs : List B) → zs ≡ ys ++ (y ∷ []) → AllZip P (up_to n) ys → Q (n + 1) y → AllZip Q (up_to (n + 1)) zs
up_to_turn P Q f n y ys zs e t q =
    let next : n + 1 ≡ suc n = omega arith in
    let new = zip_more Q (up_to n) ys (suc n) y (zip_to P Q f (up_to n) ys t) (subst (λ z. Q z y) next q) in
    subst (λ z. AllZip Q (up_to z) zs) (sym next) (subst (λ z. AllZip Q (up_to (suc n)) z) (sym e) new)

pub zip_numbered : {A B : Type 0} (P : A → B → Type 0) (n : ℕ) (xs : List A) (ys : List B) → AllZip P xs ys → AllZip (λ (c : ℕ × A) (y : B). P (item_of c) y) (numbered_from n xs) ys
zip_numbered P n [] [] e = tt
zip_numbered P n (x ∷ xs) (y ∷ ys) e = (e.0, zip_numbered P (suc n) xs ys e.1)
zip_numbered P n [] (y ∷ ys) e = elim e [ ]
zip_numbered P n (x ∷ xs) [] e = elim e [ ]

-- Maps.

pub map_append : {A B : Type 0} (f : A → B) (xs ys : List A) → map f (xs ++ ys) ≡ map f xs ++ map f ys
map_append f [] ys = refl
map_append f (x ∷ xs) ys = ap (λ zs. f x ∷ zs) (map_append f xs ys)

pub get_map : {A B : Type 0} (f : A → B) (xs : List A) (k : ℕ) (x : A) → slice_get xs k ≡ Some x → slice_get (map f xs) k ≡ Some (f x)
get_map f [] k x h = absurd (none_some h)
get_map f (y ∷ xs) zero x h = ap (λ z. Some (f z)) (some_same h)
get_map f (y ∷ xs) (suc k) x h = get_map f xs k x h

pub map_map : {A B C : Type 0} (f : B → C) (h : A → B) (xs : List A) → map f (map h xs) ≡ map (λ x. f (h x)) xs
map_map f h [] = refl
map_map f h (x ∷ xs) = ap (λ zs. f (h x) ∷ zs) (map_map f h xs)

pub map_same : {A B : Type 0} (f h : A → B) → ((x : A) → f x ≡ h x) → (xs : List A) → map f xs ≡ map h xs
map_same f h e [] = refl
map_same f h e (x ∷ xs) = ap (λ z. z ∷ map f xs) (e x) ∙ ap (λ zs. h x ∷ zs) (map_same f h e xs)

pub length_take : {A : Type 0} (xs : List A) (n : ℕ) → n ≤ length xs → length (take n xs) ≡ n
length_take xs zero l = refl
length_take [] (suc n) l = absurd (not-suc-le-zero l)
length_take (x ∷ xs) (suc n) l = ap suc (length_take xs n (le_of_suc-le-suc l))

pub length_map : {A B : Type 0} (f : A → B) (xs : List A) → length (map f xs) ≡ length xs
length_map f [] = refl
length_map f (x ∷ xs) = ap suc (length_map f xs)
