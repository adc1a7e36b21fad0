-- Words on lists.
use Rattle.std.proofs.Common.{◌≡◌, ℕ, zero, suc, ◌+◌, ◌<◌, Bool, true, false, ◌&&◌, List, [], ◌∷◌, ◌++◌, map, length, zip, Some, inl, inr, refl, sym, ap, ◌∙◌, subst, slice_get, get_or, drop, flat_map, add-one, arith}
use Rattle.std.specs.List.{list_all, AllZip}
use Rattle.std.proofs.lemmas.Option.{same_Some}
use Rattle.rsml_syntax.proofs.Clean.{each_append}
use Rattle.rsml_meaning.specs.Words.{Each, IsOne}

-- what stands at a place is one of the items
pub one_at : {A : Type 0} (xs : List A) (i : ℕ) (x : A) → slice_get xs i ≡ Some x → IsOne x xs
one_at [] i x h = absurd (let no : ⊥ = cc in no)
one_at (y ∷ xs) zero x h = inl (sym (same_Some y x h))
one_at (y ∷ xs) (suc i) x h = inr (one_at xs i x h)

pub place_of_one : {A : Type 0} (xs : List A) (x : A) → IsOne x xs → (i : ℕ) × (slice_get xs i ≡ Some x)
place_of_one [] x m = absurd m
place_of_one (y ∷ xs) x (inl e) = (0, ap (λ z. Some z) (sym e))
place_of_one (y ∷ xs) x (inr m) = let r = place_of_one xs x m in (suc r.0, r.1)

pub get_within : {A : Type 0} (xs : List A) (i : ℕ) (x : A) → slice_get xs i ≡ Some x → i < length xs
get_within [] i x h = absurd (let no : ⊥ = cc in no)
get_within (y ∷ xs) zero x h = omega arith
get_within (y ∷ xs) (suc i) x h = let l = get_within xs i x h in omega (arith, l)

pub within_get : {A : Type 0} (xs : List A) (i : ℕ) → i < length xs → (x : A) × (slice_get xs i ≡ Some x)
within_get [] i h = absurd (omega (arith, h))
within_get (y ∷ xs) zero h = (y, refl)
within_get (y ∷ xs) (suc i) h = within_get xs i (omega (arith, h))

pub get_map : {A B : Type 0} (f : A → B) (xs : List A) (i : ℕ) (x : A) → slice_get xs i ≡ Some x → slice_get (map f xs) i ≡ Some (f x)
get_map f [] i x h = absurd (let no : ⊥ = cc in no)
get_map f (y ∷ xs) zero x h = ap (λ z. Some (f z)) (same_Some y x h)
get_map f (y ∷ xs) (suc i) x h = get_map f xs i x h

pub get_of_map : {A B : Type 0} (f : A → B) (xs : List A) (i : ℕ) (y : B) → slice_get (map f xs) i ≡ Some y → (x : A) × (slice_get xs i ≡ Some x) × (f x ≡ y)
get_of_map f [] i y h = absurd (let no : ⊥ = cc in no)
get_of_map f (x ∷ xs) zero y h = (x, refl, same_Some (f x) y h)
get_of_map f (x ∷ xs) (suc i) y h = get_of_map f xs i y h

pub get_zip : {A B : Type 0} (xs : List A) (ys : List B) (i : ℕ) (x : A) (y : B) → slice_get xs i ≡ Some x → slice_get ys i ≡ Some y → slice_get (zip xs ys) i ≡ Some (x, y)
get_zip [] ys i x y h k = absurd (let no : ⊥ = cc in no)
get_zip (a ∷ xs) [] i x y h k = absurd (let no : ⊥ = cc in no)
get_zip (a ∷ xs) (b ∷ ys) zero x y h k = ap (λ z. Some (z, b)) (same_Some a x h) ∙ ap (λ z. Some (x, z)) (same_Some b y k)
get_zip (a ∷ xs) (b ∷ ys) (suc i) x y h k = get_zip xs ys i x y h k

pub get_of_zip : {A B : Type 0} (xs : List A) (ys : List B) (i : ℕ) (z : A × B) → slice_get (zip xs ys) i ≡ Some z → (slice_get xs i ≡ Some z.0) × (slice_get ys i ≡ Some z.1)
get_of_zip [] ys i z h = absurd (let no : ⊥ = cc in no)
get_of_zip (a ∷ xs) [] i z h = absurd (let no : ⊥ = cc in no)
get_of_zip {A} {B} (a ∷ xs) (b ∷ ys) zero z h = let e : (a, b) ≡ z = same_Some (a, b) z h in (ap (λ (w : A × B). Some w.0) e, ap (λ (w : A × B). Some w.1) e)
get_of_zip (a ∷ xs) (b ∷ ys) (suc i) z h = get_of_zip xs ys i z h

-- lists with the same items at each place are one
pub same_items : {A : Type 0} (xs ys : List A) → length xs ≡ length ys → ((i : ℕ) → slice_get xs i ≡ slice_get ys i) → xs ≡ ys
same_items [] [] l h = refl
same_items [] (y ∷ ys) l h = absurd (omega (arith, l))
same_items (x ∷ xs) [] l h = absurd (omega (arith, l))
same_items (x ∷ xs) (y ∷ ys) l h = λ i. same_Some x y (h 0) i ∷ same_items xs ys (omega (arith, l)) (λ j. h (suc j)) i

-- all pass where the item at each place does
pub all_pass : {A : Type 0} (t : A → Bool) (xs : List A) → ((i : ℕ) (x : A) → slice_get xs i ≡ Some x → t x ≡ true) → list_all t xs ≡ true
all_pass t [] h = refl
all_pass t (x ∷ xs) h = λ i. h 0 x refl i && all_pass t xs (λ j y k. h (suc j) y k) i

-- where all others pass, the item at one place decides
pub one_decides : {A : Type 0} (t : A → Bool) (xs : List A) (k : ℕ) (z : A) → slice_get xs k ≡ Some z → ((i : ℕ) (x : A) → slice_get xs i ≡ Some x → (i ≡ k → ⊥) → t x ≡ true) → list_all t xs ≡ t z
one_decides t [] k z h f = absurd (let no : ⊥ = cc in no)
one_decides t (x ∷ xs) zero z h f =
    ap (λ b. t x && b) (all_pass t xs (λ j y e. f (suc j) y e (λ q. omega (arith, q)))) ∙ and_true (t x) ∙ ap t (same_Some x z h)
  where
    and_true : (b : Bool) → (b && true) ≡ b
    and_true true = refl
    and_true false = refl
one_decides t (x ∷ xs) (suc k) z h f =
    ap (λ b. b && list_all t xs) (f 0 x refl (λ q. omega (arith, q))) ∙ one_decides t xs k z h (λ i y e no. f (suc i) y e (λ q. no (omega (arith, q))))

-- Two lists side by side.

pub beside : {A B : Type 0} (R : A → B → Type 0) (xs : List A) (ys : List B) (i : ℕ) (y : B) → AllZip R xs ys → slice_get ys i ≡ Some y → (x : A) × (slice_get xs i ≡ Some x) × R x y
beside R [] [] i y h k = absurd (let no : ⊥ = cc in no)
beside R (x ∷ xs) (z ∷ ys) zero y h k = (x, refl, subst (λ w. R x w) (same_Some z y k) h.0)
beside R (x ∷ xs) (z ∷ ys) (suc i) y h k = beside R xs ys i y h.1 k
beside R [] (z ∷ ys) i y h k = elim h [ ]
beside R (x ∷ xs) [] i y h k = elim h [ ]

pub as_long : {A B : Type 0} (R : A → B → Type 0) (xs : List A) (ys : List B) → AllZip R xs ys → length xs ≡ length ys
as_long R [] [] h = refl
as_long R (x ∷ xs) (y ∷ ys) h = ap suc (as_long R xs ys h.1)
as_long R [] (y ∷ ys) h = elim h [ ]
as_long R (x ∷ xs) [] h = elim h [ ]

pub zip_push : {A B : Type 0} (R : A → B → Type 0) (xs : List A) (ys : List B) (x : A) (y : B) → AllZip R xs ys → R x y → AllZip R (xs ++ x ∷ []) (ys ++ y ∷ [])
zip_push R [] [] x y h k = (k, tt)
zip_push R (a ∷ xs) (b ∷ ys) x y h k = (h.0, zip_push R xs ys x y h.1 k)
zip_push R [] (b ∷ ys) x y h k = elim h [ ]
zip_push R (a ∷ xs) [] x y h k = elim h [ ]

-- Loops over items.

drop_suc : {A : Type 0} (cs : List A) (i : ℕ) (c : A) → i < length cs → c ≡ get_or cs i c → drop i cs ≡ c ∷ drop (suc i) cs
drop_suc [] i c h e = absurd (omega (arith, h))
drop_suc (d ∷ cs) zero c h e = ap (λ x. x ∷ cs) (sym e)
drop_suc (d ∷ cs) (suc i) c h e = drop_suc cs i c (omega (arith, h)) e

pub drop_at : {A : Type 0} (cs : List A) (i : ℕ) (c : A) → i < length cs → c ≡ get_or cs i c → drop i cs ≡ c ∷ drop (i + 1) cs
drop_at cs i c h e = drop_suc cs i c h e ∙ ap (λ k. c ∷ drop k cs) (sym (add-one i))

pub get_item : {A : Type 0} (cs : List A) (i : ℕ) (c : A) → i < length cs → c ≡ get_or cs i c → slice_get cs i ≡ Some c
get_item [] i c h e = absurd (omega (arith, h))
get_item (d ∷ cs) zero c h e = ap (λ x. Some x) (sym e)
get_item (d ∷ cs) (suc i) c h e = get_item cs i c (omega (arith, h)) e

pub each_flat_map : {A B : Type 0} (P : B → Type 0) (f : A → List B) (xs : List A) → ((x : A) → IsOne x xs → Each P (f x)) → Each P (flat_map f xs)
each_flat_map P f [] h = tt
each_flat_map P f (x ∷ xs) h = each_append P (f x) (flat_map f xs) (h x (inl refl)) (each_flat_map P f xs (λ y m. h y (inr m)))

-- Tests.

pub not_true : (b : Bool) → (b ≡ true → ⊥) → b ≡ false
not_true true f = absurd (f refl)
not_true false f = refl

-- tests that give each other are one
pub same_truth : (a b : Bool) → (a ≡ true → b ≡ true) → (b ≡ true → a ≡ true) → a ≡ b
same_truth true b f g = sym (f refl)
same_truth false true f g = g refl
same_truth false false f g = refl
