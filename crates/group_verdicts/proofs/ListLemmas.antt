-- A loop that finds one thing for each item.
use Rattle.std.proofs.Common.{◌≡◌, ℕ, ◌+◌, ◌<◌, ◌≤◌, List, [], ◌∷◌, ◌++◌, map, length, take, Some, inl, inr, slice_get, sym, ap, ◌∙◌, subst, arith}
use Rattle.std.specs.List.{AllZip}
use Rattle.std.proofs.lemmas.List.{map-append, take_all, take_more}
use Rattle.std.proofs.lemmas.Option.{slice_get_cases}
use Rattle.std.proofs.lemmas.Slice.Zip.{all_zipped_more}

-- the item at a place
item_at : {A : Type 0} (xs : List A) (n : ℕ) → n < length xs → (x : A) × (slice_get xs n ≡ Some x) × (take (n + 1) xs ≡ take n xs ++ x ∷ [])
item_at {A} xs n less =
    let cases = (slice_get_cases xs n).1 in
    elim cases [
      | inl there ↦ (there.0, there.2, take_more xs n there.0 less ∙ ap (λ (y : A). take n xs ++ y ∷ []) there.3)
      | inr past ↦ absurd (let late : length xs ≤ n = past.0 in omega (arith, less, late))
    ]

-- one more
pub found_more : {A B C : Type 0} (R : A → C → Type 0) (f : B → C) (xs : List A) (ys zs : List B) (n : ℕ) (y : B) → n < length xs → AllZip R (take n xs) (map f ys) → zs ≡ ys ++ y ∷ []
    → ((x : A) → slice_get xs n ≡ Some x → R x (f y)) → AllZip R (take (n + 1) xs) (map f zs)
found_more {A} {B} {C} R f xs ys zs n y less before pushed here =
    let item = item_at xs n less in
    let last : map f zs ≡ map f ys ++ f y ∷ [] = ap (λ (vs : List B). map f vs) pushed ∙ map-append f ys (y ∷ []) in
    subst (λ (us : List A). AllZip R us (map f zs)) (sym item.2)
    (subst (λ (cs : List C). AllZip R (take n xs ++ item.0 ∷ []) cs) (sym last) (all_zipped_more R (take n xs) (map f ys) item.0 (f y) before (here item.0 item.1)))

-- all
pub found_all : {A C : Type 0} (R : A → C → Type 0) (xs : List A) (zs : List C) (n : ℕ) → length xs ≤ n → AllZip R (take n xs) zs → AllZip R xs zs
found_all {A} R xs zs n past found = subst (λ (us : List A). AllZip R us zs) (take_all n xs past) found
