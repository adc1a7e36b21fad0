-- Words on two lists, place by place.
use Rattle.std.proofs.Common.{◌≡◌, Bool, true, false, cond, ◌||◌, List, [], ◌∷◌, map, filter, refl, sym, ap, true≢false}
use Rattle.std.specs.List.{list_any, AllZip}
use Rattle.rsml_meaning.specs.Words.{AllThree}

pub filter_zip : {A B : Type 0} (R : A → B → Type 0) (p : A → Bool) (q : B → Bool) → ((x : A) (y : B) → R x y → p x ≡ q y) → (xs : List A) (ys : List B) → AllZip R xs ys → AllZip R (filter p xs) (filter q ys)
filter_zip R p q f [] [] h = tt
filter_zip {A} {B} R p q f (x ∷ xs) (y ∷ ys) h = by_test (p x) (q y) (f x y h.0) (filter_zip R p q f xs ys h.1)
  where
    by_test : (a b : Bool) → a ≡ b → AllZip R (filter p xs) (filter q ys) → AllZip R (cond a (x ∷ filter p xs) (filter p xs)) (cond b (y ∷ filter q ys) (filter q ys))
    by_test true true e r = (h.0, r)
    by_test false false e r = r
    by_test true false e r = absurd (true≢false e)
    by_test false true e r = absurd (true≢false (sym e))
filter_zip R p q f [] (y ∷ ys) h = elim h [ ]
filter_zip R p q f (x ∷ xs) [] h = elim h [ ]

pub map_zip : {A B C : Type 0} (R : A → B → Type 0) (f : A → C) (g : B → C) → ((x : A) (y : B) → R x y → f x ≡ g y) → (xs : List A) (ys : List B) → AllZip R xs ys → map f xs ≡ map g ys
map_zip R f g k [] [] h = refl
map_zip R f g k (x ∷ xs) (y ∷ ys) h = λ i. k x y h.0 i ∷ map_zip R f g k xs ys h.1 i
map_zip R f g k [] (y ∷ ys) h = elim h [ ]
map_zip R f g k (x ∷ xs) [] h = elim h [ ]

pub zip_more : {A B : Type 0} (R S : A → B → Type 0) → ((x : A) (y : B) → R x y → S x y) → (xs : List A) (ys : List B) → AllZip R xs ys → AllZip S xs ys
zip_more R S f [] [] h = tt
zip_more R S f (x ∷ xs) (y ∷ ys) h = (f x y h.0, zip_more R S f xs ys h.1)
zip_more R S f [] (y ∷ ys) h = elim h [ ]
zip_more R S f (x ∷ xs) [] h = elim h [ ]

pub any_map : {A B : Type 0} (f : A → B) (p : B → Bool) (xs : List A) → list_any p (map f xs) ≡ list_any (λ x. p (f x)) xs
any_map f p [] = refl
any_map f p (x ∷ xs) = ap (λ b. p (f x) || b) (any_map f p xs)

pub three_map : {A B C D : Type 0} (f : A → B) (R : B → C → D → Type 0) (xs : List A) (ys : List C) (zs : List D) → AllThree (λ x. R (f x)) xs ys zs → AllThree R (map f xs) ys zs
three_map f R [] [] [] h = tt
three_map f R (x ∷ xs) (y ∷ ys) (z ∷ zs) h = (h.0, three_map f R xs ys zs h.1)
three_map f R [] [] (z ∷ zs) h = elim h [ ]
three_map f R [] (y ∷ ys) zs h = elim h [ ]
three_map f R (x ∷ xs) [] zs h = elim h [ ]
three_map f R (x ∷ xs) (y ∷ ys) [] h = elim h [ ]

pub three_of_map : {A B C D : Type 0} (f : A → B) (R : B → C → D → Type 0) (xs : List A) (ys : List C) (zs : List D) → AllThree R (map f xs) ys zs → AllThree (λ x. R (f x)) xs ys zs
three_of_map f R [] [] [] h = tt
three_of_map f R (x ∷ xs) (y ∷ ys) (z ∷ zs) h = (h.0, three_of_map f R xs ys zs h.1)
three_of_map f R [] [] (z ∷ zs) h = elim h [ ]
three_of_map f R [] (y ∷ ys) zs h = elim h [ ]
three_of_map f R (x ∷ xs) [] zs h = elim h [ ]
three_of_map f R (x ∷ xs) (y ∷ ys) [] h = elim h [ ]

pub three_more : {A C D : Type 0} (R S : A → C → D → Type 0) → ((x : A) (y : C) (z : D) → R x y z → S x y z) → (xs : List A) (ys : List C) (zs : List D) → AllThree R xs ys zs → AllThree S xs ys zs
three_more R S f [] [] [] h = tt
three_more R S f (x ∷ xs) (y ∷ ys) (z ∷ zs) h = (f x y z h.0, three_more R S f xs ys zs h.1)
three_more R S f [] [] (z ∷ zs) h = elim h [ ]
three_more R S f [] (y ∷ ys) zs h = elim h [ ]
three_more R S f (x ∷ xs) [] zs h = elim h [ ]
three_more R S f (x ∷ xs) (y ∷ ys) [] h = elim h [ ]
