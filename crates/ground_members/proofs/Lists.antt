-- Lists that are gone over item by item.
use Rattle.std.proofs.Common.{◌≡◌, ℕ, zero, suc, ◌+◌, ◌<◌, ◌≤◌, List, [], ◌∷◌, ◌++◌, map, flat_map, length, take, get_or, refl, sym, ap, ◌∙◌, subst, not-suc-le-zero, le_of_suc-le-suc}
use Rattle.std.specs.List.{AllZip}
use Rattle.std.proofs.lemmas.List.{take_more, take_all}
use Rattle.rsml_meaning.specs.Words.{Each}

pub map_append : {A B : Type 0} (f : A → B) (xs ys : List A) → map f (xs ++ ys) ≡ map f xs ++ map f ys
map_append f [] ys = refl
map_append f (x ∷ xs) ys = ap (λ zs. f x ∷ zs) (map_append f xs ys)

-- What holds of each.

pub each_at : {A : Type 0} (P : A → Type 0) (xs : List A) (i : ℕ) (x : A) → Each P xs → i < length xs → x ≡ get_or xs i x → P x
each_at P [] i x e l is = absurd (not-suc-le-zero l)
each_at P (y ∷ xs) zero x e l is = subst P (sym is) e.0
each_at P (y ∷ xs) (suc i) x e l is = each_at P xs i x e.1 (le_of_suc-le-suc l) is

pub each_mapped : {A B : Type 0} (P : B → Type 0) (f : A → B) (xs : List A) (i : ℕ) (x : A) → Each P (map f xs) → i < length xs → x ≡ get_or xs i x → P (f x)
each_mapped P f [] i x e l is = absurd (not-suc-le-zero l)
each_mapped P f (y ∷ xs) zero x e l is = subst (λ z. P (f z)) (sym is) e.0
each_mapped P f (y ∷ xs) (suc i) x e l is = each_mapped P f xs i x e.1 (le_of_suc-le-suc l) is

pub each_front : {A : Type 0} (P : A → Type 0) (xs ys : List A) → Each P (xs ++ ys) → Each P xs × Each P ys
each_front P [] ys h = (tt, h)
each_front P (x ∷ xs) ys h = let r = each_front P xs ys h.1 in ((h.0, r.0), r.1)

pub each_of_flat : {A B : Type 0} (P : B → Type 0) (f : A → List B) (xs : List A) (i : ℕ) (x : A) → Each P (flat_map f xs) → i < length xs → x ≡ get_or xs i x → Each P (f x)
each_of_flat P f [] i x h l is = absurd (not-suc-le-zero l)
each_of_flat P f (y ∷ xs) zero x h l is = subst (λ z. Each P (f z)) (sym is) (each_front P (f y) (flat_map f xs) h).0
each_of_flat P f (y ∷ xs) (suc i) x h l is = each_of_flat P f xs i x (each_front P (f y) (flat_map f xs) h).1 (le_of_suc-le-suc l) is

-- What holds of pairs.

pub zip_append : {A B : Type 0} (R : A → B → Type 0) (xs zs : List A) (ys ws : List B) → AllZip R xs ys → AllZip R zs ws → AllZip R (xs ++ zs) (ys ++ ws)
zip_append R [] zs [] ws h k = k
zip_append R (x ∷ xs) zs (y ∷ ys) ws h k = (h.0, zip_append R xs zs ys ws h.1 k)
zip_append R [] zs (y ∷ ys) ws h k = elim h [ ]
zip_append R (x ∷ xs) zs [] ws h k = elim h [ ]

pub zip_to : {A B : Type 0} (P Q : A → B → Type 0) → ((x : A) (y : B) → P x y → Q x y) → (xs : List A) (ys : List B) → AllZip P xs ys → AllZip Q xs ys
zip_to P Q f [] [] e = tt
zip_to P Q f (x ∷ xs) (y ∷ ys) e = (f x y e.0, zip_to P Q f xs ys e.1)
zip_to P Q f [] (y ∷ ys) e = elim e [ ]
zip_to P Q f (x ∷ xs) [] e = elim e [ ]

zip_more : {A B : Type 0} (P : A → B → Type 0) (xs : List A) (ys : List B) (x : A) (y : B) → AllZip P xs ys → P x y → AllZip P (xs ++ (x ∷ [])) (ys ++ (y ∷ []))
zip_more P [] [] x y e h = (h, tt)
zip_more P (a ∷ xs) (b ∷ ys) x y e h = (e.0, zip_more P xs ys x y e.1 h)
zip_more P [] (b ∷ ys) x y e h = elim e [ ]
zip_more P (a ∷ xs) [] x y e h = elim e [ ]

-- one turn of a loop that makes an item of each
pub zip_turn : {A B C : Type 0} (P Q : B → C → Type 0) (f : A → B) (xs : List A) (i : ℕ) (x : A) (ys zs : List C) (y : C) → ((b : B) (c : C) → P b c → Q b c) → AllZip P (map f (take i xs)) ys
    → i < length xs → x ≡ get_or xs i x → zs ≡ ys ++ (y ∷ []) → Q (f x) y → AllZip Q (map f (take (i + 1) xs)) zs
zip_turn P Q f xs i x ys zs y to a l is e q =
    let names : map f (take (i + 1) xs) ≡ map f (take i xs) ++ (f x ∷ []) = ap (map f) (take_more xs i x l ∙ ap (λ z. take i xs ++ (z ∷ [])) (sym is)) ∙ map_append f (take i xs) (x ∷ []) in
    subst (λ bs. AllZip Q bs zs) (sym names) (subst (AllZip Q (map f (take i xs) ++ (f x ∷ []))) (sym e) (zip_more Q (map f (take i xs)) ys (f x) y (zip_to P Q to (map f (take i xs)) ys a) q))

-- one turn of a loop that makes an item of each, where what it stands for is the item itself
pub zip_next : {A C : Type 0} (P : A → C → Type 0) (xs : List A) (i : ℕ) (x : A) (ys zs : List C) (y : C) → AllZip P (take i xs) ys → i < length xs → x ≡ get_or xs i x → zs ≡ ys ++ (y ∷ []) → P x y → AllZip P (take (i + 1) xs) zs
zip_next P xs i x ys zs y a l is e q =
    let next : take (i + 1) xs ≡ take i xs ++ (x ∷ []) = take_more xs i x l ∙ ap (λ z. take i xs ++ (z ∷ [])) (sym is) in
    subst (λ bs. AllZip P bs zs) (sym next) (subst (AllZip P (take i xs ++ (x ∷ []))) (sym e) (zip_more P (take i xs) ys x y a q))

pub zip_end : {A B C : Type 0} (P : B → C → Type 0) (f : A → B) (xs : List A) (i : ℕ) (ys : List C) → AllZip P (map f (take i xs)) ys → length xs ≤ i → AllZip P (map f xs) ys
zip_end P f xs i ys a l = subst (λ zs. AllZip P (map f zs) ys) (take_all i xs l) a
