-- Lists in which each item has a relation to those behind it.
use Rattle.std.proofs.Common.{◌≡◌, ℕ, suc, ◌<◌, List, [], ◌∷◌, ◌++◌, map, ◌⊎◌, ⊎_elim, Some, inl, inr, refl, slice_get, arith}
use Rattle.rsml_syntax.proofs.Clean.{each_append}
use Rattle.rsml_meaning.specs.Words.{Each, IsOne}
use Rattle.state_tree.proofs.Lists.{place_of_one}

-- each item has this relation to those behind it
abbrev pub ArePairs : {A : Type 0} → (A → A → Type 0) → List A → Type 0
ArePairs R [] = Unit {0}
ArePairs R (x ∷ xs) = Each (R x) xs × ArePairs R xs

pub each_given : {A : Type 0} (P : A → Type 0) (xs : List A) → ((x : A) → IsOne x xs → P x) → Each P xs
each_given P [] f = tt
each_given P (x ∷ xs) f = (f x (inl refl), each_given P xs (λ y m. f y (inr m)))

pub each_map : {A B : Type 0} (P : B → Type 0) (f : A → B) (xs : List A) → ((x : A) → P (f x)) → Each P (map f xs)
each_map P f [] h = tt
each_map P f (x ∷ xs) h = (h x, each_map P f xs h)

pub one_split : {A : Type 0} (x : A) (xs ys : List A) → IsOne x (xs ++ ys) → IsOne x xs ⊎ IsOne x ys
one_split x [] ys m = inr m
one_split x (y ∷ xs) ys (inl e) = inl (inl e)
one_split x (y ∷ xs) ys (inr m) = ⊎_elim (λ a. inl (inr a)) (λ b. inr b) (one_split x xs ys m)

pub pairs_append : {A : Type 0} (R : A → A → Type 0) (xs ys : List A) → ArePairs R xs → ArePairs R ys → ((x y : A) → IsOne x xs → IsOne y ys → R x y) → ArePairs R (xs ++ ys)
pairs_append R [] ys h k f = k
pairs_append R (x ∷ xs) ys h k f = (each_append (R x) xs ys h.0 (each_given (R x) ys (λ y m. f x y (inl refl) m)), pairs_append R xs ys h.1 k (λ z y m n. f z y (inr m) n))

pub pairs_map : {A B : Type 0} (Q : A → A → Type 0) (R : B → B → Type 0) (f : A → B) (xs : List A) → ((x y : A) → Q x y → R (f x) (f y)) → ArePairs Q xs → ArePairs R (map f xs)
pairs_map Q R f [] h k = tt
pairs_map Q R f (x ∷ xs) h k = (each_pair xs k.0, pairs_map Q R f xs h k.1)
  where
    each_pair : (ys : List _) → Each (Q x) ys → Each (R (f x)) (map f ys)
    each_pair [] m = tt
    each_pair (y ∷ ys) m = (h x y m.0, each_pair ys m.1)

pub pairs_at : {A : Type 0} (R : A → A → Type 0) (xs : List A) → ((i j : ℕ) (x y : A) → slice_get xs i ≡ Some x → slice_get xs j ≡ Some y → i < j → R x y) → ArePairs R xs
pairs_at R [] f = tt
pairs_at R (x ∷ xs) f = (
  each_given (R x) xs (λ y m. let r = place_of_one xs y m in f 0 (suc r.0) x y refl r.1 (omega arith)),
  pairs_at R xs (λ i j y z h k l. f (suc i) (suc j) y z h k (omega (arith, l))),
)
