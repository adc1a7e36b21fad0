-- The texts of items by their places.
use Rattle.std.proofs.Common.{◌≡◌, ℕ, zero, suc, ◌+◌, ◌<◌, ◌≤◌, List, [], ◌∷◌, ◌++◌, length, flat_map, get_or, Option, Some, slice_get, refl, sym, ap, ◌∙◌, arith, zero-add}
use Rattle.std.specs.Option.{option_map_or}
use Rattle.std.proofs.lemmas.Option.{slice_get_past}
use Rattle.rsml_meaning.specs.Words.{numbered_from}
use Rattle.micro_step.specs.Places.{ArePlaces}

-- the text of the item there
pub text_there : {A : Type 0} (f : A → List ℕ) (xs : List A) (k : ℕ) (x : A) → slice_get xs k ≡ Some x → f x ≡ option_map_or f (slice_get xs k) []
text_there {A} f xs k x e = sym (ap (λ (o : Option A). option_map_or f o []) e)

-- none past the last
pub text_past : {A : Type 0} (f : A → List ℕ) (xs : List A) (k : ℕ) → length xs ≤ k → [] ≡ option_map_or f (slice_get xs k) []
text_past {A} f xs k l = sym (ap (λ (o : Option A). option_map_or f o []) (slice_get_past xs k l))

-- the texts of the items at these places are those of the items
pub texts_are : {A : Type 0} (f : A → List ℕ) (all xs : List A) (ks : List ℕ) → ArePlaces all xs ks → flat_map (λ k. option_map_or f (slice_get all k) []) ks ≡ flat_map f xs
texts_are f all [] [] h = refl
texts_are f all [] (k ∷ ks) h = absurd h
texts_are f all (x ∷ xs) [] h = absurd h
texts_are f all (x ∷ xs) (k ∷ ks) h = λ i. option_map_or f (h.0 i) [] ++ texts_are f all xs ks h.1 i

-- Items with their numbers.

pub numbered_long : {A : Type 0} (p : ℕ) (xs : List A) → length (numbered_from p xs) ≡ length xs
numbered_long p [] = refl
numbered_long p (x ∷ xs) = ap suc (numbered_long (suc p) xs)

numbered_from_at : {A : Type 0} (p i : ℕ) (xs : List A) (x : A) → i < length xs → x ≡ get_or xs i x → (p + i, x) ≡ get_or (numbered_from p xs) i (p + i, x)
numbered_from_at p i [] x l e = absurd (omega (arith, l))
numbered_from_at {A} p zero (y ∷ xs) x l e =
    let same : p + 0 ≡ p = omega arith in
    ap (λ (n : ℕ). (n, x)) same ∙ ap (λ (z : A). (p, z)) e
numbered_from_at {A} p (suc i) (y ∷ xs) x l e =
    let same : p + suc i ≡ suc p + i = omega arith in
    ap (λ (n : ℕ). (n, x)) same ∙ numbered_from_at (suc p) i xs x (omega (arith, l)) e
    ∙ ap (λ (n : ℕ). get_or (numbered_from (suc p) xs) i (n, x)) (sym same)

-- the item at a place, with the place
pub numbered_at : {A : Type 0} (i : ℕ) (xs : List A) (x : A) → i < length xs → x ≡ get_or xs i x → (i, x) ≡ get_or (numbered_from 0 xs) i (i, x)
numbered_at {A} i xs x l e =
    ap (λ (n : ℕ). (n, x)) (sym (zero-add i)) ∙ numbered_from_at 0 i xs x l e
    ∙ ap (λ (n : ℕ). get_or (numbered_from 0 xs) i (n, x)) (zero-add i)
