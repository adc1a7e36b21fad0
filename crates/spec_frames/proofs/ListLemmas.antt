-- Lists and options whose items are compared.
use Rattle.std.proofs.Common.{◌≡◌, ℕ, Bool, true, ◌&&◌, List, [], ◌∷◌, map, Option, Some, None, nat_eq, refl, sym, ap, ◌∙◌, true≢false}
use Rattle.std.specs.Option.{option_eq}
use Rattle.std.specs.Cmp.{first_so, second_so}
use Rattle.std.specs.Cmp.Lexicographic.{pointwise}
use Rattle.std.proofs.lemmas.Bool.Decides.{Decides-eqb}
use Rattle.rsml_syntax.specs.text.Names.{Name, same}

pub both : (a b : Bool) → a ≡ true → b ≡ true → (a && b) ≡ true
both a b h k = ap (λ c. c && b) h ∙ k

pub nat_same : (x y : ℕ) → nat_eq x y ≡ true → x ≡ y
nat_same x y h = (Decides-eqb x y).0 h

pub nat_itself : (x : ℕ) → nat_eq x x ≡ true
nat_itself x = (Decides-eqb x x).1 refl

-- Lists that are compared item by item.

pub pointwise_same : {A : Type 0} (eq : A → A → Bool) → ((x y : A) → eq x y ≡ true → x ≡ y) → (xs ys : List A) → pointwise eq xs ys ≡ true → xs ≡ ys
pointwise_same eq k [] [] h = refl
pointwise_same eq k (x ∷ xs) (y ∷ ys) h = λ i. k x y (first_so (eq x y) (pointwise eq xs ys) h) i ∷ pointwise_same eq k xs ys (second_so (eq x y) (pointwise eq xs ys) h) i
pointwise_same eq k [] (y ∷ ys) h = absurd (true≢false (sym h))
pointwise_same eq k (x ∷ xs) [] h = absurd (true≢false (sym h))

pub pointwise_itself : {A : Type 0} (eq : A → A → Bool) → ((x : A) → eq x x ≡ true) → (xs : List A) → pointwise eq xs xs ≡ true
pointwise_itself eq h [] = refl
pointwise_itself eq h (x ∷ xs) = both (eq x x) (pointwise eq xs xs) (h x) (pointwise_itself eq h xs)

-- what passes item by item is one list, once each item is opened
pub pointwise_opens : {A : Type 0} (eq : A → A → Bool) (o : A → A) → ((x y : A) → eq x y ≡ true → o x ≡ o y) → (xs ys : List A) → pointwise eq xs ys ≡ true → map o xs ≡ map o ys
pointwise_opens eq o k [] [] h = refl
pointwise_opens eq o k (x ∷ xs) (y ∷ ys) h = λ i. k x y (first_so (eq x y) (pointwise eq xs ys) h) i ∷ pointwise_opens eq o k xs ys (second_so (eq x y) (pointwise eq xs ys) h) i
pointwise_opens eq o k [] (y ∷ ys) h = absurd (true≢false (sym h))
pointwise_opens eq o k (x ∷ xs) [] h = absurd (true≢false (sym h))

pub pointwise_blind : {A : Type 0} (eq : A → A → Bool) (o : A → A) → ((x y : A) → eq x y ≡ eq (o x) (o y)) → (xs ys : List A) → pointwise eq xs ys ≡ pointwise eq (map o xs) (map o ys)
pointwise_blind eq o k [] [] = refl
pointwise_blind eq o k [] (y ∷ ys) = refl
pointwise_blind eq o k (x ∷ xs) [] = refl
pointwise_blind eq o k (x ∷ xs) (y ∷ ys) = λ i. k x y i && pointwise_blind eq o k xs ys i

pub name_same : (x y : Name) → same x y ≡ true → x ≡ y
name_same x y h = pointwise_same nat_eq nat_same x y h

pub name_itself : (x : Name) → same x x ≡ true
name_itself x = pointwise_itself nat_eq nat_itself x

-- Options.

pub option_same : {A : Type 0} (eq : A → A → Bool) → ((x y : A) → eq x y ≡ true → x ≡ y) → (x y : Option A) → option_eq eq x y ≡ true → x ≡ y
option_same eq k None None h = refl
option_same eq k (Some x) (Some y) h = ap (λ z. Some z) (k x y h)
option_same eq k None (Some y) h = absurd (true≢false (sym h))
option_same eq k (Some x) None h = absurd (true≢false (sym h))

pub option_itself : {A : Type 0} (eq : A → A → Bool) → ((x : A) → eq x x ≡ true) → (x : Option A) → option_eq eq x x ≡ true
option_itself eq h None = refl
option_itself eq h (Some x) = h x
