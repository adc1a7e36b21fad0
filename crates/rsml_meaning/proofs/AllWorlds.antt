-- All worlds of a small specification in order, so that a verdict can be computed.
use Rattle.std.proofs.Common.{◌≡◌, ℕ, zero, suc, ◌+◌, ◌<◌, Bool, true, false, ◌&&◌, List, [], ◌∷◌, ◌++◌, length, map, flat_map, ℤ, pos, negsuc, nat_eq, refl, sym, ap, ◌∙◌, subst, true≢false, arith, inl, inr}
use Rattle.std.specs.Prelude.{int_le, unsigned_abs, ◌+ℤ◌, ◌-ℤ◌, ◌≤ℤ◌}
use Rattle.std.specs.Cmp.{first_so, second_so}
use Rattle.std.specs.Cmp.Lexicographic.{pointwise}
use Rattle.std.proofs.lemmas.Bool.Decides.{nat_tests}
use Rattle.std.proofs.lemmas.Int.{ints}
use Rattle.rsml_syntax.specs.declared.syntax.Spec.{Spec}
use Rattle.rsml_syntax.specs.declared.world.World.{World}
use Rattle.rsml_meaning.specs.Words.{IsOne}
use Rattle.rsml_meaning.specs.Instances.{Component, components}
use Rattle.rsml_meaning.specs.Cells.{InputCell, InputType, cells, is_of}
use Rattle.rsml_meaning.specs.Worlds.{is_choice, IsWorld}

-- 0 to n - 1
abbrev pub below : ℕ → List ℕ
below zero = []
below (suc n) = below n ++ (n ∷ [])

-- one of each list in turn
abbrev pub picks : {A : Type 0} → List (List A) → List (List A)
picks [] = [] ∷ []
picks (xs ∷ more) = flat_map (λ x. map (λ ys. x ∷ ys) (picks more)) xs

-- the numbers from the low end of a type, as many as there are up to its high end
abbrev pub numbers_of : InputType → List ℤ
numbers_of k = map (λ n. k.low +ℤ pos n) (below (unsigned_abs (k.high -ℤ k.low) + 1))

abbrev pub pair_up : List (List ℤ) → List ℕ → List World
pair_up numbers ns = map (λ zs. record { choices = ns; cells = zs }) numbers

-- all worlds, the least first
abbrev pub all_worlds : Spec → List World
all_worlds s = flat_map (pair_up (picks (map (λ c. numbers_of c.numbers) (cells s)))) (picks (map (λ c. below (length c.children)) (components s)))

one_front : {A : Type 0} (y : A) (xs ys : List A) → IsOne y xs → IsOne y (xs ++ ys)
one_front y (x ∷ xs) ys (inl e) = inl e
one_front y (x ∷ xs) ys (inr h) = inr (one_front y xs ys h)
one_front y [] ys h = elim h [ ]

one_back : {A : Type 0} (y : A) (xs ys : List A) → IsOne y ys → IsOne y (xs ++ ys)
one_back y [] ys h = h
one_back y (x ∷ xs) ys h = inr (one_back y xs ys h)

one_map : {A B : Type 0} (f : A → B) (y : A) (xs : List A) → IsOne y xs → IsOne (f y) (map f xs)
one_map f y (x ∷ xs) (inl e) = inl (ap f e)
one_map f y (x ∷ xs) (inr h) = inr (one_map f y xs h)
one_map f y [] h = elim h [ ]

one_flat : {A B : Type 0} (f : A → List B) (x : A) (y : B) (xs : List A) → IsOne x xs → IsOne y (f x) → IsOne y (flat_map f xs)
one_flat f x y (z ∷ xs) (inl e) k = one_front y (f z) (flat_map f xs) (subst (λ u. IsOne y (f u)) e k)
one_flat f x y (z ∷ xs) (inr h) k = one_back y (f z) (flat_map f xs) (one_flat f x y xs h k)
one_flat f x y [] h k = elim h [ ]

pub one_below : (k n : ℕ) → k < n → IsOne k (below n)
one_below k zero h = absurd (omega arith)
one_below k (suc n) h = by_test (nat_eq k n) refl (one_below k n)
  where
    by_test : (b : Bool) → nat_eq k n ≡ b → (k < n → IsOne k (below n)) → IsOne k (below n ++ (n ∷ []))
    by_test true e less = one_back k (below n) (n ∷ []) (inl (grind (arith, nat_tests)))
    by_test false e less = one_front k (below n) (n ∷ []) (less (grind (arith, nat_tests)))

-- a number from the low end on is the low end and a distance
itself : (d : ℤ) → pos 0 ≤ℤ d → pos (unsigned_abs d) ≡ d
itself (pos n) h = refl
itself (negsuc n) h = absurd (omega (arith, ints, h))

not_below : (low z : ℤ) → int_le low z ≡ true → pos 0 ≤ℤ (z -ℤ low)
not_below low z h = grind (arith, ints)

distance : (low z : ℤ) → int_le low z ≡ true → low +ℤ pos (unsigned_abs (z -ℤ low)) ≡ z
distance low z h = ap (λ d. low +ℤ d) (itself (z -ℤ low) (not_below low z h)) ∙ omega (arith, ints)

nearer : (low high z : ℤ) → int_le low z ≡ true → int_le z high ≡ true → unsigned_abs (z -ℤ low) < unsigned_abs (high -ℤ low) + 1
nearer low high z h k = in_order (z -ℤ low) (high -ℤ low) (not_below low z h) (grind (arith, ints))
  where
    in_order : (d e : ℤ) → pos 0 ≤ℤ d → d ≤ℤ e → unsigned_abs d < unsigned_abs e + 1
    in_order (pos n) (pos m) h k = omega (arith, ints, k)
    in_order (negsuc n) e h k = absurd (omega (arith, ints, h))
    in_order (pos n) (negsuc m) h k = absurd (omega (arith, ints, k))

number_among : (low high z : ℤ) → (int_le low z && int_le z high) ≡ true → IsOne z (map (λ n. low +ℤ pos n) (below (unsigned_abs (high -ℤ low) + 1)))
number_among low high z h =
    let from = first_so (int_le low z) (int_le z high) h in
    let n = unsigned_abs (z -ℤ low) in
    let all = below (unsigned_abs (high -ℤ low) + 1) in
    subst (λ y. IsOne y (map (λ n. low +ℤ pos n) all)) (distance low z from)
    (one_map (λ n. low +ℤ pos n) n all (one_below n (unsigned_abs (high -ℤ low) + 1) (nearer low high z from (second_so (int_le low z) (int_le z high) h))))

numbers_among : (cs : List InputCell) (zs : List ℤ) → pointwise (λ c n. is_of c.numbers n) cs zs ≡ true
    → IsOne zs (picks (map (λ c. numbers_of c.numbers) cs))
numbers_among [] [] k = inl refl
numbers_among [] (z ∷ zs) k = absurd (true≢false (sym k))
numbers_among (c ∷ cs) [] k = absurd (true≢false (sym k))
numbers_among (c ∷ cs) (z ∷ zs) k =
    let rest = picks (map (λ d. numbers_of d.numbers) cs) in
    one_flat (λ x. map (λ ys. x ∷ ys) rest) z (z ∷ zs) (numbers_of c.numbers)
    (number_among c.numbers.low c.numbers.high z
    (first_so (is_of c.numbers z) (pointwise (λ d n. is_of d.numbers n) cs zs) k))
    (one_map (λ ys. z ∷ ys) zs rest
    (numbers_among cs zs
    (second_so (is_of c.numbers z) (pointwise (λ d n. is_of d.numbers n) cs zs) k)))

choices_among : (cs : List Component) (ns : List ℕ) → pointwise is_choice cs ns ≡ true → IsOne ns (picks (map (λ c. below (length c.children)) cs))
choices_among [] [] h = inl refl
choices_among [] (n ∷ ns) h = absurd (true≢false (sym h))
choices_among (c ∷ cs) [] h = absurd (true≢false (sym h))
choices_among (c ∷ cs) (n ∷ ns) h =
    let rest = picks (map (λ d. below (length d.children)) cs) in
    let k = first_so (is_choice c n) (pointwise is_choice cs ns) h in
    one_flat (λ x. map (λ ys. x ∷ ys) rest) n (n ∷ ns) (below (length c.children))
    (one_below n (length c.children) (grind (arith, nat_tests)))
    (one_map (λ ys. n ∷ ys) ns rest (choices_among cs ns (second_so (is_choice c n) (pointwise is_choice cs ns) h)))

-- each world is among all worlds
pub world_among : (s : Spec) (w : World) → IsWorld s w → IsOne w (all_worlds s)
world_among s w i =
    let choices = choices_among (components s) w.choices (first_so (pointwise is_choice (components s) w.choices) (pointwise (λ c n. is_of c.numbers n) (cells s) w.cells) i) in
    let numbers = numbers_among (cells s) w.cells (second_so (pointwise is_choice (components s) w.choices) (pointwise (λ c n. is_of c.numbers n) (cells s) w.cells) i) in
    let among = picks (map (λ c. numbers_of c.numbers) (cells s)) in
    one_flat (pair_up among) w.choices w (picks (map (λ c. below (length c.children)) (components s))) choices
    (one_map (λ zs. record { choices = w.choices; cells = zs }) w.cells among numbers)
