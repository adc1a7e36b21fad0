-- Lists that are made place by place, and tests along lists.
use Rattle.std.proofs.Common.{◌≡◌, ◌∙◌, ℕ, zero, suc, Bool, true, false, ◌&&◌, List, [], ◌∷◌, ◌++◌, length, map, take, drop, Some, slice_get, refl, sym, ap, true≢false, arith}
use Rattle.std.specs.Cmp.{first_so, second_so}
use Rattle.std.specs.Cmp.Lexicographic.{pointwise}
use Rattle.std.proofs.lemmas.Option.{same_Some}

pub both : (a b : Bool) → a ≡ true → b ≡ true → (a && b) ≡ true
both true b h k = k
both false b h k = h

tails_as_long : (m n : ℕ) → suc m ≡ suc n → m ≡ n
tails_as_long m n e = omega (arith, e)

not_as_long : (n : ℕ) → zero ≡ suc n → ⊥
not_as_long n e = omega (arith, e)

-- one item after another takes the place of what was there
pub changed : {A B : Type 0} (P : List A → Type 0) (f : B → A) (xs : List A) (ys : List B) → length xs ≡ length ys
    → ((k : ℕ) (x : A) (y : B) → slice_get xs k ≡ Some x → slice_get ys k ≡ Some y → P (take k xs ++ f y ∷ drop (suc k) (map f ys)) → P (take k xs ++ x ∷ drop (suc k) (map f ys)))
    → P (map f ys) → P xs
changed P f [] [] e step p = p
changed P f [] (y ∷ ys) e step p = absurd (not_as_long (length ys) e)
changed P f (x ∷ xs) [] e step p = absurd (not_as_long (length xs) (sym e))
changed P f (x ∷ xs) (y ∷ ys) e step p =
    changed (λ zs. P (x ∷ zs)) f xs ys (tails_as_long (length xs) (length ys) e) (λ k a b at there q. step (suc k) a b at there q) (step 0 x y refl refl p)

-- two lists whose items are equal where those before them are
pub alike : {A B : Type 0} (xs ys : List A) (zs : List B) → length xs ≡ length zs → length ys ≡ length zs
    → ((k : ℕ) (x y : A) (z : B) → slice_get xs k ≡ Some x → slice_get ys k ≡ Some y → slice_get zs k ≡ Some z → take k xs ≡ take k ys → x ≡ y)
    → xs ≡ ys
alike [] [] zs e f step = refl
alike [] (y ∷ ys) zs e f step = absurd (not_as_long (length ys) (let g : zero ≡ suc (length ys) = cc in g))
alike (x ∷ xs) [] zs e f step = absurd (not_as_long (length xs) (let g : zero ≡ suc (length xs) = cc in g))
alike (x ∷ xs) (y ∷ ys) [] e f step = absurd (not_as_long (length xs) (sym e))
alike (x ∷ xs) (y ∷ ys) (z ∷ zs) e f step =
    let here : x ≡ y = step 0 x y z refl refl refl refl in
    let rest : xs ≡ ys = alike xs ys zs (tails_as_long (length xs) (length zs) e) (tails_as_long (length ys) (length zs) f)
    (λ k a b c p q r same. step (suc k) a b c p q r (λ i. here i ∷ same i)) in
    λ i. here i ∷ rest i

-- what passes a test beside a list stands beside an item of it
pub beside : {A B : Type 0} (t : A → B → Bool) (xs : List A) (ys : List B) → pointwise t xs ys ≡ true
    → (k : ℕ) (y : B) → slice_get ys k ≡ Some y → (x : A) × (slice_get xs k ≡ Some x) × (t x y ≡ true)
beside t [] [] h k y at = absurd (let no : ⊥ = cc in no)
beside t [] (z ∷ ys) h k y at = absurd (true≢false (sym h))
beside t (x ∷ xs) [] h k y at = absurd (let no : ⊥ = cc in no)
beside t (x ∷ xs) (z ∷ ys) h zero y at = (x, refl, ap (t x) (sym (same_Some z y at)) ∙ first_so (t x z) (pointwise t xs ys) h)
beside t (x ∷ xs) (z ∷ ys) h (suc k) y at = beside t xs ys (second_so (t x z) (pointwise t xs ys) h) k y at

-- an item that lets more pass takes the place of one
pub lets_pass : {A B : Type 0} (t : A → B → Bool) (before after : List A) (x y : A) (zs : List B) → ((z : B) → t x z ≡ true → t y z ≡ true)
    → pointwise t (before ++ x ∷ after) zs ≡ true → pointwise t (before ++ y ∷ after) zs ≡ true
lets_pass t [] after x y [] more h = absurd (true≢false (sym h))
lets_pass t [] after x y (z ∷ zs) more h =
    both (t y z) (pointwise t after zs) (more z (first_so (t x z) (pointwise t after zs) h)) (second_so (t x z) (pointwise t after zs) h)
lets_pass t (b ∷ before) after x y [] more h = absurd (true≢false (sym h))
lets_pass t (b ∷ before) after x y (z ∷ zs) more h =
    both (t b z) (pointwise t (before ++ y ∷ after) zs) (first_so (t b z) (pointwise t (before ++ x ∷ after) zs) h)
    (lets_pass t before after x y zs more (second_so (t b z) (pointwise t (before ++ x ∷ after) zs) h))
