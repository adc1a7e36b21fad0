-- The places of numbers that pass: one more number, and those that are kept with a range.
use Rattle.std.proofs.Common.{◌≡◌, ℕ, zero, suc, ◌+◌, ◌<◌, ◌==◌, ◌&&◌, ◌||◌, Bool, true, false, cond, List, [], ◌∷◌, ◌++◌, length, get_or, take, Some, refl, sym, ap, subst, ◌∙◌, arith, true≢false}
use Rattle.std.specs.Cmp.{signed_Decides}
use Rattle.std.specs.List.{All}
use Rattle.std.specs.Map.{lookup}
use Rattle.std.specs.Ordering.{int_eq}
use Rattle.std.proofs.Math.Dec.{eqb-suc-zero, eqb-zero-suc, eqb-suc-suc}
use Rattle.std.proofs.lemmas.List.{take_more, length-take-le}
use Rattle.std.proofs.lemmas.List.Elements.{All-head, All-tail}
use Rattle.pair_counts.specs.declared.blocks.Range.{Range}
use Rattle.pair_counts.specs.Outside.{same_range}
use Rattle.pair_counts.specs.Sets.{passes_at}

and_true : (b : Bool) → b ≡ (b && true)
and_true true = refl
and_true false = refl

and_false : (b : Bool) → false ≡ (b && false)
and_false true = refl
and_false false = refl

or_false : (b : Bool) → b ≡ (b || false)
or_false true = refl
or_false false = refl

passes_push : {A : Type 0} (test : A → Bool) (xs : List A) (x : A) (q : ℕ) → passes_at test (xs ++ x ∷ []) q ≡ (passes_at test xs q || (test x && length xs == q))
passes_push test [] x zero = and_true (test x)
passes_push test [] x (suc q) = and_false (test x) ∙ ap (λ b. test x && b) (sym (eqb-zero-suc q))
passes_push test (y ∷ ys) x zero =
    let e : length (y ∷ ys) ≡ suc (length ys) = omega arith in
    or_false (test y) ∙ ap (λ b. test y || b) (and_false (test x) ∙ ap (λ b. test x && b) (sym (ap (λ n. n == 0) e ∙ eqb-suc-zero (length ys))))
passes_push test (y ∷ ys) x (suc q) =
    let e : length (y ∷ ys) ≡ suc (length ys) = omega arith in
    passes_push test ys x q
    ∙ ap (λ b. passes_at test ys q || (test x && b)) (sym (ap (λ n. n == suc q) e ∙ eqb-suc-suc (length ys) q))

-- one more number
pub passes_turn : {A : Type 0} (test : A → Bool) (xs : List A) (i : ℕ) (d : A) → i < length xs → (q : ℕ) →
    passes_at test (take (i + 1) xs) q ≡ (passes_at test (take i xs) q || (test (get_or xs i d) && i == q))
passes_turn test xs i d h q =
    ap (λ ys. passes_at test ys q) (take_more xs i d h)
    ∙ passes_push test (take i xs) (get_or xs i d) q
    ∙ ap (λ n. passes_at test (take i xs) q || (test (get_or xs i d) && n == q)) (length-take-le i xs (omega arith))

same_is : (a b : Range) → same_range a b ≡ true → b ≡ a
same_is a b h = λ i. record { low = sym ((signed_Decides a.low b.low).0 (left (int_eq a.low b.low) (int_eq a.high b.high) h)) i; high = sym ((signed_Decides a.high b.high).0 (right (int_eq a.low b.low) (int_eq a.high b.high) h)) i }
  where
    left : (s t : Bool) → (s && t) ≡ true → s ≡ true
    left true t h = refl
    left false t h = absurd (true≢false (sym h))

    right : (s t : Bool) → (s && t) ≡ true → t ≡ true
    right true t h = h
    right false t h = absurd (true≢false (sym h))

-- what holds of each entry holds of the value that is found, with the range that was asked for
pub found_with : {X : Type 0} (P : Range → X → Type 0) (range : Range) (es : List (Range × X)) (x : X) → All (λ e. P e.0 e.1) es → lookup (same_range range) es ≡ Some x → P range x
found_with P range [] x h is = cc
found_with P range (e ∷ es) x h is = by (same_range range e.0) refl is (found_with P range es x (All-tail (λ e. P e.0 e.1) e es h))
  where
    by : (t : Bool) → same_range range e.0 ≡ t → cond t (Some e.1) (lookup (same_range range) es) ≡ Some x → (lookup (same_range range) es ≡ Some x → P range x) → P range x
    by true same here rest =
        let value : e.1 ≡ x = cc in
        subst (P range) value (subst (λ r. P r e.1) (same_is range e.0 same) (All-head (λ e. P e.0 e.1) e es h))
    by false same here rest = rest here
