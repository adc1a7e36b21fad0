-- Sums of levels do not depend on the order in which these stand.
use Rattle.std.proofs.Common.{◌≡◌, ℕ, ◌+◌, Bool, true, false, if◌then◌else◌, List, [], ◌∷◌, refl, sym, ap, ◌∙◌, arith, ℤ, pos, neg_ℤ, ◌+ℤ◌, ◌-ℤ◌}
use Rattle.std.specs.Prelude.{IsPermutation}
use Rattle.std.specs.List.{sum_by}
use Rattle.std.proofs.lemmas.Int.{ints}
use Rattle.std.proofs.lemmas.List.Sorted.{sum_by-IsPermutation}
use Rattle.std.proofs.lemmas.List.Sums.{sum_by-cons}
use Rattle.spelled_numbers.specs.declared.weighted.Weighted.{Weighted}
use Rattle.spelled_numbers.specs.Sums.{signed_sum, term_value, total_weight}

-- what a level adds, and what it takes off
abbrev added : (ℕ → Bool) → Weighted → ℕ
added v t = if v t.level then (if t.minus then 0 else t.weight) else 0

abbrev taken : (ℕ → Bool) → Weighted → ℕ
taken v t = if v t.level then (if t.minus then t.weight else 0) else 0

term_split : (b m : Bool) (w : ℕ) → (if b then (if m then neg_ℤ (pos w) else pos w) else pos 0)
    ≡ (pos (if b then (if m then 0 else w) else 0) -ℤ pos (if b then (if m then w else 0) else 0))
term_split true true w = omega (arith, ints)
term_split true false w = omega (arith, ints)
term_split false m w = omega (arith, ints)

joined : (a b : ℤ) (p q x y m n : ℕ) → a ≡ (pos p -ℤ pos q) → b ≡ (pos x -ℤ pos y) → m ≡ p + x → n ≡ q + y → (a +ℤ b) ≡ (pos m -ℤ pos n)
joined a b p q x y m n first rest plus less = omega (arith, ints, first, rest, plus, less)

signed_is : (v : ℕ → Bool) (ts : List Weighted) → signed_sum v ts ≡ (pos (sum_by (added v) ts) -ℤ pos (sum_by (taken v) ts))
signed_is v [] = omega (arith, ints)
signed_is v (t ∷ ts) =
    joined (term_value (v t.level) t) (signed_sum v ts) (added v t) (taken v t) (sum_by (added v) ts) (sum_by (taken v) ts) (sum_by (added v) (t ∷ ts)) (sum_by (taken v) (t ∷ ts))
    (term_split (v t.level) t.minus t.weight) (signed_is v ts) (sum_by-cons (added v) t ts) (sum_by-cons (taken v) t ts)

total_is : (ts : List Weighted) → total_weight ts ≡ sum_by (λ t. t.weight) ts
total_is [] = refl
total_is (t ∷ ts) = ap (λ n. t.weight + n) (total_is ts) ∙ sym (sum_by-cons (λ (x : Weighted). x.weight) t ts)

pub signed_permuted : (v : ℕ → Bool) (xs ys : List Weighted) → IsPermutation xs ys → signed_sum v ys ≡ signed_sum v xs
signed_permuted v xs ys p =
    signed_is v ys
    ∙ (λ i. pos (sum_by-IsPermutation (added v) xs ys p i) -ℤ pos (sum_by-IsPermutation (taken v) xs ys p i))
    ∙ sym (signed_is v xs)

pub total_permuted : (xs ys : List Weighted) → IsPermutation xs ys → total_weight ys ≡ total_weight xs
total_permuted xs ys p = total_is ys ∙ sum_by-IsPermutation (λ (t : Weighted). t.weight) xs ys p ∙ sym (total_is xs)
