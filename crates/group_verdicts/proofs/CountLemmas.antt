-- How many of the first items of a list pass a test.
use Rattle.std.proofs.Common.{◌≡◌, ℕ, ◌+◌, ◌≤◌, Bool, true, false, not, cond, if◌then◌else◌, ◌||◌, ◌==◌, nat_lt, List, length, take, filter, Some, slice_get, sym, ap, ◌∙◌, arith}
use Rattle.std.proofs.lemmas.Bool.Decides.{nat_tests}
use Rattle.std.proofs.lemmas.List.{take_all}
use Rattle.std.proofs.lemmas.List.Filters.{length-filter_more}
use Rattle.std.proofs.lemmas.Option.{get_or_from_slice_get, slice_get_within}

-- how many of the first n pass
abbrev pub passing : {A : Type 0} → (A → Bool) → List A → ℕ → ℕ
passing p xs n = length (filter p (take n xs))

-- with the next one more passes, or none
one_more : {A : Type 0} (p : A → Bool) (xs : List A) (n : ℕ) (x : A) → slice_get xs n ≡ Some x → passing p xs (n + 1) ≡ passing p xs n + cond (p x) 1 0
one_more p xs n x at = length-filter_more p xs n x (slice_get_within xs n x at) ∙ ap (λ y. passing p xs n + cond (p y) 1 0) (get_or_from_slice_get xs n x x at)

above_zero : (b : Bool) (k : ℕ) → (nat_lt 0 k || b) ≡ nat_lt 0 (k + cond b 1 0)
above_zero true k = grind (arith, nat_tests)
above_zero false k = grind (arith, nat_tests)

above_one : (b : Bool) (k : ℕ) → (if b then nat_lt 0 k else nat_lt 1 k) ≡ nat_lt 1 (k + cond b 1 0)
above_one true k = grind (arith, nat_tests)
above_one false k = grind (arith, nat_tests)

-- one or more pass where one did before, or the next does
pub some_more : {A : Type 0} (p : A → Bool) (xs : List A) (n : ℕ) (x : A) → slice_get xs n ≡ Some x → (nat_lt 0 (passing p xs n) || p x) ≡ nat_lt 0 (passing p xs (n + 1))
some_more p xs n x at = above_zero (p x) (passing p xs n) ∙ ap (λ k. nat_lt 0 k) (sym (one_more p xs n x at))

-- two or more pass where one did before, if the next does, and else where two did
pub two_more : {A : Type 0} (p : A → Bool) (xs : List A) (n : ℕ) (x : A) → slice_get xs n ≡ Some x
    → (if p x then nat_lt 0 (passing p xs n) else nat_lt 1 (passing p xs n)) ≡ nat_lt 1 (passing p xs (n + 1))
two_more p xs n x at = above_one (p x) (passing p xs n) ∙ ap (λ k. nat_lt 1 k) (sym (one_more p xs n x at))

-- past the last item all have been counted
pub all_passing : {A : Type 0} (p : A → Bool) (xs : List A) (n : ℕ) → length xs ≤ n → passing p xs n ≡ length (filter p xs)
all_passing p xs n past = ap (λ ys. length (filter p ys)) (take_all n xs past)

-- none is not more than k
pub none_above : (k : ℕ) → false ≡ nat_lt k 0
none_above k = grind (arith, nat_tests)

-- none is not one or more
pub none_is : (k : ℕ) → not (nat_lt 0 k) ≡ (k == 0)
none_is k = grind (arith, nat_tests)
