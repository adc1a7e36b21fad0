-- The levels of a part, as terms of a sum.
use Rattle.std.proofs.Common.{◌≡◌, ℕ, zero, suc, ◌+◌, ◌<◌, ◌≤◌, eqb, Bool, true, false, if◌then◌else◌, List, [], ◌∷◌, ◌++◌, length, get_or, drop, refl, sym, ◌∙◌, ap, arith, All, ℤ, pos, neg_ℤ, ◌+ℤ◌, Some, None, option_to_list}
use Rattle.std.proofs.lemmas.Int.{ints}
use Rattle.std.proofs.lemmas.List.{drop_more}
use Rattle.std.proofs.lemmas.List.Elements.{All-append, All-weaker}
use Rattle.spelled_numbers.specs.declared.weighted.Weighted.{Weighted}
use Rattle.spelled_numbers.specs.Sums.{signed_sum, weight_sum, total_weight}
use Rattle.spelled_numbers.specs.declared.slot.Slot.{Slot}
use Rattle.spelled_numbers.specs.declared.slot.Slot.TheVariants.{Part, Free}
use Rattle.spelled_numbers.specs.Spelling.{total, number}
use Rattle.spelled_numbers.specs.Bits.{bit_of, bits_of}

pub append : (v : ℕ → Bool) (some more : List Weighted) → signed_sum v (some ++ more) ≡ signed_sum v some +ℤ signed_sum v more
append v [] more = omega (arith, ints)
append v (t ∷ ts) more = omega (arith, ints, append v ts more)

weight-append : (v : ℕ → Bool) (some more : List Weighted) → weight_sum v (some ++ more) ≡ weight_sum v some + weight_sum v more
weight-append v [] more = omega arith
weight-append v (t ∷ ts) more = omega (arith, weight-append v ts more)

total-append : (some more : List Weighted) → total_weight (some ++ more) ≡ total_weight some + total_weight more
total-append [] more = omega arith
total-append (t ∷ ts) more = omega (arith, total-append ts more)

-- one level
abbrev one_bit : Bool → Bool → ℕ → ℕ → List Weighted
one_bit b minus w k = option_to_list (if b then Some (record { minus = minus; level = k; weight = w }) else None)

none_of : (b : Bool) → (if b then zero else zero) ≡ zero
none_of true = refl
none_of false = refl

one-weight : (v : ℕ → Bool) (b : Bool) (w k : ℕ) → weight_sum v (one_bit b false w k) ≡ (if v k then (if b then w else 0) else 0)
one-weight v true w k = omega arith
one-weight v false w k = sym (none_of (v k))

pub weights : (p : ℕ) (slots : List Slot) (v : ℕ → Bool) (k : ℕ) → weight_sum v (bits_of p false slots k) ≡ number p slots v k
weights p [] v k = refl
weights p (Part q w ∷ ss) v k =
    weight-append v (one_bit (eqb q p) false w k) (bits_of p false ss (k + 1))
    ∙ ap (λ n. n + weight_sum v (bits_of p false ss (k + 1))) (one-weight v (eqb q p) w k)
    ∙ ap (λ n. (if v k then (if eqb q p then w else 0) else 0) + n) (weights p ss v (k + 1))
weights p (Free ∷ ss) v k = weights p ss v (k + 1) ∙ omega (arith, none_of (v k))

abbrev signed : Bool → ℕ → ℤ
signed minus n = if minus then neg_ℤ (pos n) else pos n

signed-add : (minus : Bool) (m n : ℕ) → signed minus m +ℤ signed minus n ≡ signed minus (m + n)
signed-add true m n = omega (arith, ints)
signed-add false m n = omega (arith, ints)

one-signed : (v : ℕ → Bool) (b minus : Bool) (w k : ℕ) → signed_sum v (one_bit b minus w k) ≡ signed minus (if v k then (if b then w else 0) else 0)
one-signed v true minus w k = by_value (v k) minus
  where
    by_value : (x m : Bool) → (if x then (if m then neg_ℤ (pos w) else pos w) else pos 0) +ℤ pos 0 ≡ signed m (if x then w else 0)
    by_value true true = omega (arith, ints)
    by_value true false = omega (arith, ints)
    by_value false true = omega (arith, ints)
    by_value false false = omega (arith, ints)
one-signed v false minus w k = by_value (v k) minus
  where
    by_value : (x m : Bool) → pos 0 ≡ signed m (if x then 0 else 0)
    by_value true true = refl
    by_value true false = refl
    by_value false true = refl
    by_value false false = refl

pub signed-number : (p : ℕ) (minus : Bool) (slots : List Slot) (v : ℕ → Bool) (k : ℕ) → signed_sum v (bits_of p minus slots k) ≡ signed minus (number p slots v k)
signed-number p true [] v k = refl
signed-number p false [] v k = refl
signed-number p minus (Part q w ∷ ss) v k =
    append v (one_bit (eqb q p) minus w k) (bits_of p minus ss (k + 1))
    ∙ ap (λ z. z +ℤ signed_sum v (bits_of p minus ss (k + 1))) (one-signed v (eqb q p) minus w k)
    ∙ ap (λ z. signed minus (if v k then (if eqb q p then w else 0) else 0) +ℤ z) (signed-number p minus ss v (k + 1))
    ∙ signed-add minus (if v k then (if eqb q p then w else 0) else 0) (number p ss v (k + 1))
signed-number p minus (Free ∷ ss) v k =
    signed-number p minus ss v (k + 1) ∙ (let e : number p ss v (k + 1) ≡ (if v k then 0 else 0) + number p ss v (k + 1) = omega (arith, none_of (v k)) in ap (signed minus) e)

one-total : (b minus : Bool) (w k : ℕ) → total_weight (one_bit b minus w k) ≡ (if b then w else 0)
one-total true minus w k = omega arith
one-total false minus w k = refl

pub totals : (p : ℕ) (minus : Bool) (slots : List Slot) (k : ℕ) → total_weight (bits_of p minus slots k) ≡ total p slots
totals p minus [] k = refl
totals p minus (Part q w ∷ ss) k =
    total-append (one_bit (eqb q p) minus w k) (bits_of p minus ss (k + 1))
    ∙ ap (λ n. n + total_weight (bits_of p minus ss (k + 1))) (one-total (eqb q p) minus w k)
    ∙ ap (λ n. (if eqb q p then w else 0) + n) (totals p minus ss (k + 1))
totals p minus (Free ∷ ss) k = totals p minus ss (k + 1) ∙ omega arith

-- the levels from k on, as many as there are slots
abbrev IsFrom : ℕ → ℕ → Weighted → Type 0
IsFrom k n t = (k ≤ t.level) × (t.level < k + n)

one-from : (b minus : Bool) (w k n : ℕ) → All (IsFrom k (suc n)) (one_bit b minus w k)
one-from true minus w k n zero d less = (omega arith, omega arith)
one-from true minus w k n (suc i) d less = absurd (omega (arith, less))
one-from false minus w k n i d less = absurd (omega (arith, less))

levels_from : (p : ℕ) (minus : Bool) (slots : List Slot) (k : ℕ) → All (IsFrom k (length slots)) (bits_of p minus slots k)
levels_from p minus [] k = λ i d less. absurd (omega (arith, less))
levels_from p minus (Part q w ∷ ss) k =
    All-append (IsFrom k (suc (length ss))) (one_bit (eqb q p) minus w k) (bits_of p minus ss (k + 1)) (one-from (eqb q p) minus w k (length ss))
    (All-weaker (IsFrom (k + 1) (length ss)) (IsFrom k (suc (length ss))) (λ t h. (omega (arith, h.0), omega (arith, h.1))) (bits_of p minus ss (k + 1)) (levels_from p minus ss (k + 1)))
levels_from p minus (Free ∷ ss) k =
    All-weaker (IsFrom (k + 1) (length ss)) (IsFrom k (suc (length ss))) (λ t h. (omega (arith, h.0), omega (arith, h.1))) (bits_of p minus ss (k + 1)) (levels_from p minus ss (k + 1))

pub levels : (p : ℕ) (minus : Bool) (slots : List Slot) → All (λ t. t.level < length slots) (bits_of p minus slots 0)
levels p minus slots = All-weaker (IsFrom 0 (length slots)) (λ t. t.level < length slots) (λ t h. omega (arith, h.1)) (bits_of p minus slots 0) (levels_from p minus slots 0)

-- one slot more
pub bits_more : (p : ℕ) (minus : Bool) (slots : List Slot) (i : ℕ) → i < length slots
    → bits_of p minus (drop i slots) i ≡ option_to_list (bit_of p minus (get_or slots i Free) i) ++ bits_of p minus (drop (i + 1) slots) (i + 1)
bits_more p minus slots i less = ap (λ ss. bits_of p minus ss i) (drop_more slots i Free less)
