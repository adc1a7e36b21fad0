-- A signed sum is a sum of the levels that count, less what is taken off at most.
use Rattle.std.proofs.Common.{◌≡◌, ℕ, suc, ◌+◌, leb, Bool, true, false, not, if◌then◌else◌, List, [], ◌∷◌, refl, sym, ◌∙◌, ap, arith, pos, neg_ℤ, ◌+ℤ◌, ◌-ℤ◌, ◌<ℤ◌, ℤ, int_lt, int_le, ◌&&◌}
use Rattle.std.specs.Ordering.{int_eq}
use Rattle.std.proofs.lemmas.Int.{ints}
use Rattle.std.proofs.lemmas.Bool.Decides.{leb_tells}
use Rattle.bdd_core.specs.Diagram.{Diagram}
use Rattle.bdd_core.specs.Calls.{Represents}
use Rattle.spelled_numbers.specs.declared.weighted.Weighted.{Weighted}
use Rattle.spelled_numbers.specs.Sums.{signed_sum, weight_sum, AddOnly}
use Rattle.spelled_numbers.specs.Steps.{counts, counted, taken_off, IsAtMost}

one_term : (v minus : Bool) (w : ℕ) → (if v then (if minus then neg_ℤ (pos w) else pos w) else pos 0) +ℤ pos (if minus then w else 0) ≡ pos (if (if minus then not v else v) then w else 0)
one_term true true w = omega (arith, ints)
one_term true false w = omega (arith, ints)
one_term false true w = omega (arith, ints)
one_term false false w = omega (arith, ints)

pub signed-counted : (v : ℕ → Bool) (terms : List Weighted) → signed_sum v terms +ℤ pos (taken_off terms) ≡ pos (counted v terms)
signed-counted v [] = refl
signed-counted v (t ∷ ts) = omega (arith, ints, signed-counted v ts, one_term (v t.level) t.minus t.weight)

up_to_room : (s b : ℤ) (off n room : ℕ) → s +ℤ pos off ≡ pos n → pos room ≡ b +ℤ pos off → int_le s b ≡ leb n room
up_to_room s b off n room e f = grind (arith, ints, leb_tells n room)

never_up_to : (s b : ℤ) (off n : ℕ) → s +ℤ pos off ≡ pos n → (b +ℤ pos off) <ℤ pos 0 → int_le s b ≡ false
never_up_to s b off n e f = grind (arith, ints)

-- r is true exactly where the sum is at most the bound
abbrev pub IsUpTo : Diagram → List Weighted → ℤ → ℕ → Type 0
IsUpTo d terms bound r = Represents d (λ v. int_le (signed_sum v terms) bound) r

pub within_room : (d : Diagram) (terms : List Weighted) (bound : ℤ) (room r : ℕ) → pos room ≡ bound +ℤ pos (taken_off terms) → IsAtMost d terms room r → Represents d (λ v. int_le (signed_sum v terms) bound) r
within_room d terms bound room r e h = record { is_ref = h.is_ref; means = λ v. h.means v ∙ sym (up_to_room (signed_sum v terms) bound (taken_off terms) (counted v terms) room (signed-counted v terms) e) }

pub no_room : (d : Diagram) (terms : List Weighted) (bound : ℤ) (r : ℕ) → (bound +ℤ pos (taken_off terms)) <ℤ pos 0 → Represents d (λ v. false) r → Represents d (λ v. int_le (signed_sum v terms) bound) r
no_room d terms bound r e h = record { is_ref = h.is_ref; means = λ v. h.means v ∙ sym (never_up_to (signed_sum v terms) bound (taken_off terms) (counted v terms) (signed-counted v terms) e) }

pub not_up_to : (x y : ℤ) → not (int_le x y) ≡ int_lt y x
not_up_to x y = grind (arith, ints)

pub one_less : (x y z : ℤ) → z ≡ y -ℤ pos 1 → int_le x z ≡ int_lt x y
one_less x y z e = grind (arith, ints)

pub one_less-above : (x y z : ℤ) → z ≡ y -ℤ pos 1 → int_lt z x ≡ int_le y x
one_less-above x y z e = grind (arith, ints)

pub both_ways : (x y z : ℤ) → z ≡ y -ℤ pos 1 → (int_le x y && int_lt z x) ≡ int_eq x y
both_ways x y z e = grind (arith, ints)

counts_plain : (t : Weighted) (b : Bool) → t.minus ≡ false → counts b t ≡ b
counts_plain t b e = ap (λ m. if m then not b else b) e

counted_plain : (v : ℕ → Bool) (terms : List Weighted) → AddOnly terms → counted v terms ≡ weight_sum v terms
counted_plain v [] all = refl
counted_plain v (t ∷ ts) all =
    ap (λ b. (if b then t.weight else 0) + counted v ts) (counts_plain t (v t.level) (all 0 t (omega arith)))
    ∙ ap (λ n. (if v t.level then t.weight else 0) + n) (counted_plain v ts (λ k d less. all (suc k) d (omega (arith, less))))

-- where nothing is taken off, the levels that count are the true ones
pub at_most-plain : (d : Diagram) (terms : List Weighted) (most r : ℕ) → AddOnly terms → IsAtMost d terms most r → Represents d (λ v. leb (weight_sum v terms) most) r
at_most-plain d terms most r all h = record { is_ref = h.is_ref; means = λ v. h.means v ∙ ap (λ n. leb n most) (counted_plain v terms all) }
