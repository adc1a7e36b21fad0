use Rattle.std.proofs.Common.{◌≡◌, ℤ, pos, int_lt, true, false, ◌*ℤ◌, ◌≤ℤ◌, arith, to_z, of_z, w64, refl, sym, subst}
use Rattle.std.proofs.lemmas.Int.{ints}
use Rattle.linear_conflicts.proofs.CombinationLemmas.{some_is}
use Rattle.linear_conflicts.proofs.ProductLemmas.{product_is, times_high, times_low}
use Rattle.linear_conflicts.proofs.combination.least_product.Goals as goal

pub returns-then-factor-gt0 : goal.returns-then-factor-gt0
returns-then-factor-gt0 c =
    let factor : to_z w64 (of_z w64 c.args.factor.now) ≡ c.args.factor.now = omega (arith, ints) in
    let end : to_z w64 (of_z w64 c.args.range.now.low) ≡ c.args.range.now.low = omega (arith, ints) in
    let same = product_is c.args.factor.now c.args.range.now.low _ _ _ factor end refl in
    some_is c.checked_mul.result _ _ (λ least. (x : ℤ) → c.args.range.now.low ≤ℤ x → x ≤ℤ c.args.range.now.high → least ≤ℤ (c.args.factor.now *ℤ x)) c.checked_mul.ensures
    (λ x low high. subst (λ (z : ℤ). z ≤ℤ (c.args.factor.now *ℤ x)) (sym same) (times_low c.args.factor.now c.args.range.now.low x (subst (λ (z : ℤ). int_lt (pos 0) z ≡ true) factor c.if-factor-gt0.true) low))

pub returns-else-factor-gt0 : goal.returns-else-factor-gt0
returns-else-factor-gt0 c =
    let factor : to_z w64 (of_z w64 c.args.factor.now) ≡ c.args.factor.now = omega (arith, ints) in
    let end : to_z w64 (of_z w64 c.args.range.now.high) ≡ c.args.range.now.high = omega (arith, ints) in
    let same = product_is c.args.factor.now c.args.range.now.high _ _ _ factor end refl in
    some_is c.checked_mul-else-factor-gt0.result _ _ (λ least. (x : ℤ) → c.args.range.now.low ≤ℤ x → x ≤ℤ c.args.range.now.high → least ≤ℤ (c.args.factor.now *ℤ x)) c.checked_mul-else-factor-gt0.ensures
    (λ x low high. subst (λ (z : ℤ). z ≤ℤ (c.args.factor.now *ℤ x)) (sym same) (times_high c.args.factor.now x c.args.range.now.high (subst (λ (z : ℤ). int_lt (pos 0) z ≡ false) factor c.if-factor-gt0.false) high))
