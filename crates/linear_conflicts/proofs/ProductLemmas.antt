-- Products of whole numbers.
use Rattle.std.proofs.Common.{◌∙◌, ◌≡◌, zero, suc, ◌+◌, ◌*◌, ◌≤◌, ap, arith, ℤ, pos, negsuc, ◌+ℤ◌, ◌*ℤ◌, ◌≤ℤ◌, int_lt, true, false}
use Rattle.std.proofs.lemmas.Int.{ints}
use Rattle.std.proofs.Math.Nat.{mul-le-mul_left}
use borrow.Author.Differences.{up, down}

pub sum_times : (a b x : ℤ) → (a +ℤ b) *ℤ x ≡ a *ℤ x +ℤ b *ℤ x
sum_times a b x =
    let sum : up (a +ℤ b) + (down a + down b) ≡ down (a +ℤ b) + (up a + up b) = omega (arith, ints) in
    omega (arith, ints, ap (λ k. k * up x) sum, ap (λ k. k * down x) sum)

pub times_sum : (w a b : ℤ) → w *ℤ (a +ℤ b) ≡ w *ℤ a +ℤ w *ℤ b
times_sum w a b =
    let sum : up (a +ℤ b) + (down a + down b) ≡ down (a +ℤ b) + (up a + up b) = omega (arith, ints) in
    omega (arith, ints, ap (λ k. up w * k) sum, ap (λ k. down w * k) sum)

pub times_times : (w a x : ℤ) → (w *ℤ a) *ℤ x ≡ w *ℤ (a *ℤ x)
times_times w a x =
    let left : up (w *ℤ a) + (up w * down a + down w * up a) ≡ down (w *ℤ a) + (up w * up a + down w * down a) = omega (arith, ints) in
    let right : up (a *ℤ x) + (up a * down x + down a * up x) ≡ down (a *ℤ x) + (up a * up x + down a * down x) = omega (arith, ints) in
    omega (arith, ints, ap (λ k. k * up x) left, ap (λ k. k * down x) left, ap (λ k. up w * k) right, ap (λ k. down w * k) right)

-- an order is kept by a factor that is not negative
pub times_at_most : (w a b : ℤ) → pos 0 ≤ℤ w → a ≤ℤ b → (w *ℤ a) ≤ℤ (w *ℤ b)
times_at_most (pos n) a b p h =
    let order : up a + down b ≤ up b + down a = omega (arith, ints) in
    omega (arith, ints, mul-le-mul_left n order)
times_at_most (negsuc n) a b p h = absurd (omega (arith, ints))

-- and turned by one that is not positive
pub times_at_least : (w a b : ℤ) → w ≤ℤ pos 0 → a ≤ℤ b → (w *ℤ b) ≤ℤ (w *ℤ a)
times_at_least (pos zero) a b p h = omega (arith, ints)
times_at_least (pos (suc n)) a b p h = absurd (omega (arith, ints))
times_at_least (negsuc n) a b p h =
    let order : up a + down b ≤ up b + down a = omega (arith, ints) in
    omega (arith, ints, mul-le-mul_left (suc n) order)

pub times_low : (f low x : ℤ) → int_lt (pos 0) f ≡ true → low ≤ℤ x → (f *ℤ low) ≤ℤ (f *ℤ x)
times_low f low x p h = times_at_most f low x (omega (arith, ints)) h

pub times_high : (f x high : ℤ) → int_lt (pos 0) f ≡ false → x ≤ℤ high → (f *ℤ high) ≤ℤ (f *ℤ x)
times_high f x high p h = times_at_least f x high (omega (arith, ints)) h

-- a product of numbers that are these
pub product_is : (w f p w' f' : ℤ) → w' ≡ w → f' ≡ f → p ≡ w' *ℤ f' → p ≡ w *ℤ f
product_is w f p w' f' a b h = h ∙ ap (λ x. x *ℤ f') a ∙ ap (λ x. w *ℤ x) b
