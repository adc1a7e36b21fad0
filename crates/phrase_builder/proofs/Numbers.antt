-- Small numbers.
use Rattle.std.proofs.Common.{ℕ, ◌≤◌, ℤ, pos, neg_ℤ, ◌≤ℤ◌, int_le, arith}
use Rattle.std.specs.Cmp.{first_so, second_so}
use Rattle.std.proofs.lemmas.Int.{ints}
use Rattle.rsml_ground.specs.Rests.{IsSmall}

pub small_low : (n : ℤ) → IsSmall n → neg_ℤ (pos 1000000000) ≤ℤ n
small_low n h =
    let l = first_so (int_le (neg_ℤ (pos 1000000000)) n) (int_le n (pos 1000000000)) h in
    grind (arith, ints)

pub small_high : (n : ℤ) → IsSmall n → n ≤ℤ pos 1000000000
small_high n h =
    let l = second_so (int_le (neg_ℤ (pos 1000000000)) n) (int_le n (pos 1000000000)) h in
    grind (arith, ints)

pub small_place : (n : ℕ) → IsSmall (pos n) → n ≤ 1000000000
small_place n h =
    let l = small_high (pos n) h in
    grind (arith, ints)
