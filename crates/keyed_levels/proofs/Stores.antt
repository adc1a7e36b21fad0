-- What is stored is right.
use Rattle.std.proofs.Common.{◌≡◌, ℕ, ◌<◌, Bool, true, false, List, length, refl, nat_lt, slice_index_or, arith, ltb-true, ltb-false}
use Rattle.spelled_numbers.specs.declared.slot.Slot.{Slot}
use Rattle.world_levels.specs.Spelling.{free_from}
use Rattle.keyed_levels.proofs.Pairs.{rising}

-- two free levels that are equal stand at one place
pub one_place : (slots : List Slot) (i j : ℕ) → i < length (free_from slots 0) → j < length (free_from slots 0)
    → slice_index_or (free_from slots 0) i 0 ≡ slice_index_or (free_from slots 0) j 0 → i ≡ j
one_place slots i j hi hj same = by (nat_lt i j) (nat_lt j i) refl refl
  where
    by : (a b : Bool) → nat_lt i j ≡ a → nat_lt j i ≡ b → i ≡ j
    by true b ea eb = let r = rising slots 0 i j (ltb-true i j ea) hj in absurd (omega (arith, r, same))
    by false true ea eb = let r = rising slots 0 j i (ltb-true j i eb) hi in absurd (omega (arith, r, same))
    by false false ea eb = omega (arith, ltb-false i j ea, ltb-false j i eb)
