use Rattle.std.proofs.Common.{◌≡◌, ℕ, Bool, drop}
use Rattle.spelled_numbers.specs.Spelling.{total}
use Rattle.spelled_numbers.proofs.DigitLemmas.{Reached}
use Rattle.spelled_numbers.proofs.digits.digit.Given as goal

abbrev pub invariant-loop-place : goal.invariant-loop-place
invariant-loop-place l = record {
  later : l.later ≡ total l.part (drop l.place l.slots);
  reached : (numbers : ℕ → ℕ) (free : ℕ → Bool) → numbers l.part ≡ l.number → Reached l.part l.slots l.level l.place l.left numbers free;
}
