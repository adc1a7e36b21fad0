-- The laws of spelling.
use Rattle.std.specs.Prelude.{◌≡◌, ℕ, ◌<◌, ◌≤◌, Bool, false, List, ◌++◌, length, slice_get, slice_index_or, Some, sum, All, if◌then◌else◌, pos, neg_ℤ, ◌+ℤ◌}
use Rattle.bdd_core.specs.Calls.{with_value}
use Rattle.spelled_numbers.specs.declared.weighted.Weighted.{Weighted}
use Rattle.spelled_numbers.specs.Sums.{signed_sum, weight_sum, total_weight}
use Rattle.spelled_numbers.specs.declared.slot.Slot.{Slot}
use Rattle.spelled_numbers.specs.declared.slot.Slot.TheVariants.{Free}
use Rattle.spelled_numbers.specs.Weights.{IsCovering}
use Rattle.spelled_numbers.specs.Spelling.{weight_for, total, number, Covers, weights_of, spelled}
use Rattle.spelled_numbers.specs.Bits.{bits_of}

-- all numbers within the totals are spelled
abbrev pub EveryLaw : Type 0
EveryLaw = (slots : List Slot) → Covers slots → (numbers : ℕ → ℕ) → ((p : ℕ) → numbers p ≤ total p slots) → (free : ℕ → Bool)
    → (p : ℕ) → number p slots (spelled slots numbers free) 0 ≡ numbers p

-- all values spell numbers within the totals
abbrev pub WithinLaw : Type 0
WithinLaw = (p : ℕ) (slots : List Slot) (values : ℕ → Bool) → number p slots values 0 ≤ total p slots

-- a free level has the value that it was given
abbrev pub FreeLaw : Type 0
FreeLaw = (slots : List Slot) (numbers : ℕ → ℕ) (free : ℕ → Bool) (level : ℕ) → slice_get slots level ≡ Some Free
    → spelled slots numbers free level ≡ free level

-- a part's number does not depend on a level that has no weight for it
abbrev pub ElsewhereLaw : Type 0
ElsewhereLaw = (p : ℕ) (slots : List Slot) (values : ℕ → Bool) (level : ℕ) (value : Bool) → weight_for p (slice_index_or slots level Free) ≡ 0
    → number p slots (with_value values level value) 0 ≡ number p slots values 0

-- a layout covers where the weights of each part do
abbrev pub CoverLaw : Type 0
CoverLaw = (slots : List Slot) → ((p : ℕ) → IsCovering (weights_of p slots)) → Covers slots

-- the greatest number of a part is the sum of its weights
abbrev pub TotalLaw : Type 0
TotalLaw = (p : ℕ) (slots : List Slot) → total p slots ≡ sum (weights_of p slots)

-- the weights of a part's true levels sum to its number
abbrev pub WeightSumLaw : Type 0
WeightSumLaw = (p : ℕ) (slots : List Slot) (values : ℕ → Bool) → weight_sum values (bits_of p false slots 0) ≡ number p slots values 0

-- and so do they with a sign
abbrev pub SignedSumLaw : Type 0
SignedSumLaw = (p : ℕ) (minus : Bool) (slots : List Slot) (values : ℕ → Bool)
    → signed_sum values (bits_of p minus slots 0) ≡ (if minus then neg_ℤ (pos (number p slots values 0)) else pos (number p slots values 0))

-- a sum of more terms is the sum of the sums
abbrev pub AppendLaw : Type 0
AppendLaw = (values : ℕ → Bool) (some more : List Weighted) → signed_sum values (some ++ more) ≡ signed_sum values some +ℤ signed_sum values more

-- the weights of a part sum to its greatest number
abbrev pub AllWeightsLaw : Type 0
AllWeightsLaw = (p : ℕ) (minus : Bool) (slots : List Slot) → total_weight (bits_of p minus slots 0) ≡ total p slots

-- the levels of a part are levels of the layout
abbrev pub LevelsLaw : Type 0
LevelsLaw = (p : ℕ) (minus : Bool) (slots : List Slot) → All (λ t. t.level < length slots) (bits_of p minus slots 0)
