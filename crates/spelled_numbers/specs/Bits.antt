-- The levels of a part, as terms of a sum.
use Rattle.std.specs.Prelude.{ℕ, ◌+◌, ◌==◌, Bool, if◌then◌else◌, List, [], ◌∷◌, ◌++◌, Option, Some, None, option_to_list}
use Rattle.spelled_numbers.specs.declared.weighted.Weighted.{Weighted}
use Rattle.spelled_numbers.specs.declared.slot.Slot.{Slot}
use Rattle.spelled_numbers.specs.declared.slot.Slot.TheVariants.{Part, Free}

-- a level, where it is the part's
abbrev pub bit_of : ℕ → Bool → Slot → ℕ → Option Weighted
bit_of p minus (Part q w) k = if q == p then Some (record { minus = minus; level = k; weight = w }) else None
bit_of p minus Free k = None

-- the levels of a part from k on
abbrev pub bits_of : ℕ → Bool → List Slot → ℕ → List Weighted
bits_of p minus [] k = []
bits_of p minus (s ∷ ss) k = option_to_list (bit_of p minus s k) ++ bits_of p minus ss (k + 1)
