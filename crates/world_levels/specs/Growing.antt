-- Levels that parts take one after another.
use Rattle.std.specs.Prelude.{◌≡◌, ℕ, ◌+◌, ◌≤◌, ◌^◌, List, length, slice_index_or}
use Rattle.spelled_numbers.specs.declared.slot.Slot.{Slot}
use Rattle.spelled_numbers.specs.Spelling.{weights_of}
use Rattle.spelled_numbers.proofs.WeightLemmas.{AreWeights}
use Rattle.world_levels.specs.Spelling.{free_from}

-- The weights of each part and what it lacks come to its span, and each weight is at most one more than what comes after it.
pub record Growing (spans : ℕ → ℕ) (slots : List Slot) (left : List ℕ) : Type 0 where
  pub each : (p : ℕ) → AreWeights (spans p) (slice_index_or left p 0) (weights_of p slots)
  pub few : length slots ≤ 2 ^ 31

-- Levels are added, so many of them free. No part lacks more than before.
pub record Grows (frees : ℕ) (slots more : List Slot) (left rest : List ℕ) : Type 0 where
  pub growing : (spans : ℕ → ℕ) → Growing spans slots left → Growing spans more rest
  pub free : length (free_from more 0) ≡ length (free_from slots 0) + frees
  pub parts : length rest ≡ length left
  pub less : (p : ℕ) → slice_index_or rest p 0 ≤ slice_index_or left p 0
