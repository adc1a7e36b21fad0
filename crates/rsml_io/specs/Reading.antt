-- What a read gives of a file, and how far it reaches.
use Rattle.std.specs.Prelude.{◌≡◌, ℕ, ◌+◌, ◌≤◌, ◌⊎◌, ◌↔◌, List, [], length, take, drop, max, Option, IfSome, option_map, if◌then◌else◌, ◌==◌}

-- a read from `at` on put n bytes of the file into the front of `into`: none exactly where `into` is empty or the file
-- ends at or before `at`
pub record GivesPiece (file : List ℕ) (at : ℕ) (into : List ℕ) (n : ℕ) : Type 0 where
  pub same : take n into ≡ take n (drop at file)
  pub inside : at + n ≤ max at (length file)
  pub none : (n ≡ 0) ↔ ((into ≡ []) ⊎ (length file ≤ at))

-- a reach, where it is told, that is at least this
abbrev pub raised : Option ℕ → ℕ → Option ℕ
raised reach to = option_map (λ r. max r to) reach

-- the reach of a file after a read of n bytes from `at` on
abbrev pub reach_after : Option ℕ → ℕ → ℕ → Option ℕ
reach_after reach at n = if n == 0 then reach else raised reach (at + n)

-- how far a file was read before, and after: no further than this place, or not at all
abbrev pub HasReached : Option ℕ → ℕ → Option ℕ → Type 0
HasReached before to after = IfSome before (λ b. IfSome after (λ a. a ≤ max b to))
