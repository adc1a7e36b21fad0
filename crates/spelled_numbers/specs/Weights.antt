-- Weights that spell each number up to their sum.
use Rattle.std.specs.Prelude.{ℕ, ◌+◌, ◌≤◌, List, [], ◌∷◌, sum, ⊤}

-- each weight is at most one more than the sum of the later ones
abbrev pub IsCovering : List ℕ → Type 0
IsCovering [] = ⊤
IsCovering (w ∷ ws) = (w ≤ sum ws + 1) × IsCovering ws
