-- Weights that cover, where more is left to come.
use Rattle.std.proofs.Common.{◌≡◌, ℕ, ◌+◌, ◌≤◌, List, [], ◌∷◌, ◌++◌, sum, subst, arith}
use Rattle.std.proofs.lemmas.List.Sums.{sum_by_push}
use Rattle.spelled_numbers.specs.Weights.{IsCovering}

-- each weight is at most one more than the sum of the later ones and of what is left
abbrev pub CoversWith : List ℕ → ℕ → Type 0
CoversWith [] left = Unit {0}
CoversWith (w ∷ ws) left = (w ≤ sum ws + left + 1) × CoversWith ws left

push : (ws : List ℕ) (w left more : ℕ) → more ≡ w + left → w ≤ left + 1 → CoversWith ws more → CoversWith (ws ++ w ∷ []) left
push [] w left more e h c = (omega (arith, h), tt)
push (x ∷ xs) w left more e h c = (omega (arith, c.0, e, sum_by_push (λ (n : ℕ). n) xs w), push xs w left more e h c.1)

ends : (ws : List ℕ) → CoversWith ws 0 → IsCovering ws
ends [] c = tt
ends (w ∷ ws) c = (omega (arith, c.0), ends ws c.1)

-- the weights so far and what is left
pub record AreWeights (span left : ℕ) (ws : List ℕ) : Type 0 where
  pub whole : sum ws + left ≡ span
  pub covers : CoversWith ws left

pub one_weight : (span left more w : ℕ) (ws : List ℕ) → AreWeights span more ws → more ≡ w + left → w ≤ left + 1 → AreWeights span left (ws ++ w ∷ [])
one_weight span left more w ws are e h = record { whole = omega (arith, are.whole, e, sum_by_push (λ (n : ℕ). n) ws w); covers = push ws w left more e h are.covers }

pub all_weights : (span left : ℕ) (ws : List ℕ) → AreWeights span left ws → left ≤ 0 → sum ws ≡ span
all_weights span left ws are none = omega (arith, are.whole, none)

pub all_cover : (span left : ℕ) (ws : List ℕ) → AreWeights span left ws → left ≡ 0 → IsCovering ws
all_cover span left ws are none = ends ws (subst (CoversWith ws) none are.covers)
