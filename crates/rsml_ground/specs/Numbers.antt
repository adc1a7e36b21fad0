-- Phrases with their places as their numbers.
use Rattle.std.specs.Prelude.{◌≡◌, ℕ, ◌⊎◌, List, [], ◌∷◌, ◌++◌, Some, slice_get}
use Rattle.rsml_ground.specs.declared.phrases.GroundPhrase.{GroundPhrase}

-- no phrase has two numbers
abbrev pub HaveOneNumber : List GroundPhrase → Type 0
HaveOneNumber ps = (j k : ℕ) (p : GroundPhrase) → slice_get ps j ≡ Some p → slice_get ps k ≡ Some p → j ≡ k

-- each phrase keeps its number
abbrev pub Keeps : List GroundPhrase → List GroundPhrase → Type 0
Keeps old new = (k : ℕ) (p : GroundPhrase) → slice_get old k ≡ Some p → slice_get new k ≡ Some p

-- a phrase has a number
abbrev pub HasNumber : List GroundPhrase → GroundPhrase → Type 0
HasNumber ps p = (k : ℕ) × (slice_get ps k ≡ Some p)

-- these phrases, and behind them the one, where it was not among them
abbrev pub IsWith : List GroundPhrase → GroundPhrase → List GroundPhrase → Type 0
IsWith old p new = (HasNumber old p × (new ≡ old)) ⊎ (new ≡ old ++ (p ∷ []))
