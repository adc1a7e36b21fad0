-- What the private steps promise each other. No public clause speaks of these.
use Rattle.std.specs.Prelude.{ℕ, ◌+◌, List, [], ◌∷◌, map, ℤ, pos, ◌+ℤ◌, ◌*ℤ◌}
use Rattle.linear_conflicts.specs.declared.multiplier.Multiplier.{Multiplier}

-- the sum of factors times the variables from k on
abbrev pub combination : (ℕ → ℤ) → List ℤ → ℕ → ℤ
combination v [] k = pos 0
combination v (f ∷ fs) k = f *ℤ v k +ℤ combination v fs (k + 1)

-- the places of the rows that are multiplied
abbrev pub places : List Multiplier → List ℕ
places multipliers = map (λ m. m.place) multipliers
