-- The truths of phrases whose diagrams are given.
use Rattle.std.specs.Prelude.{ℕ, Bool, List, map}
use Rattle.bdd_core.specs.Diagram.{Diagram, meaning}

-- the truths of phrases, each of which has one of these diagrams, where the levels have these values
abbrev pub truths_at : Diagram → List ℕ → (ℕ → Bool) → List Bool
truths_at d diagrams values = map (λ f. meaning d f values) diagrams
