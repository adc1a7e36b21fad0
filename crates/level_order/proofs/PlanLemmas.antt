-- Plans of one machine.
use Rattle.std.proofs.Common.{◌≡◌, ℕ, List, [], All, sym, subst, arith}
use Rattle.rsml_ground.specs.declared.phrases.GroundPhrase.{GroundPhrase}
use Rattle.keyed_levels.specs.Keyed.{PhraseFits}

-- with no comparison beside the phrases of a machine all of them are
pub none_fit : (many : ℕ) (ps : List GroundPhrase) → ps ≡ [] → All (PhraseFits many) ps
none_fit many ps none = subst (λ (qs : List GroundPhrase). All (PhraseFits many) qs) (sym none) (λ k p less. absurd (omega (arith, less)))
