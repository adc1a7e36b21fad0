-- The lines of the events, one after another.
use Rattle.std.proofs.Common.{◌≡◌, ℕ, List, ◌∷◌, ◌++◌, sym, ap, append_assoc}
use Rattle.std.specs.Prelude.{codes, decimal}
use Rattle.demonstrating.specs.Events.{load}

pub load_parts : (unit depth : ℕ) (rest : List ℕ)
    → codes "Load[" ++ (decimal unit ++ (codes "] Depth=" ++ (decimal depth ++ (10 ∷ rest)))) ≡ load unit depth ++ (10 ∷ rest)
load_parts unit depth rest =
    ap (λ r. codes "Load[" ++ r) (sym (append_assoc (decimal unit) (codes "] Depth=" ++ decimal depth) (10 ∷ rest)))
