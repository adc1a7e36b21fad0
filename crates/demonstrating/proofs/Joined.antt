-- Pieces at the end of a text.
use Rattle.std.proofs.Common.{◌≡◌, ℕ, List, [], ◌++◌, sym, ap, ◌∙◌, append_assoc, append-nil}
use Rattle.demonstrating.specs.Text.{Puts}

pub piece_put : (old new piece : List ℕ) → new ≡ old ++ piece → Puts old new (λ rest. piece ++ rest)
piece_put old new piece e rest = ap (λ text. text ++ rest) e ∙ append_assoc old piece rest

-- two pieces in turn, from nothing
pub two_put : (start middle end : List ℕ) (f g : List ℕ → List ℕ) → start ≡ [] → Puts start middle f → Puts middle end g → end ≡ f (g [])
two_put start middle end f g e p q = sym (append-nil end) ∙ q [] ∙ p (g []) ∙ ap (λ text. text ++ f (g [])) e
