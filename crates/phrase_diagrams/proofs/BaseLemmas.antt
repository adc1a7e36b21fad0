-- What sums come to where each cell has its least number, term by term.
use Rattle.std.proofs.Common.{◌≡◌, ℕ, ◌+◌, ◌<◌, List, length, get_or, drop, fold, ℤ, ◌+ℤ◌, sym, ap, ◌∙◌, add-one, drop-cons}
use Rattle.rsml_syntax.specs.declared.syntax.Spec.{Spec}
use Rattle.rsml_ground.specs.declared.sums.GroundTerm.{GroundTerm}
use Rattle.phrase_diagrams.specs.Terms.{term_base}

-- one more term
pub base_more : (s : Spec) (ts : List GroundTerm) (i : ℕ) (d : GroundTerm) (a b whole : ℤ) → i < length ts
    → b ≡ a +ℤ term_base s (get_or ts i d)
    → fold (λ a t. a +ℤ term_base s t) a (drop i ts) ≡ whole
    → fold (λ a t. a +ℤ term_base s t) b (drop (i + 1) ts) ≡ whole
base_more s ts i d a b whole h added before =
    ap (λ z. fold (λ a t. a +ℤ term_base s t) z (drop (i + 1) ts)) added
    ∙ ap (λ k. fold (λ a t. a +ℤ term_base s t) (a +ℤ term_base s (get_or ts i d)) (drop k ts)) (add-one i)
    ∙ ap (fold (λ a t. a +ℤ term_base s t) a) (sym (drop-cons ts i d h)) ∙ before
