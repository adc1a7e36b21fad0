-- Comparisons that are copied.
use Rattle.std.proofs.Common.{◌≡◌, ℕ, List, [], ◌∷◌, ◌++◌, All, sym, subst}
use Rattle.std.proofs.lemmas.List.Elements.{All-push}
use Rattle.rsml_syntax.specs.declared.syntax.Relation.{Relation}
use Rattle.rsml_ground.specs.declared.sums.GroundTerm.{GroundTerm}
use Rattle.rsml_ground.specs.declared.sums.GroundSum.{GroundSum}
use Rattle.rsml_ground.specs.declared.definitions.Definition.{Definition}
use Rattle.rsml_ground.specs.declared.phrases.GroundPhrase.{GroundPhrase}
use Rattle.rsml_ground.specs.declared.phrases.GroundPhrase.TheVariants as phrases
use Rattle.rsml_ground.specs.Rests.{RestsOn, SumFits}
use Rattle.keyed_levels.specs.Keyed.{PhraseFits}

-- a sum of the same terms fits
same_fits : (cells : ℕ) (x y : GroundSum) → y.terms ≡ x.terms → SumFits cells x → SumFits cells y
same_fits cells x y same fits = subst (λ (ts : List GroundTerm). SumFits cells (record { terms = ts })) (sym same) fits

-- with a copy of a comparison each still fits
pub copy_fits : (definitions : List Definition) (cells n : ℕ) (p : GroundPhrase) (left right copied_left copied_right : GroundSum) (relation : Relation) (old new : List GroundPhrase) → p ≡ phrases.Compare left relation right
    → copied_left.terms ≡ left.terms → copied_right.terms ≡ right.terms → new ≡ old ++ (phrases.Compare copied_left relation copied_right ∷ []) → RestsOn definitions cells n p → All (PhraseFits cells) old
    → All (PhraseFits cells) new
copy_fits definitions cells n p left right copied_left copied_right relation old new is one two push rests fit =
    let fits = subst (RestsOn definitions cells n) is rests in
    subst (All (PhraseFits cells)) (sym push)
    (All-push (PhraseFits cells) old (phrases.Compare copied_left relation copied_right) fit (same_fits cells left copied_left one fits.0, same_fits cells right copied_right two fits.1))
