-- Comparisons of one term with one term.
use Rattle.std.specs.Prelude.{List, [], ◌∷◌, Option, Some, None}
use Rattle.rsml_syntax.specs.declared.syntax.Relation.{Relation}
use Rattle.rsml_ground.specs.declared.sums.GroundTerm.{GroundTerm}
use Rattle.rsml_ground.specs.declared.sums.GroundSum.{GroundSum}
use Rattle.rsml_ground.specs.declared.phrases.GroundPhrase.{GroundPhrase}
use Rattle.rsml_ground.specs.declared.phrases.GroundPhrase.TheVariants as phrases
use Rattle.macros.specs.declared.pairs.Pair.{Pair}

-- the term of a list of one term
abbrev pub only : List GroundTerm → Option GroundTerm
only [] = None
only (t ∷ []) = Some t
only (t ∷ u ∷ ts) = None

-- the term of a sum of one term
abbrev pub one_term : GroundSum → Option GroundTerm
one_term x = only x.terms

-- the comparison of two terms, where both are there
abbrev pub paired : Option GroundTerm → Relation → Option GroundTerm → Option Pair
paired None relation right = None
paired (Some left) relation None = None
paired (Some left) relation (Some right) = Some (record { left = left; relation = relation; right = right })

-- the comparison of one term with one term that a phrase is
abbrev pub pair_of : GroundPhrase → Option Pair
pair_of (phrases.Compare left relation right) = paired (one_term left) relation (one_term right)
pair_of _ = None
