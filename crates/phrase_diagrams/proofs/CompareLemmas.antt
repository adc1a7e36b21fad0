-- The comparison of the levels of two sums is that of the sums.
use Rattle.std.proofs.Common.{◌≡◌, ℕ, Bool, true, false, List, ◌++◌, length, ◌∙◌, ap, arith, ℤ, ◌+ℤ◌, ◌-ℤ◌}
use Rattle.std.proofs.lemmas.Int.{ints}
use Rattle.rsml_syntax.specs.declared.syntax.Relation.{Relation}
use Rattle.rsml_syntax.specs.rules.Relations.{compare}
use Rattle.rsml_meaning.specs.Cells.{cells}
use Rattle.rsml_ground.specs.declared.sums.GroundSum.{GroundSum}
use Rattle.rsml_ground.specs.Rests.{SumFits}
use Rattle.rsml_ground.specs.Truths.{sum_number}
use Rattle.bdd_core.specs.Diagram.{Diagram}
use Rattle.bdd_core.specs.Calls.{Represents}
use Rattle.spelled_numbers.specs.declared.comparison.Comparison.{Comparison}
use Rattle.spelled_numbers.specs.declared.comparison.Comparison.TheVariants as comparisons
use Rattle.spelled_numbers.specs.declared.weighted.Weighted.{Weighted}
use Rattle.spelled_numbers.specs.Sums.{signed_sum, holds}
use Rattle.spelled_numbers.proofs.BitLemmas.{append}
use Rattle.world_levels.specs.Spelling.{WorldLevels}
use Rattle.phrase_diagrams.specs.Terms.{sum_base, sum_levels}
use Rattle.phrase_diagrams.proofs.SumLemmas.{numbers, sum_is}

-- both sides moved by as much
pub moved : (c : Comparison) (a b x y : ℤ) → a -ℤ b ≡ x -ℤ y → holds c a b ≡ holds c x y
moved comparisons.Equal a b x y e = grind (arith, ints)
moved comparisons.NotEqual a b x y e = grind (arith, ints)
moved comparisons.Less a b x y e = grind (arith, ints)
moved comparisons.LessEqual a b x y e = grind (arith, ints)
moved comparisons.Greater a b x y e = grind (arith, ints)
moved comparisons.GreaterEqual a b x y e = grind (arith, ints)

-- the comparison of the levels with a number is that of the sums
pub compare_is : (l : WorldLevels) (x y : GroundSum) (relation : Relation) (comparison : Comparison) (constant : ℤ)
    → SumFits (length (cells l.spec)) x → SumFits (length (cells l.spec)) y → constant ≡ sum_base l.spec y -ℤ sum_base l.spec x
    → ((a b : ℤ) → holds comparison a b ≡ compare relation a b) → (v : ℕ → Bool) (s : ℤ) → s ≡ signed_sum v (sum_levels l false x) +ℤ signed_sum v (sum_levels l true y)
    → holds comparison s constant ≡ compare relation (sum_number (numbers l v) x) (sum_number (numbers l v) y)
compare_is l x y relation comparison constant a b e same v s is =
    moved comparison s constant (sum_number (numbers l v) x) (sum_number (numbers l v) y) (omega (arith, ints, sum_is l v false x a, sum_is l v true y b, e, is))
    ∙ same (sum_number (numbers l v) x) (sum_number (numbers l v) y)

-- the function of the comparison is that of the relation
pub compare_tells : (d : Diagram) (l : WorldLevels) (x y : GroundSum) (relation : Relation) (comparison : Comparison) (constant : ℤ) (terms : List Weighted) (r : ℕ)
    → SumFits (length (cells l.spec)) x → SumFits (length (cells l.spec)) y → constant ≡ sum_base l.spec y -ℤ sum_base l.spec x
    → terms ≡ sum_levels l false x ++ sum_levels l true y → ((a b : ℤ) → holds comparison a b ≡ compare relation a b)
    → Represents d (λ v. holds comparison (signed_sum v terms) constant) r
    → Represents d (λ v. compare relation (sum_number (numbers l v) x) (sum_number (numbers l v) y)) r
compare_tells d l x y relation comparison constant terms r a b e is same h = record {
  is_ref = h.is_ref;
  means = λ v. h.means v
      ∙ compare_is l x y relation comparison constant a b e same v (signed_sum v terms) (ap (signed_sum v) is ∙ append v (sum_levels l false x) (sum_levels l true y));
}
