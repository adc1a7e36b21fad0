-- Numbers too far from 0 for any sum.
use Rattle.std.proofs.Common.{◌≡◌, ℕ, ◌≤◌, Bool, true, false, List, [], ◌∷◌, length, ◌∙◌, ap, arith, ℤ, ◌-ℤ◌, ◌<ℤ◌}
use Rattle.std.proofs.lemmas.Int.{ints}
use Rattle.rsml_syntax.specs.declared.syntax.Relation.{Relation}
use Rattle.rsml_syntax.specs.declared.syntax.Relation.TheVariants as relation
use Rattle.rsml_syntax.specs.rules.Relations.{compare}
use Rattle.rsml_meaning.specs.Cells.{cells}
use Rattle.rsml_ground.specs.declared.sums.GroundSum.{GroundSum}
use Rattle.rsml_ground.specs.Rests.{SumFits}
use Rattle.rsml_ground.specs.Truths.{sum_number}
use Rattle.bdd_core.specs.Diagram.{Diagram}
use Rattle.bdd_core.specs.Calls.{Represents}
use Rattle.spelled_numbers.specs.declared.comparison.Comparison.{Comparison}
use Rattle.spelled_numbers.specs.declared.weighted.Weighted.{Weighted}
use Rattle.spelled_numbers.specs.Sums.{term_value, signed_sum, total_weight, holds}
use Rattle.spelled_numbers.specs.Spelling.{total}
use Rattle.world_levels.specs.Spelling.{WorldLevels}
use Rattle.phrase_diagrams.specs.Signs.{IsWithin}
use Rattle.phrase_diagrams.specs.Terms.{sum_base, sum_levels}
use Rattle.phrase_diagrams.proofs.SumLemmas.{numbers, sum_is, terms_total}
use Rattle.phrase_diagrams.proofs.CompareLemmas.{moved}

-- all numbers above one compare with it in the same way
pub too_great : (r : Relation) (x a b : ℤ) → x <ℤ a → x <ℤ b → compare r x a ≡ compare r x b
too_great relation.Equal x a b h k = grind (arith, ints)
too_great relation.NotEqual x a b h k = grind (arith, ints)
too_great relation.Less x a b h k = grind (arith, ints)
too_great relation.LessEqual x a b h k = grind (arith, ints)
too_great relation.Greater x a b h k = grind (arith, ints)
too_great relation.GreaterEqual x a b h k = grind (arith, ints)

-- and so do all below it
pub too_small : (r : Relation) (x a b : ℤ) → a <ℤ x → b <ℤ x → compare r x a ≡ compare r x b
too_small relation.Equal x a b h k = grind (arith, ints)
too_small relation.NotEqual x a b h k = grind (arith, ints)
too_small relation.Less x a b h k = grind (arith, ints)
too_small relation.LessEqual x a b h k = grind (arith, ints)
too_small relation.Greater x a b h k = grind (arith, ints)
too_small relation.GreaterEqual x a b h k = grind (arith, ints)

value_within : (b : Bool) (t : Weighted) → IsWithin t.weight (term_value b t)
value_within b t = by b t.minus
  where
    by : (b m : Bool) → IsWithin t.weight (term_value b (record t { minus = m }))
    by true true = record { least = omega (arith, ints); most = omega (arith, ints) }
    by true false = record { least = omega (arith, ints); most = omega (arith, ints) }
    by false m = record { least = omega (arith, ints); most = omega (arith, ints) }

-- a signed sum is no farther from 0 than the sum of all weights
sum_within : (v : ℕ → Bool) (ts : List Weighted) → IsWithin (total_weight ts) (signed_sum v ts)
sum_within v [] = record { least = omega (arith, ints); most = omega (arith, ints) }
sum_within v (t ∷ ts) =
    let a = value_within (v t.level) t in
    let b = sum_within v ts in
    record { least = omega (arith, ints, a.least, b.least); most = omega (arith, ints, a.most, b.most) }

-- no sum of cells is far from 0
pub number_within : (l : WorldLevels) (v : ℕ → Bool) (x : GroundSum) → ((p : ℕ) → total p l.slots ≤ 2000000000) → SumFits (length (cells l.spec)) x → IsWithin 8000000000 (sum_base l.spec x)
    → IsWithin 100000000000 (sum_number (numbers l v) x)
number_within l v x small fits base =
    let sum = sum_within v (sum_levels l false x) in
    let few = terms_total l false x.terms small in
    let is = sum_is l v false x fits in
    record {
      least = omega (arith, ints, sum.least, few, fits.few, is, base.least);
      most = omega (arith, ints, sum.most, few, fits.few, is, base.most);
    }

-- the comparison of the levels of a sum with a number is that of the sum
pub compare_number_tells : (d : Diagram) (l : WorldLevels) (x : GroundSum) (relation : Relation) (comparison : Comparison) (number near constant : ℤ) (terms : List Weighted) (r : ℕ)
    → ((p : ℕ) → total p l.slots ≤ 2000000000) → SumFits (length (cells l.spec)) x → IsWithin 8000000000 (sum_base l.spec x)
    → ((relation : Relation) (y : ℤ) → IsWithin 100000000000 y → compare relation y near ≡ compare relation y number)
    → constant ≡ near -ℤ sum_base l.spec x → terms ≡ sum_levels l false x → ((a b : ℤ) → holds comparison a b ≡ compare relation a b)
    → Represents d (λ v. holds comparison (signed_sum v terms) constant) r
    → Represents d (λ v. compare relation (sum_number (numbers l v) x) number) r
compare_number_tells d l x relation comparison number near constant terms r small fits base alike is are same h = record {
  is_ref = h.is_ref;
  means = λ v. h.means v
      ∙ moved comparison (signed_sum v terms) constant (sum_number (numbers l v) x) near (omega (arith, ints, sum_is l v false x fits, ap (signed_sum v) are, is))
      ∙ same (sum_number (numbers l v) x) near
      ∙ alike relation (sum_number (numbers l v) x) (number_within l v x small fits base);
}
