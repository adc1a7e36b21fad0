-- The values of the cases of a function.
use Rattle.std.proofs.Common.{◌≡◌, Bool, true, false, ◌&&◌, ◌||◌, List, [], ◌∷◌, ◌++◌, if◌then◌else◌, refl, sym, ap, ◌∙◌, ℤ}
use Rattle.std.specs.List.{list_any}
use Rattle.rsml_syntax.specs.rules.Relations.{compare}
use Rattle.rsml_ground.specs.declared.definitions.GroundCase.{GroundCase}
use Rattle.rsml_ground.specs.Truths.{case_values, guard_truth, sum_number}
use Rattle.guard_encode.specs.declared.test.Test.{Test}
use Rattle.guard_encode.specs.Phrases.{case_holds}

-- some value of the cases with a true guard is in the relation exactly where some case has both
pub values_any : (test : Test) (cells : List ℤ) (truths : List Bool) (cases : List GroundCase)
    → list_any (case_holds test cells truths) cases ≡ list_any (λ x. compare test.relation x test.number) (case_values cells truths cases)
values_any test cells truths [] = refl
values_any test cells truths (c ∷ cs) = by (guard_truth truths c.guard) refl (values_any test cells truths cs)
  where
    by : (b : Bool) → guard_truth truths c.guard ≡ b → list_any (case_holds test cells truths) cs ≡ list_any (λ x. compare test.relation x test.number) (case_values cells truths cs)
        → list_any (case_holds test cells truths) (c ∷ cs) ≡ list_any (λ x. compare test.relation x test.number) (case_values cells truths (c ∷ cs))
    by true e rest =
        ap (λ b. (b && compare test.relation (sum_number cells c.value) test.number) || list_any (case_holds test cells truths) cs) e
        ∙ ap (λ t. compare test.relation (sum_number cells c.value) test.number || t) rest
        ∙ sym (ap (λ b. list_any (λ x. compare test.relation x test.number) ((if b then sum_number cells c.value ∷ [] else []) ++ case_values cells truths cs)) e)
    by false e rest =
        ap (λ b. (b && compare test.relation (sum_number cells c.value) test.number) || list_any (case_holds test cells truths) cs) e
        ∙ rest
        ∙ sym (ap (λ b. list_any (λ x. compare test.relation x test.number) ((if b then sum_number cells c.value ∷ [] else []) ++ case_values cells truths cs)) e)
