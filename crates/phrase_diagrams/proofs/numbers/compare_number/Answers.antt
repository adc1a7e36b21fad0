use Rattle.std.proofs.Common.{◌≡◌, ◌++◌, List, false, sym, ap, ◌∙◌, subst, arith, ℤ, ◌-ℤ◌, w64, to_z, of_z, rules, FitsSigned}
use Rattle.std.proofs.lemmas.Int.{ints, to_z-of_z}
use Rattle.std.proofs.lemmas.Result.{IfOk-weaker}
use Rattle.rsml_syntax.specs.declared.syntax.Relation.{Relation}
use Rattle.rsml_syntax.specs.rules.Relations as relations
use Rattle.bdd_core.specs.Calls.{Represents}
use Rattle.spelled_numbers.specs.declared.weighted.Weighted.{Weighted}
use Rattle.spelled_numbers.specs.Sums.{signed_sum, total_weight, AreLevels, holds}
use Rattle.phrase_diagrams.specs.Signs.{IsWithin}
use Rattle.phrase_diagrams.specs.Terms.{sum_base, sum_levels}
use Rattle.phrase_diagrams.proofs.SumLemmas.{terms_total, terms_within}
use Rattle.phrase_diagrams.proofs.TellLemmas.{are_levels}
use Rattle.phrase_diagrams.proofs.FarLemmas.{compare_number_tells}
use Rattle.phrase_diagrams.proofs.numbers.compare_number.Goals as goal

pub compare_levels-requires-clause-levels : goal.compare_levels-requires-clause-levels
compare_levels-requires-clause-levels c =
    let l = c.args.layout.now in
    let is : c.push_sum.new.levels.items ≡ sum_levels l false c.args.sum.now =
    c.in_ok-push_sum.ensures ∙ ap (λ (ts : List Weighted). ts ++ sum_levels l false c.args.sum.now) c.new-levels.ensures.items in
    subst (AreLevels c.args.arena.now) (sym is)
    (are_levels c.args.arena.now l.slots (sum_levels l false c.args.sum.now) c.requires.levels (terms_within l false c.args.sum.now.terms))

pub compare_levels-requires-clause-small : goal.compare_levels-requires-clause-small
compare_levels-requires-clause-small c =
    let l = c.args.layout.now in
    let is : c.push_sum.new.levels.items ≡ sum_levels l false c.args.sum.now =
    c.in_ok-push_sum.ensures ∙ ap (λ (ts : List Weighted). ts ++ sum_levels l false c.args.sum.now) c.new-levels.ensures.items in
    omega (arith, ap total_weight is, terms_total l false c.args.sum.now.terms c.law.ensures.small, c.requires.sum.few)

pub returns-clause-answer : goal.returns-clause-answer
returns-clause-answer c =
    let l = c.args.layout.now in
    let is : c.push_sum.new.levels.items ≡ sum_levels l false c.args.sum.now =
    c.in_ok-push_sum.ensures ∙ ap (λ (ts : List Weighted). ts ++ sum_levels l false c.args.sum.now) c.new-levels.ensures.items in
    let constant = to_z w64 (of_z w64 (to_z w64 (of_z w64 c.nearest.result) -ℤ to_z w64 (of_z w64 c.sum_base.result))) in
    let base : IsWithin 8000000000 (sum_base l.spec c.args.sum.now) = subst (IsWithin 8000000000) c.sum_base.ensures.number c.sum_base.ensures.small in
    let value : constant ≡ c.nearest.result -ℤ sum_base l.spec c.args.sum.now = omega (arith, ints, c.sum_base.ensures.number) in
    let number : to_z w64 (of_z w64 c.args.number) ≡ c.args.number =
    let fits : FitsSigned w64 c.args.number = search rules in to_z-of_z w64 c.args.number fits in
    let alike : (r : Relation) (y : ℤ) → IsWithin 100000000000 y → relations.compare r y c.nearest.result ≡ relations.compare r y c.args.number =
    λ r y near. c.nearest.ensures.same r y near ∙ ap (relations.compare r y) number in
    IfOk-weaker c.compare_levels.result (Represents c.compare_levels.new.arena (λ v. holds c.comparison_of.result (signed_sum v c.push_sum.new.levels.items) constant)) _
    (λ r h. compare_number_tells c.compare_levels.new.arena l c.args.sum.now c.args.relation c.comparison_of.result c.args.number c.nearest.result constant c.push_sum.new.levels.items r
    c.law.ensures.small c.requires.sum base alike value is c.comparison_of.ensures h)
    c.compare_levels.ensures.answer
