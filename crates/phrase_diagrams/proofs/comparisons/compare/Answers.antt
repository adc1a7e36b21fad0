use Rattle.std.proofs.Common.{◌≡◌, ◌++◌, true, false, sym, ap, subst, arith, ◌-ℤ◌, w64, to_z, of_z}
use Rattle.std.proofs.lemmas.Int.{ints}
use Rattle.std.proofs.lemmas.Result.{IfOk-weaker}
use Rattle.bdd_core.specs.Calls.{Represents}
use Rattle.spelled_numbers.specs.Sums.{signed_sum, total_weight, AreLevels, holds}
use Rattle.phrase_diagrams.specs.Terms.{sum_base, sum_levels}
use Rattle.phrase_diagrams.proofs.SumLemmas.{both_total, both_within}
use Rattle.phrase_diagrams.proofs.TellLemmas.{are_levels}
use Rattle.phrase_diagrams.proofs.CompareLemmas.{compare_tells}
use Rattle.phrase_diagrams.proofs.comparisons.compare.Goals as goal

pub compare_levels-requires-clause-levels : goal.compare_levels-requires-clause-levels
compare_levels-requires-clause-levels c =
    let l = c.args.layout.now in
    subst (AreLevels c.args.arena.now) (sym c.in_ok-levels.ensures)
    (are_levels c.args.arena.now l.slots (sum_levels l false c.args.left.now ++ sum_levels l true c.args.right.now) c.requires.levels (both_within l c.args.left.now c.args.right.now))

pub compare_levels-requires-clause-small : goal.compare_levels-requires-clause-small
compare_levels-requires-clause-small c =
    let l = c.args.layout.now in
    omega (arith, ap total_weight c.in_ok-levels.ensures, both_total l c.args.left.now c.args.right.now c.law.ensures.small c.requires.left c.requires.right)

pub returns-clause-answer : goal.returns-clause-answer
returns-clause-answer c =
    let l = c.args.layout.now in
    let constant = to_z w64 (of_z w64 (to_z w64 (of_z w64 c.sum_base.result) -ℤ to_z w64 (of_z w64 c.sum_base-2.result))) in
    let is : constant ≡ sum_base l.spec c.args.right.now -ℤ sum_base l.spec c.args.left.now = omega (arith, ints, c.sum_base.ensures.number, c.sum_base-2.ensures.number) in
    IfOk-weaker c.compare_levels.result (Represents c.compare_levels.new.arena (λ v. holds c.comparison_of.result (signed_sum v c.in_ok-levels.levels.items) constant)) _
    (λ r h. compare_tells c.compare_levels.new.arena l c.args.left.now c.args.right.now c.args.relation c.comparison_of.result constant c.in_ok-levels.levels.items r c.requires.left c.requires.right is
    c.in_ok-levels.ensures c.comparison_of.ensures h)
    c.compare_levels.ensures.answer
