use Rattle.std.proofs.Common.{not}
use Rattle.std.proofs.lemmas.Result.{IfOk-weaker}
use Rattle.rsml_syntax.specs.rules.Relations as relations
use Rattle.rsml_ground.specs.Truths as spec
use Rattle.bdd_core.specs.Diagram.{meaning}
use Rattle.bdd_core.specs.Calls.{Represents}
use Rattle.phrase_diagrams.specs.Tells as exact
use Rattle.guard_encode.proofs.NextLemmas.{level_tells, opposite_tells}
use Rattle.guard_encode.proofs.Telling.{exact_tells}
use Rattle.guard_encode.proofs.opposites.of_comparison.Goals as goal

pub returns-in-Some-clause-answer : goal.returns-in-Some-clause-answer
returns-in-Some-clause-answer c =
    IfOk-weaker c.var.result (Represents c.var.new.self (λ v. v c.in-Some.level)) _
    (λ r h. level_tells c.var.new.self c.args.levels.now c.args.left.now c.args.right.now c.args.relation c.in-Some.level r c.in-Some.ensures.stands h)
    c.var.ensures.answer

pub returns-in-Some-level_of-clause-answer : goal.returns-in-Some-level_of-clause-answer
returns-in-Some-level_of-clause-answer c =
    IfOk-weaker c.not.result (Represents c.not.new.self (λ v. not (meaning c.var-in-Some-level_of.new.self c.in_ok-other.other v))) _
    (λ r h. opposite_tells c.var-in-Some-level_of.new.self c.not.new.self c.args.levels.now c.args.left.now c.args.right.now c.args.relation c.opposite.result c.in-Some-level_of.level c.in_ok-other.other r c.opposite.ensures
    c.in-Some-level_of.ensures.stands c.in_ok-other.ensures.answer h)
    c.not.ensures.answer

pub returns-clause-answer : goal.returns-clause-answer
returns-clause-answer c =
    IfOk-weaker c.compare.result (exact.Tells c.compare.new.arena c.layout.result.now (λ w. relations.compare c.args.relation (spec.sum_number w.cells c.args.left.now) (spec.sum_number w.cells c.args.right.now))) _
    (λ r h. exact_tells c.compare.new.arena c.args.levels.now c.layout.result.now (λ w. relations.compare c.args.relation (spec.sum_number w.cells c.args.left.now) (spec.sum_number w.cells c.args.right.now)) r
    c.layout.ensures.spec c.layout.ensures.slots h)
    c.compare.ensures.answer
