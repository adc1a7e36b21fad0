use Rattle.std.proofs.Common.{Bool, ◌==◌, slice_index_or}
use Rattle.std.proofs.lemmas.Result.{IfOk-weaker}
use Rattle.rsml_syntax.specs.declared.world.World.{World}
use Rattle.guard_encode.proofs.FindLemmas.{found_on}
use Rattle.group_verdicts.proofs.Keeping.{some_on}
use Rattle.group_verdicts.proofs.passing.with_child.Goals as goal

pub returns-clause-answer : goal.returns-clause-answer
returns-clause-answer c =
    let test : World → Bool = λ w. slice_index_or w.choices c.args.component 0 == c.args.place in
    IfOk-weaker c.passing.result _ _
    (λ passing h truth found some.
    h test c.in_ok-test.ensures.answer truth (found_on c.args.encoder.now c.choice.new.self truth c.args.f c.in_ok-test.ensures.keeps found)
    (some_on c.args.encoder.now c.choice.new.self truth c.in_ok-test.ensures.keeps some))
    c.passing.ensures.answer
