use Rattle.std.proofs.Common.{◌&&◌, not}
use Rattle.std.proofs.lemmas.Result.{IfOk-weaker}
use Rattle.guard_encode.proofs.StepLemmas.{told_on}
use Rattle.gap_tables.proofs.gaps.without.Goals as goal

pub returns-clause-answer : goal.returns-clause-answer
returns-clause-answer c =
    IfOk-weaker c.decided.result _ _
    (λ r h one other told inside.
    h (λ v. one v && not (other v))
    (c.in_ok-left.ensures.answer one (λ v. not (other v)) (told_on c.args.encoder.now c.not.new.self one c.args.set c.in_ok-outside.ensures.keeps told) (c.in_ok-outside.ensures.answer other inside)))
    c.decided.ensures.answer
