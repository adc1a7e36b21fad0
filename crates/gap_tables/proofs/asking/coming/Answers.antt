use Rattle.std.proofs.Common.{◌&&◌}
use Rattle.std.proofs.lemmas.Result.{IfOk-weaker}
use Rattle.guard_encode.proofs.StepLemmas.{told_on}
use Rattle.gap_tables.proofs.asking.coming.Goals as goal

pub returns-clause-answer : goal.returns-clause-answer
returns-clause-answer c =
    IfOk-weaker c.and-2.result _ _
    (λ r h later other in_column found told inside.
    h (λ v. later v && other v) in_column (c.in_ok-outside.ensures.found later other found told)
    (told_on c.args.encoder.now c.and.new.self in_column c.args.inside c.in_ok-outside.ensures.keeps inside))
    c.and-2.ensures.found
