use Rattle.group_verdicts.proofs.Keeping.{some_decided}
use Rattle.group_verdicts.proofs.WorldStep.{world_found}
use Rattle.group_verdicts.proofs.least.least_world.Goals as goal

pub returns-then-is_false-clause-answer : goal.returns-then-is_false-clause-answer
returns-then-is_false-clause-answer c = λ truth exact. exact.none.0 (c.is_false.ensures.0 c.if-is_false.true)

pub returns-clause-answer : goal.returns-clause-answer
returns-clause-answer c = λ truth exact.
    let a = c.args.encoder.now in
    world_found a c.least_choices.new.encoder c.least_cells.new.encoder c.in_ok-read.read c.in_ok-choices.choices c.in_ok-cells.cells c.args.f c.in_ok-choices.rest
    c.in_ok-cells.ensures.keeps c.in_ok-read.ensures.choices c.in_ok-read.ensures.cells c.in_ok-choices.ensures.answer c.in_ok-cells.ensures.answer
    c.in_ok-choices.ensures.keeps truth exact.told
    (some_decided a truth c.args.f c.is_false.result exact.none c.is_false.ensures c.if-is_false.false)
