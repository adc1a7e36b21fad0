use Rattle.std.proofs.lemmas.Result.{IfOk-weaker}
use Rattle.group_verdicts.proofs.BlockSteps.{low_block}
use Rattle.group_verdicts.proofs.blocks.low_block.Goals as goal

pub returns-clause-answer : goal.returns-clause-answer
returns-clause-answer c =
    IfOk-weaker c.passing.result _ _
    (λ found h.
    low_block c.args.encoder.now c.low_test.new.encoder c.passing.new.encoder c.args.read.now c.args.from c.args.to c.args.f c.in_ok-test.test found
    c.in_ok-test.ensures.keeps c.passing.ensures.keeps c.requires.from c.requires.to c.in_ok-test.ensures.answer h)
    c.passing.ensures.answer
