use Rattle.std.proofs.Common.{◌≡◌, ◌<◌, length, ap, ◌∙◌, arith}
use Rattle.std.proofs.lemmas.Result.{IfOk-weaker}
use Rattle.rsml_meaning.specs.Cells.{cells}
use Rattle.elaborate.specs.Machine.{GroundMachine}
use Rattle.group_verdicts.proofs.BlockSteps.{on_both}
use Rattle.group_verdicts.proofs.cells.more_numbers.Goals as goal

pub one_alone-requires-clause-from : goal.one_alone-requires-clause-from
one_alone-requires-clause-from c =
    let many : c.cells.result ≡ length (cells c.args.encoder.now.machine.base.spec) = c.cells.ensures ∙ ap (λ (m : GroundMachine). length (cells m.base.spec)) c.machine.ensures in
    let more = c.block_end-end.ensures.more c.requires.many (omega (arith, many)) in
    omega (arith, more)

pub returns-then-many-eq1-clause-more : goal.returns-then-many-eq1-clause-more
returns-then-many-eq1-clause-more c =
    let many : c.cells.result ≡ length (cells c.args.encoder.now.machine.base.spec) = c.cells.ensures ∙ ap (λ (m : GroundMachine). length (cells m.base.spec)) c.machine.ensures in
    let more : length c.args.numbers.now < c.block_end-end.result = (let more = c.block_end-end.ensures.more c.requires.many (omega (arith, many)) in omega (arith, more)) in
    IfOk-weaker c.one_alone.result _ _ (λ found (h : length c.one_alone.new.numbers ≡ c.block_end-end.result). omega (arith, more, h))
    c.one_alone.ensures.end

pub returns-then-len-end-clause-more : goal.returns-then-len-end-clause-more
returns-then-len-end-clause-more c =
    let many : c.cells.result ≡ length (cells c.args.encoder.now.machine.base.spec) = c.cells.ensures ∙ ap (λ (m : GroundMachine). length (cells m.base.spec)) c.machine.ensures in
    let more = c.block_end-end.ensures.more c.requires.many (omega (arith, many)) in
    omega (arith, more)

pub returns-clause-answer : goal.returns-clause-answer
returns-clause-answer c =
    on_both c.args.encoder.now c.with_low_block.new.encoder c.up_to_higher.new.encoder c.args.read.now c.args.numbers.now c.with_low_block.new.numbers c.up_to_higher.new.numbers c.args.f c.in_ok-rest.rest c.in_ok-rest-2.rest
    c.in_ok-rest.ensures.keeps c.in_ok-rest.ensures.answer c.in_ok-rest-2.ensures.answer
