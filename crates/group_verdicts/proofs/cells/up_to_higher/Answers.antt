use Rattle.std.proofs.Common.{◌≡◌, ◌<◌, length, ap, ◌∙◌, inl, inr, arith}
use Rattle.std.proofs.lemmas.Bool.{cases_lt}
use Rattle.std.proofs.lemmas.Result.{IfOk-weaker}
use Rattle.rsml_meaning.specs.Cells.{cells}
use Rattle.elaborate.specs.Machine.{GroundMachine}
use Rattle.guard_encode.proofs.StepLemmas.{keeps_on}
use Rattle.group_verdicts.proofs.BlockSteps.{on_both}
use Rattle.group_verdicts.proofs.cells.up_to_higher.Goals as goal

pub loop-many-preserved-then-len-end : goal.loop-many-preserved-then-len-end
loop-many-preserved-then-len-end c =
    let a = c.args.encoder.now in
    let b = c.loop-many.encoder in
    let d = c.with_low_block.new.encoder in
    let before = c.loop-many.invariant in
    let keeps = c.in_ok-next.ensures.keeps in
    let many : c.cells-cells.result ≡ length (cells a.machine.base.spec) = c.cells-cells.ensures ∙ ap (λ (m : GroundMachine). length (cells m.base.spec)) c.machine.ensures in
    record {
      keeps = keeps_on a b d before.keeps keeps;
      is_ref = c.in_ok-next.ensures.is_ref;
      more = omega (arith, before.more, c.in_ok-next.ensures.from);
      within = omega (arith, many, c.in_ok-next.ensures.end, c.block_end-end.ensures.within);
      on = on_both a b d c.args.read.now c.args.numbers.now c.loop-many.numbers c.with_low_block.new.numbers c.args.f c.loop-many.rest c.in_ok-next.next before.keeps before.on c.in_ok-next.ensures.answer;
    }

pub loop-many-preserved : goal.loop-many-preserved
loop-many-preserved c =
    let a = c.args.encoder.now in
    let b = c.loop-many.encoder in
    let d = c.with_low_block.new.encoder in
    let before = c.loop-many.invariant in
    let keeps = c.in_ok-next.ensures.keeps in
    let many : c.cells-cells.result ≡ length (cells a.machine.base.spec) = c.cells-cells.ensures ∙ ap (λ (m : GroundMachine). length (cells m.base.spec)) c.machine.ensures in
    record {
      keeps = keeps_on a b d before.keeps keeps;
      is_ref = c.in_ok-next.ensures.is_ref;
      more = omega (arith, before.more, c.in_ok-next.ensures.from);
      within = omega (arith, many, c.in_ok-next.ensures.end, c.block_end-end.ensures.within);
      on = on_both a b d c.args.read.now c.args.numbers.now c.loop-many.numbers c.with_low_block.new.numbers c.args.f c.loop-many.rest c.in_ok-next.next before.keeps before.on c.in_ok-next.ensures.answer;
    }

pub returns-clause-more : goal.returns-clause-more
returns-clause-more c =
    let many : c.cells-cells.result ≡ length (cells c.args.encoder.now.machine.base.spec) = c.cells-cells.ensures ∙ ap (λ (m : GroundMachine). length (cells m.base.spec)) c.machine.ensures in
    let more : length c.args.numbers.now < c.block_end-end-2.result =
    elim (cases_lt c.len-2.result c.cells-cells.result) [
      | inl l ↦ omega (arith, c.block_end-end-2.ensures.more (omega arith) l, c.loop-many.invariant.more, c.len-2.ensures)
      | inr u ↦ omega (arith, many, u, c.block_end-end-2.ensures.from, c.requires.some)
    ] in
    IfOk-weaker c.one_by_one.result _ _ (λ rest (h : length c.one_by_one.new.numbers ≡ c.block_end-end-2.result). omega (arith, more, h))
    c.one_by_one.ensures.many

pub returns-clause-answer : goal.returns-clause-answer
returns-clause-answer c =
    IfOk-weaker c.one_by_one.result _ _
    (λ rest h.
    on_both c.args.encoder.now c.loop-many.encoder c.one_by_one.new.encoder c.args.read.now c.args.numbers.now c.loop-many.numbers c.one_by_one.new.numbers c.args.f c.loop-many.rest rest
    c.loop-many.invariant.keeps c.loop-many.invariant.on h)
    c.one_by_one.ensures.answer
