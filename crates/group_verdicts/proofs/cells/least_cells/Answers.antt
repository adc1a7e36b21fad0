use Rattle.std.proofs.Common.{◌≡◌, ◌≤◌, length, ap, ◌∙◌, arith}
use Rattle.rsml_meaning.specs.Cells.{cells}
use Rattle.elaborate.specs.Machine.{GroundMachine}
use Rattle.guard_encode.proofs.StepLemmas.{keeps_on}
use Rattle.group_verdicts.proofs.BlockSteps.{all_numbers}
use Rattle.group_verdicts.proofs.Keeping.{on_old}
use Rattle.group_verdicts.proofs.cells.least_cells.Goals as goal

pub loop-alloc-preserved : goal.loop-alloc-preserved
loop-alloc-preserved c =
    let a = c.args.encoder.now in
    let b = c.loop-alloc.encoder in
    let d = c.more_numbers.new.encoder in
    let before = c.loop-alloc.invariant in
    record {
      keeps = keeps_on a b d before.keeps c.in_ok-next.ensures.keeps;
      is_ref = c.in_ok-next.ensures.is_ref;
      some = c.in_ok-next.ensures.many;
      within = on_old (λ s. length c.more_numbers.new.numbers ≤ length (cells s)) a b before.keeps c.in_ok-next.ensures.within;
      narrowed = c.in_ok-next.ensures.answer a c.args.f before.keeps before.narrowed;
    }

pub returns-clause-answer : goal.returns-clause-answer
returns-clause-answer c =
    let a = c.args.encoder.now in
    let before = c.loop-alloc.invariant in
    let many : c.cells-cells.result ≡ length (cells a.machine.base.spec) = c.cells-cells.ensures ∙ ap (λ (m : GroundMachine). length (cells m.base.spec)) c.machine.ensures in
    all_numbers a c.loop-alloc.encoder c.args.read.now c.loop-alloc.numbers c.args.f c.loop-alloc.rest before.keeps (omega (arith, many)) before.narrowed
