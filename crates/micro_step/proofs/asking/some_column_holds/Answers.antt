use Rattle.std.proofs.Common.{sym, ap, ◌∙◌}
use Rattle.rsml_ground.specs.Truths.{truths_in}
use Rattle.macros.specs.Asked.{column_truth}
use Rattle.macros.proofs.StateLemmas.{some_of_one}
use Rattle.micro_step.proofs.asking.some_column_holds.Goals as goal

pub returns-then-each_holds-clause-truth : goal.returns-then-each_holds-clause-truth
returns-then-each_holds-clause-truth c =
    let truths = truths_in c.args.machine.now.base c.args.world.now in
    some_of_one (column_truth truths) (λ x. x.items) c.args.columns.now c.loop-column.column-index c.column-item.result c.loop-column-test.true c.column-item.is
    (ap (column_truth truths) (sym c.as_slice.ensures.value) ∙ sym c.each_holds.ensures.truth ∙ c.if-each_holds.true)
