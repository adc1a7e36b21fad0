use Rattle.std.proofs.Common.{sym, ap, ◌∙◌}
use Rattle.rsml_ground.specs.Choices.{are_chosen}
use Rattle.macros.proofs.StateLemmas.{some_of_one}
use Rattle.micro_step.proofs.learning.is_some_chosen.Goals as goal

pub returns-then-are_chosen : goal.returns-then-are_chosen
returns-then-are_chosen c =
    some_of_one (are_chosen c.args.chosen.now) (λ x. x.items) c.args.ways.now c.loop-way.way-index c.way-item.result c.loop-way-test.true c.way-item.is
    (ap (are_chosen c.args.chosen.now) (sym c.as_slice.ensures.value) ∙ sym c.are_chosen.ensures ∙ c.if-are_chosen.true)
