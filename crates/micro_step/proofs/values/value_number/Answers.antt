use Rattle.std.proofs.Common.{◌<◌, length, sym, ap, ◌∙◌, subst, rules, w64, FitsSigned}
use Rattle.std.proofs.lemmas.Int.{to_z-of_z}
use Rattle.rsml_meaning.specs.Cells.{cells}
use Rattle.rsml_meaning.specs.Worlds.{IsWorld}
use Rattle.rsml_ground.specs.Rests.{SumFits}
use Rattle.rsml_ground.specs.Truths.{Grounded, value_in}
use Rattle.macros.specs.Known.{Knows}
use Rattle.micro_step.specs.Numbers.{value_number, ValueFits}
use Rattle.micro_step.proofs.values.value_number.Goals as goal

pub number-requires-clause-world : goal.number-requires-clause-world
number-requires-clause-world c = subst (λ (g : Grounded). IsWorld g.spec c.args.world.now) (sym c.macros-macros.ensures) c.requires.world

pub number-requires-clause-fits : goal.number-requires-clause-fits
number-requires-clause-fits c =
    subst (λ (g : Grounded). SumFits (length (cells g.spec)) c.in-Sum.sum) (sym c.macros-macros.ensures) (subst (ValueFits c.args.machine.now) c.in-Sum.is c.requires.value)

pub ask_value-requires-clause-tree : goal.ask_value-requires-clause-tree
ask_value-requires-clause-tree c = c.tree.ensures ∙ ap (λ (g : Grounded). g.spec) (sym c.macros-macros.ensures)

pub ask_value-requires-clause-world : goal.ask_value-requires-clause-world
ask_value-requires-clause-world c = subst (λ (g : Grounded). IsWorld g.spec c.args.world.now) (sym c.macros-macros.ensures) c.requires.world

pub ask_value-requires-clause-knows : goal.ask_value-requires-clause-knows
ask_value-requires-clause-knows c = subst (λ (g : Grounded). Knows g c.args.world.now c.args.memo.now) (sym c.macros-macros.ensures) c.requires.knows

pub ask_value-requires-clause-function : goal.ask_value-requires-clause-function
ask_value-requires-clause-function c =
    subst (λ (g : Grounded). c.in-Function.function < length g.definitions) (sym c.macros-macros.ensures) (subst (ValueFits c.args.machine.now) c.in-Function.is c.requires.value)

pub returns-in-Sum-clause-number : goal.returns-in-Sum-clause-number
returns-in-Sum-clause-number c =
    let m = c.args.machine.now in
    let small : FitsSigned w64 c.number.result = search rules in
    to_z-of_z w64 c.number.result small ∙ c.number.ensures ∙ ap (value_number m c.args.world.now) (sym c.in-Sum.is)

pub returns-in-Function-clause-number : goal.returns-in-Function-clause-number
returns-in-Function-clause-number c =
    let m = c.args.machine.now in
    let small : FitsSigned w64 c.ask_value.result = search rules in
    to_z-of_z w64 c.ask_value.result small ∙ c.ask_value.ensures.value ∙ ap (λ (g : Grounded). value_in g c.args.world.now c.in-Function.function) c.macros-macros.ensures
    ∙ ap (value_number m c.args.world.now) (sym c.in-Function.is)

pub returns-in-Function-clause-knows : goal.returns-in-Function-clause-knows
returns-in-Function-clause-knows c = subst (λ (g : Grounded). Knows g c.args.world.now c.ask_value.new.memo) c.macros-macros.ensures c.ask_value.ensures.knows
