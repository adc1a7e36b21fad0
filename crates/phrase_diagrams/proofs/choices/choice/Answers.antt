use Rattle.std.proofs.Common.{eqb}
use Rattle.std.proofs.lemmas.Result.{IfOk-weaker}
use Rattle.bdd_core.specs.Calls.{Represents}
use Rattle.spelled_numbers.specs.Sums.{weight_sum}
use Rattle.phrase_diagrams.proofs.TellLemmas.{part_levels, part_adds, part_small, choice_tells}
use Rattle.phrase_diagrams.proofs.choices.choice.Goals as goal

pub number_is-requires-clause-levels : goal.number_is-requires-clause-levels
number_is-requires-clause-levels c = part_levels c.args.arena.now c.args.component c.args.layout.now.slots c.bits.result.now c.bits.ensures c.requires.levels

pub number_is-requires-clause-add : goal.number_is-requires-clause-add
number_is-requires-clause-add c = part_adds c.args.component c.args.layout.now.slots c.bits.result.now c.bits.ensures

pub number_is-requires-clause-small : goal.number_is-requires-clause-small
number_is-requires-clause-small c = part_small c.args.component c.args.layout.now.slots c.bits.result.now c.bits.ensures (c.law.ensures.small c.args.component)

pub returns-clause-answer : goal.returns-clause-answer
returns-clause-answer c =
    IfOk-weaker c.number_is.result (Represents c.number_is.new.arena (λ v. eqb (weight_sum v c.bits.result.now) c.from.result)) _
    (λ r h. choice_tells c.number_is.new.arena c.args.layout.now c.args.component c.args.place c.from.result r c.bits.result.now c.requires.component c.bits.ensures c.from.ensures h)
    c.number_is.ensures.answer
