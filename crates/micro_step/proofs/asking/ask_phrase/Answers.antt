use Rattle.std.proofs.Common.{◌<◌, length, sym, ap, ◌∙◌, subst}
use Rattle.rsml_meaning.specs.Worlds.{IsWorld}
use Rattle.and_or_tables.specs.Ground.{known}
use Rattle.rsml_ground.specs.Truths.{Grounded, truths_in}
use Rattle.macros.specs.Known.{Knows}
use Rattle.macros.proofs.Learning.{agreed}
use Rattle.micro_step.proofs.asking.ask_phrase.Goals as goal

pub returns-then-knows-clause-truth : goal.returns-then-knows-clause-truth
returns-then-knows-clause-truth c =
    c.get.ensures
    ∙ agreed c.args.machine.now.base c.args.world.now c.args.memo.now c.truths.result.now c.requires.knows c.truths.ensures.right c.args.phrase (c.knows.ensures.yes c.if-knows.true)

pub ask-requires-clause-tree : goal.ask-requires-clause-tree
ask-requires-clause-tree c = c.tree.ensures ∙ ap (λ (g : Grounded). g.spec) (sym c.macros.ensures)

pub ask-requires-clause-world : goal.ask-requires-clause-world
ask-requires-clause-world c = subst (λ (g : Grounded). IsWorld g.spec c.args.world.now) (sym c.macros.ensures) c.requires.world

pub ask-requires-clause-knows : goal.ask-requires-clause-knows
ask-requires-clause-knows c = subst (λ (g : Grounded). Knows g c.args.world.now c.args.memo.now) (sym c.macros.ensures) c.requires.knows

pub ask-requires-clause-phrase : goal.ask-requires-clause-phrase
ask-requires-clause-phrase c = subst (λ (g : Grounded). c.args.phrase < length g.phrases) (sym c.macros.ensures) c.requires.phrase

pub returns-clause-truth : goal.returns-clause-truth
returns-clause-truth c = c.ask.ensures.truth ∙ ap (λ (g : Grounded). known (truths_in g c.args.world.now) c.args.phrase) c.macros.ensures

pub returns-clause-knows : goal.returns-clause-knows
returns-clause-knows c = subst (λ (g : Grounded). Knows g c.args.world.now c.ask.new.memo) c.macros.ensures c.ask.ensures.knows
