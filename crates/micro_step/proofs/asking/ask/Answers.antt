use Rattle.std.proofs.Common.{length, sym, ap, ◌∙◌, subst}
use Rattle.rsml_meaning.specs.Worlds.{IsWorld}
use Rattle.rsml_ground.specs.Truths.{Grounded, guard_truth, truths_in}
use Rattle.macros.specs.Guards.{GuardBelow}
use Rattle.macros.specs.Known.{Knows}
use Rattle.micro_step.proofs.asking.ask.Goals as goal

pub ask_guard-requires-clause-tree : goal.ask_guard-requires-clause-tree
ask_guard-requires-clause-tree c = c.tree.ensures ∙ ap (λ (g : Grounded). g.spec) (sym c.macros.ensures)

pub ask_guard-requires-clause-world : goal.ask_guard-requires-clause-world
ask_guard-requires-clause-world c = subst (λ (g : Grounded). IsWorld g.spec c.args.world.now) (sym c.macros.ensures) c.requires.world

pub ask_guard-requires-clause-knows : goal.ask_guard-requires-clause-knows
ask_guard-requires-clause-knows c = subst (λ (g : Grounded). Knows g c.args.world.now c.args.memo.now) (sym c.macros.ensures) c.requires.knows

pub ask_guard-requires-clause-guard : goal.ask_guard-requires-clause-guard
ask_guard-requires-clause-guard c = subst (λ (g : Grounded). GuardBelow (length g.phrases) c.args.guard.now) (sym c.macros.ensures) c.requires.guard

pub returns-clause-truth : goal.returns-clause-truth
returns-clause-truth c = c.ask_guard.ensures.truth ∙ ap (λ (g : Grounded). guard_truth (truths_in g c.args.world.now) c.args.guard.now) c.macros.ensures

pub returns-clause-knows : goal.returns-clause-knows
returns-clause-knows c = subst (λ (g : Grounded). Knows g c.args.world.now c.ask_guard.new.memo) c.macros.ensures c.ask_guard.ensures.knows
