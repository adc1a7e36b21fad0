use Rattle.std.proofs.Common.{◌<◌, length, sym, ap, ◌∙◌, subst}
use Rattle.rsml_syntax.specs.declared.syntax.Spec.{Spec}
use Rattle.rsml_meaning.specs.Instances.{states, components}
use Rattle.state_tree.specs.Numbers.{component_path, path_of}
use Rattle.micro_step.proofs.MachineLemmas.{component_below, target_below}
use Rattle.state_tree.proofs.Entry.{after_long}
use Rattle.micro_step.proofs.moves.enter.Goals as goal

pub enter-requires-clause-fit : goal.enter-requires-clause-fit
enter-requires-clause-fit c = c.requires.fit ∙ sym (ap (λ (t : Spec). length (components t)) c.tree.ensures)

pub enter-requires-clause-component : goal.enter-requires-clause-component
enter-requires-clause-component c =
    subst (λ (t : Spec). c.component.result < length (components t)) (sym c.tree.ensures)
    (subst (λ n. n < length (components c.args.machine.now.base.spec)) (sym c.component.ensures)
    (component_below c.args.machine.now c.args.transition c.transition-moved.result.now c.law.ensures c.transition-moved.ensures))

pub enter-requires-clause-target : goal.enter-requires-clause-target
enter-requires-clause-target c =
    subst (λ (t : Spec). c.in-Some.target < length (states t)) (sym c.tree.ensures)
    (target_below c.args.machine.now c.args.transition c.in-Some.target c.transition-moved.result.now c.law.ensures c.transition-moved.ensures (sym c.target.ensures ∙ c.in-Some.is))

pub returns-in-Some-clause-fit : goal.returns-in-Some-clause-fit
returns-in-Some-clause-fit c =
    let t = c.tree.result.now in
    ap length c.enter.ensures
    ∙ after_long t (component_path t c.component.result) (path_of t c.in-Some.target) c.args.choices.now (c.requires.fit ∙ sym (ap (λ (s : Spec). length (components s)) c.tree.ensures))
    ∙ c.requires.fit
