use Rattle.std.proofs.Common.{◌<◌, length, sym, subst}
use Rattle.rsml_syntax.specs.declared.syntax.Spec.{Spec}
use Rattle.rsml_syntax.specs.limits.Checked.{IsChecked}
use Rattle.rsml_meaning.specs.Instances.{states}
use Rattle.rsml_ground.specs.declared.definitions.GroundGuard.{GroundGuard}
use Rattle.macros.specs.Guards.{GuardBelow, HasShape}
use Rattle.macros.specs.Asked.{AsksFor}
use Rattle.rsml_ground.specs.Choices.{AreOfComponents, TellActivity}
use Rattle.micro_step.proofs.CandidateLemmas.{own_guard, transition_shape, tells_of_transition}
use Rattle.micro_step.proofs.MachineLemmas.{source_below}
use Rattle.micro_step.proofs.prepared.of_transition.Goals as goal

pub choices_around-requires-clause-checked : goal.choices_around-requires-clause-checked
choices_around-requires-clause-checked c = subst IsChecked (sym c.tree.ensures) c.law.ensures.grounded.checked

pub choices_around-requires-clause-node : goal.choices_around-requires-clause-node
choices_around-requires-clause-node c =
    let m = c.args.machine.now in
    let x = c.transition-transition.result.now in
    subst (λ (s : Spec). c.source.result < length (states s)) (sym c.tree.ensures)
    (subst (λ k. k < length (states m.base.spec)) (sym c.source.ensures) (source_below m c.args.number x c.law.ensures c.transition-transition.ensures))

pub new-requires : goal.new-requires
new-requires c = subst HasShape (sym c.guard.ensures) (transition_shape c.args.machine.now c.args.number c.transition-transition.result.now c.law.ensures c.transition-transition.ensures).0

pub returns-clause-tells : goal.returns-clause-tells
returns-clause-tells c =
    let m = c.args.machine.now in
    let x = c.transition-transition.result.now in
    let choices = c.in_ok-choices.choices in
    let asked = c.in_ok-asked.asked in
    let count = length m.base.phrases in
    let below = (transition_shape m c.args.number x c.law.ensures c.transition-transition.ensures).1 in
    let asks : AsksFor count x.guard asked = subst (λ (g : GroundGuard). AsksFor count g asked) c.guard.ensures (c.in_ok-asked.ensures count (subst (GuardBelow count) (sym c.guard.ensures) below)) in
    let kept_at = c.number_for_guard-kept_at.result in
    tells_of_transition m (record { number = c.args.number; choices = choices; asked = asked; kept_at = kept_at }) x c.transition-transition.ensures
    (subst (λ (s : Spec). AreOfComponents s choices.items) c.tree.ensures c.in_ok-choices.ensures.components)
    (subst (λ k. TellActivity m.base.spec k choices.items) c.source.ensures (subst (λ (s : Spec). TellActivity s c.source.result choices.items) c.tree.ensures c.in_ok-choices.ensures.active))
    asks (c.number_for_guard-kept_at.ensures m c.requires.earlier (own_guard m c.args.number x asked c.transition-transition.ensures asks))
