use Rattle.std.proofs.Common.{◌<◌, ℕ, List, length, sym, ap, ◌∙◌, subst}
use Rattle.std.proofs.lemmas.Option.{same_Some}
use Rattle.rsml_syntax.specs.declared.syntax.Spec.{Spec}
use Rattle.rsml_meaning.specs.Active.{active}
use Rattle.rsml_meaning.specs.Instances.{states}
use Rattle.state_tree.specs.Numbers.{AreChoices, path_of}
use Rattle.rsml_ground.specs.Truths.{is_active}
use Rattle.ground_members.specs.declared.transitions.GroundTransition.{GroundTransition}
use Rattle.finding_texts.proofs.EnabledLemmas.{source_below}
use Rattle.finding_texts.proofs.Worlds.{choices_are}
use Rattle.finding_texts.proofs.enabled.is_active.Goals as goal

pub active-requires-clause-choices : goal.active-requires-clause-choices
active-requires-clause-choices c =
    subst (λ (t : Spec). AreChoices t c.as_slice.result.now) (sym c.tree.ensures)
    (subst (λ (ns : List ℕ). AreChoices c.args.machine.now.base.spec ns) (sym c.as_slice.ensures) (choices_are c.args.machine.now.base.spec c.args.world.now c.requires.world))

pub active-requires-clause-node : goal.active-requires-clause-node
active-requires-clause-node c =
    subst (λ (t : Spec). c.source-source.result < length (states t)) (sym c.tree.ensures)
    (subst (λ n. n < length (states c.args.machine.now.base.spec)) (sym c.source-source.ensures)
    (source_below c.args.machine.now c.law.ensures c.args.transition c.transition.result.now c.transition.ensures))

pub returns : goal.returns
returns c = λ x at.
    let s = c.args.machine.now.base.spec in
    let w = c.args.world.now in
    c.active.ensures w (sym c.as_slice.ensures)
    ∙ ap (λ (t : Spec). active t w (path_of t c.source-source.result)) c.tree.ensures
    ∙ ap (is_active s w) c.source-source.ensures
    ∙ ap (λ (y : GroundTransition). is_active s w y.source) (same_Some c.transition.result.now x (sym c.transition.ensures ∙ at))
