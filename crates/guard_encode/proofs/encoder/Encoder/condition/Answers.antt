use Rattle.std.proofs.Common.{◌≡◌, ◌<◌, true, length, ⊎_elim, sym, ap, ◌∙◌, subst}
use Rattle.std.specs.List.{All}
use Rattle.std.proofs.lemmas.Result.{IfOk-weaker}
use Rattle.rsml_syntax.specs.declared.syntax.Spec.{Spec}
use Rattle.rsml_meaning.specs.Instances.{states}
use Rattle.rsml_meaning.specs.Groups.{groups}
use Rattle.state_tree.proofs.Lists.{within_get}
use Rattle.ground_groups.specs.declared.group.GroupKind.{GroupKind}
use Rattle.ground_groups.specs.declared.group.GroupKind.TheVariants as kinds
use Rattle.elaborate.specs.Enabled.{meets_at}
use Rattle.guard_encode.specs.Encoding.{Encoding, Tells}
use Rattle.guard_encode.proofs.ConditionLemmas.{always_told, below_states, condition_told, has_none, kind_state}
use Rattle.guard_encode.proofs.encoder.Encoder.condition.Goals as goal

pub kind-requires : goal.kind-requires
kind-requires c =
    let own : c.groups-groups.result.now ≡ c.args.self.now.machine.base.spec = c.groups-groups.ensures ∙ ap (λ (e : Encoding). e.machine.base.spec) c.self.view_is in
    subst (λ (s : Spec). c.args.group < length (groups s)) (sym own) c.requires

pub alone-requires-clause-state : goal.alone-requires-clause-state
alone-requires-clause-state c =
    let s = c.groups-groups.result.now in
    let own : s ≡ c.args.self.now.machine.base.spec = c.groups-groups.ensures ∙ ap (λ (e : Encoding). e.machine.base.spec) c.self.view_is in
    let g = within_get (groups s) c.args.group (subst (λ (t : Spec). c.args.group < length (groups t)) (sym own) c.requires) in
    subst (λ (t : Spec). c.in-State.state < length (states t)) own (kind_state s g.0 c.in-State.state _ (c.in-State.ensures g.0 g.1))

pub alone-requires-clause-others : goal.alone-requires-clause-others
alone-requires-clause-others c =
    let s = c.groups-groups.result.now in
    let own : s ≡ c.args.self.now.machine.base.spec = c.groups-groups.ensures ∙ ap (λ (e : Encoding). e.machine.base.spec) c.self.view_is in
    let g = within_get (groups s) c.args.group (subst (λ (t : Spec). c.args.group < length (groups t)) (sym own) c.requires) in
    subst (λ (t : Spec). All (λ k. k < length (states t)) c.below.result.now) own (below_states s g.0 c.below.result.now (c.below.ensures g.0 g.1))

pub below-requires : goal.below-requires
below-requires c =
    let own : c.groups-groups.result.now ≡ c.args.self.now.machine.base.spec = c.groups-groups.ensures ∙ ap (λ (e : Encoding). e.machine.base.spec) c.self.view_is in
    subst (λ (s : Spec). c.args.group < length (groups s)) (sym own) c.requires

pub returns-in-State-clause-answer : goal.returns-in-State-clause-answer
returns-in-State-clause-answer c =
    let n = c.alone.new.self in
    let same : n.machine ≡ c.self.inside.machine.now = c.alone.ensures.keeps.machine ∙ sym (ap (λ (e : Encoding). e.machine) c.self.view_is) in
    IfOk-weaker c.alone.result (Tells n (λ w. meets_at n.machine w (kinds.State c.in-State.state c.in-State.event) c.below.result.now)) _
    (λ r h. condition_told c.conditions_are_those_of_the_text.ensures n c.self.inside.machine.now c.groups-groups.result.now c.args.group r c.kind.result c.below.result.now same c.groups-groups.ensures c.law.ensures
    c.kind.ensures c.below.ensures (subst (λ (kind : GroupKind). Tells n (λ w. meets_at n.machine w kind c.below.result.now) r) (sym c.in-State.is) h))
    c.alone.ensures.answer

pub returns-in-Send-clause-answer : goal.returns-in-Send-clause-answer
returns-in-Send-clause-answer c =
    let same : c.args.self.now.machine ≡ c.self.inside.machine.now = sym (ap (λ (e : Encoding). e.machine) c.self.view_is) in
    let none : has_none c.kind.result ≡ true = ⊎_elim (λ send. ap has_none send.2) (λ function. ap has_none function.1) c.in-Send.is in
    always_told c.args.self.now c.self.inside.machine.now c.groups-groups.result.now c.args.group c.constant.result c.kind.result same c.groups-groups.ensures none c.kind.ensures c.constant.ensures
