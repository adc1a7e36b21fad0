use Rattle.std.proofs.Common.{subst}
use Rattle.rsml_syntax.specs.declared.syntax.Spec.{Spec}
use Rattle.rsml_syntax.specs.limits.Checked.{IsChecked}
use Rattle.state_tree.specs.Tables.{AreFamilies}
use Rattle.state_tree.proofs.Walks.{choice_within, has_child, leads_child, leads_none, told_none}
use Rattle.rsml_meaning.specs.Instances.{components, states}
use Rattle.state_tree.specs.nodes.Numbers.{component_at}
use Rattle.state_tree.proofs.tree.Tree.leads.Goals as goal

pub bounds-choices-component : goal.bounds-choices-component
bounds-choices-component c =
    let fs = c.self.inside.families.items in
    let all = subst (λ (s : Spec). AreFamilies s fs) c.self.view_is c.self.invariant.families in
    let checked = subst (λ (s : Spec). IsChecked s) c.self.view_is c.self.invariant.checked in
    choice_within c.args.self.now fs checked all c.args.choices.now c.args.parent c.in-Some.component c.in-Some.ensures c.requires.choices

pub child-requires : goal.child-requires
child-requires c =
    let fs = c.self.inside.families.items in
    let all = subst (λ (s : Spec). AreFamilies s fs) c.self.view_is c.self.invariant.families in
    let checked = subst (λ (s : Spec). IsChecked s) c.self.view_is c.self.invariant.checked in
    has_child c.args.self.now fs checked all c.args.choices.now c.args.parent c.in-Some.component c.in-Some.ensures c.requires.choices

pub returns-in-Some : goal.returns-in-Some
returns-in-Some c =
    let fs = c.self.inside.families.items in
    let all = subst (λ (s : Spec). AreFamilies s fs) c.self.view_is c.self.invariant.families in
    let checked = subst (λ (s : Spec). IsChecked s) c.self.view_is c.self.invariant.checked in
    leads_child c.args.self.now fs checked all c.args.choices.now c.args.parent c.args.node c.child.result c.in-Some.component c.in-Some.ensures c.requires.choices c.child.ensures

pub returns-in-None : goal.returns-in-None
returns-in-None c =
    let s = c.args.self.now in
    let fs = c.self.inside.families.items in
    let all = subst (λ (s : Spec). AreFamilies s fs) c.self.view_is c.self.invariant.families in
    let checked = subst (λ (s : Spec). IsChecked s) c.self.view_is c.self.invariant.checked in
    λ p x h k. leads_none s fs checked all c.args.choices.now c.args.parent p x h (told_none (components s) (component_at (states s) c.args.parent) c.in-None.ensures)
