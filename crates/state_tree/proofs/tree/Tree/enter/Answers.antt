use Rattle.std.proofs.Common.{◌<◌, length, sym, ap, ◌∙◌, subst, arith}
use Rattle.rsml_syntax.specs.declared.syntax.Spec.{Spec}
use Rattle.rsml_syntax.specs.limits.Checked.{IsChecked}
use Rattle.rsml_meaning.specs.Instances.{states}
use Rattle.rsml_meaning.specs.Words.{is_prefix}
use Rattle.state_tree.specs.Numbers.{path_of, component_path}
use Rattle.state_tree.specs.Tables.{Family, AreFamilies}
use Rattle.state_tree.proofs.Entry.{none_written, written_more, written_out, written_all}
use Rattle.state_tree.proofs.Walks.{node_within}
use Rattle.state_tree.proofs.tree.Tree.enter.Goals as goal

pub loop-below-init : goal.loop-below-init
loop-below-init c =
    let fs = c.self.inside.families.items in
    let all = subst (λ (s : Spec). AreFamilies s fs) c.self.view_is c.self.invariant.families in
    let checked = subst (λ (s : Spec). IsChecked s) c.self.view_is c.self.invariant.checked in
    none_written c.args.self.now fs c.args.component c.family.result.now (path_of c.args.self.now c.args.target) c.args.choices.now checked all c.family.ensures c.requires.fit

pub is_within-requires-clause-node : goal.is_within-requires-clause-node
is_within-requires-clause-node c =
    let s = c.args.self.now in
    let h = c.family-in-loop-below.ensures in
    subst (λ n. n < length (states s)) (sym (ap (λ (f : Family). f.node) c.behind-self-in-loop-below.view_is)) (node_within s c.family-in-loop-below.result.now.node h.0.path h.2.path)

pub is_within-requires-clause-outer : goal.is_within-requires-clause-outer
is_within-requires-clause-outer c =
    let s = c.args.self.now in
    let h = c.family.ensures in
    subst (λ n. n < length (states s)) (sym (ap (λ (f : Family). f.node) c.behind-self.view_is)) (node_within s c.family.result.now.node h.0.path h.2.path)

pub returns-then-not-is_within : goal.returns-then-not-is_within
returns-then-not-is_within c =
    let s = c.args.self.now in
    let fs = c.self.inside.families.items in
    let all = subst (λ (s : Spec). AreFamilies s fs) c.self.view_is c.self.invariant.families in
    let checked = subst (λ (s : Spec). IsChecked s) c.self.view_is c.self.invariant.checked in
    let top = ap (λ (f : Family). f.node) c.behind-self.view_is in
    let node = ap (λ (f : Family). f.node) c.behind-self-in-loop-below.view_is in
    let out = ap (λ n. is_prefix (path_of s n) (path_of s c.family-in-loop-below.result.now.node)) (sym top) ∙ ap (λ n. is_prefix (path_of s c.behind-self.inside.node) (path_of s n)) (sym node) ∙ sym c.is_within.ensures ∙ c.if-not-is_within.true in
    written_out s fs c.args.component c.loop-below.below c.family.result.now c.family-in-loop-below.result.now (path_of s c.args.target) c.args.choices.now c.loop-below.choices checked all
    c.family.ensures c.family-in-loop-below.ensures c.requires.fit c.loop-below.auto.below out c.loop-below.invariant

pub loop-below-preserved : goal.loop-below-preserved
loop-below-preserved c =
    let s = c.args.self.now in
    let k = c.args.component in
    let below = c.loop-below.below in
    let f = c.family.result.now in
    let g = c.family-in-loop-below.result.now in
    let target = path_of s c.args.target in
    let old = c.args.choices.now in
    let top = ap (λ (f : Family). f.node) c.behind-self.view_is in
    let node = ap (λ (f : Family). f.node) c.behind-self-in-loop-below.view_is in
    let within = ap (λ n. is_prefix (path_of s n) (path_of s g.node)) (sym top) ∙ ap (λ n. is_prefix (path_of s c.behind-self.inside.node) (path_of s n)) (sym node) ∙ sym c.is_within.ensures ∙ c.if-not-is_within.false in
    rw c.set.ensures (written_more s k below c.entered.result f g target old c.loop-below.choices c.family.ensures c.family-in-loop-below.ensures c.requires.fit within c.entered.ensures c.loop-below.invariant)

pub returns : goal.returns
returns c =
    let s = c.args.self.now in
    let l = c.loop-below-test.false in
    written_all s (component_path s c.args.component) (path_of s c.args.target) c.loop-below.below c.args.choices.now c.loop-below.choices c.requires.fit (omega (arith, l, c.components-below-end.ensures)) c.loop-below.invariant
