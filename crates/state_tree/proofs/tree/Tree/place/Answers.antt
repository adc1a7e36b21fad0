use Rattle.std.proofs.Common.{◌≤◌, List, length, sym, ap, ◌∙◌, subst, unwrap_or}
use Rattle.std.proofs.lemmas.List.{length-map}
use Rattle.rsml_syntax.specs.declared.syntax.StateDecl.{StateDecl}
use Rattle.rsml_syntax.specs.text.Names.{Name, place_of}
use Rattle.rsml_meaning.specs.Instances.{states}
use Rattle.state_tree.specs.Tables.{Family}
use Rattle.state_tree.proofs.Kin.{HasBody, children_are}
use Rattle.state_tree.proofs.Walks.{is_family}
use Rattle.state_tree.proofs.tree.Tree.place.Goals as goal

pub child_place-requires : goal.child_place-requires
child_place-requires c =
    let s = c.args.self.now in
    let h = c.family.ensures in
    let e = c.self.invariant.nodes ∙ ap states c.self.view_is in
    let body = subst (λ n. HasBody c.self.inside.nodes n c.in-Some.body.now) (ap (λ (f : Family). f.node) c.behind-self.view_is) c.in-Some.ensures in
    let are = children_are s c.self.inside.nodes c.family.result.now.node c.in-Some.body.now h.0 c.children_of.result.now e body h.2.here c.children_of.ensures in
    let l = ap length are in
    subst (λ n. n ≤ 64) (sym l ∙ length-map c.children_of.result.now (λ (d : StateDecl). d.name)) h.2.few

pub returns-in-Some : goal.returns-in-Some
returns-in-Some c = λ k g.
    let s = c.args.self.now in
    let f = is_family s c.args.component c.family.result.now k c.family.ensures g in
    let e = c.self.invariant.nodes ∙ ap states c.self.view_is in
    let body = subst (λ n. HasBody c.self.inside.nodes n c.in-Some.body.now) (ap (λ (h : Family). h.node) c.behind-self.view_is) c.in-Some.ensures in
    let are = children_are s c.self.inside.nodes c.family.result.now.node c.in-Some.body.now k c.children_of.result.now e body f.here c.children_of.ensures in
    c.child_place.ensures ∙ ap (λ (ns : List Name). unwrap_or (place_of c.args.name.now ns) 0) are
