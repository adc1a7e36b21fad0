use Rattle.std.proofs.Common.{◌≤◌, length, List, sym, subst, arith}
use Rattle.std.specs.List.{AllZip}
use Rattle.rsml_syntax.specs.declared.syntax.StateDecl.{StateDecl}
use Rattle.rsml_meaning.specs.Instances.{State}
use Rattle.state_tree.specs.nodes.Numbers.{paths}
use Rattle.state_tree.specs.Tables.{IsChildNamed}
use Rattle.state_tree.proofs.Kin.{names, one_state_in, family_of, no_family}
use Rattle.state_tree.proofs.Rows.{children_in_row}
use Rattle.state_tree.proofs.Walks.{few_states}
use Rattle.state_tree.proofs.families.family.Goals as goal

pub child_place-default-requires : goal.child_place-default-requires
child_place-default-requires c =
    let r = one_state_in c.args.spec.now c.args.nodes.now c.args.node c.in-Some.body.now c.in-Some-default_of.first.now c.requires.checked c.requires.nodes c.in-Some.ensures c.in-Some-default_of.ensures in
    subst (λ (cs : List StateDecl). length cs ≤ 64) (sym c.children_of-children.ensures) r.1.few

pub returns-in-None : goal.returns-in-None
returns-in-None c = no_family c.args.spec.now c.args.nodes.now c.args.node c.in-Some.body.now c.requires.nodes c.in-Some.ensures c.in-None.ensures

pub overflow_add-node : goal.overflow_add-node
overflow_add-node c = let l : length c.args.nodes.now ≤ 4096 = subst (λ (xs : List State). length xs ≤ 4096) (sym c.requires.nodes) (few_states c.args.spec.now c.requires.checked) in omega (arith, l, c.requires.node)

pub in_row-requires : goal.in_row-requires
in_row-requires c =
    let stand = children_in_row c.args.spec.now c.args.nodes.now c.args.ends.now c.args.node c.in-Some.body.now c.in-Some-default_of.first.now c.children_of-children.result.now
    c.requires.checked c.requires.nodes c.requires.ends c.in-Some.ensures c.in-Some-default_of.ensures c.children_of-children.ensures in
    stand.within

pub returns-in_ok-children-in-Some-default_of : goal.returns-in_ok-children-in-Some-default_of
returns-in_ok-children-in-Some-default_of c =
    let r = one_state_in c.args.spec.now c.args.nodes.now c.args.node c.in-Some.body.now c.in-Some-default_of.first.now c.requires.checked c.requires.nodes c.in-Some.ensures c.in-Some-default_of.ensures in
    let cs = c.children_of-children.result.now in
    let stand = children_in_row c.args.spec.now c.args.nodes.now c.args.ends.now c.args.node c.in-Some.body.now c.in-Some-default_of.first.now c.children_of-children.result.now
    c.requires.checked c.requires.nodes c.requires.ends c.in-Some.ensures c.in-Some-default_of.ensures c.children_of-children.ensures in
    family_of c.args.spec.now c.args.nodes.now c.args.node c.in-Some.body.now c.in-Some-default_of.first.now cs c.child_place-default.result c.in_ok-children-in-Some-default_of.children.items
    c.requires.nodes c.children_of-children.ensures r c.child_place-default.ensures
    (subst (λ ns. AllZip (IsChildNamed (paths c.args.nodes.now) c.args.node) (names cs) ns) (sym c.in_ok-children-in-Some-default_of.ensures) stand.are)
