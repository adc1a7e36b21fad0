use Rattle.std.proofs.Common.{◌≡◌, ℕ, suc, ◌+◌, List, [], ◌∷◌, take, flat_map, length, ap, sym, ◌∙◌, arith, length-append}
use Rattle.rsml_syntax.specs.declared.syntax.StateDecl.{StateDecl}
use Rattle.rsml_syntax.specs.declared.world.Step.{Step}
use Rattle.rsml_syntax.specs.rules.Globals.{up_to}
use Rattle.rsml_meaning.specs.Words.{at, child_path}
use Rattle.rsml_meaning.specs.Instances.{child_states, new_state, inside, subtree}
use Rattle.state_tree.specs.nodes.Numbers.{Fit}
use Rattle.state_tree.proofs.Depths.{deepest, depth_of_children, depth_of_item, inside_is}
use Rattle.state_tree.proofs.NodeFitting.{rest_fits, after_first, turn_fits, index_fits, index_more, last_index}
use Rattle.state_tree.proofs.Numbering.{put_at, at_more, parent_at}
use Rattle.state_tree.proofs.nodes.Nodes.+walk.Goals as goal

pub with-with_children-requires : goal.with-with_children-requires
with-with_children-requires t c =
    let g = c.args.globals.now in
    let b = c.args.body.now in
    let p = c.args.path.now in
    let is : inside g b p ≡ flat_map (child_states g p) c.children_of.result.now =
    inside_is g p b ∙ ap (λ (cs : List StateDecl). flat_map (child_states g p) cs) (sym c.children_of.ensures) in (
      let d = ap (λ (cs : List StateDecl). suc (deepest cs)) c.children_of.ensures ∙ depth_of_children b in omega (arith, d, c.decreases),
      (
        put_at c.args.self c.in_ok-nodes.nodes (new_state b p) c.len-number.result c.in_ok-nodes.ensures c.len-number.ensures (omega (arith, c.requires.some)),
        rest_fits c.args.self c.in_ok-nodes.nodes (new_state b p) (inside g b p) (flat_map (child_states g p) c.children_of.result.now) c.in_ok-nodes.ensures is c.requires.room,
      ),
    )

pub with-returns : goal.with-returns
with-returns t c =
    let g = c.args.globals.now in
    let b = c.args.body.now in
    let p = c.args.path.now in
    let is : inside g b p ≡ flat_map (child_states g p) c.children_of.result.now =
    inside_is g p b ∙ ap (λ (cs : List StateDecl). flat_map (child_states g p) cs) (sym c.children_of.ensures) in
    after_first c.with_children.result c.args.self c.in_ok-nodes.nodes (new_state b p) (inside g b p) (flat_map (child_states g p) c.children_of.result.now) c.in_ok-nodes.ensures is c.with_children.ensures

pub with_array-overflow_cast-index : goal.with_array-overflow_cast-index
with_array-overflow_cast-index t c =
    let g = c.args.globals.now in
    let d = c.args.child.now in
    let f = λ (i : ℕ). subtree g d.body (child_path c.args.path.now (at d.name i)) in
    let room : Fit (length c.args.self) (flat_map f (up_to c.many-before-end.result)) = rw c.many-before-end.ensures c.requires.room in
    let fit = index_fits f c.args.self c.loop-before.nodes c.many-before-end.result c.loop-before.before c.loop-before.invariant c.loop-before-test.true room in
    let l = last_index c.args.path.now (at d.name (c.loop-before.before + 1)) fit.indices.0 in
    omega (arith, l)

pub with_array-with_instance-requires : goal.with_array-with_instance-requires
with_array-with_instance-requires t c =
    let g = c.args.globals.now in
    let d = c.args.child.now in
    let f = λ (i : ℕ). subtree g d.body (child_path c.args.path.now (at d.name i)) in
    let room : Fit (length c.args.self) (flat_map f (up_to c.many-before-end.result)) = rw c.many-before-end.ensures c.requires.room in (
      omega (arith, c.decreases),
      (
        at_more c.args.self c.loop-before.nodes (flat_map f (up_to c.loop-before.before)) c.args.parent c.args.path.now c.loop-before.invariant c.requires.parent,
        index_fits f c.args.self c.loop-before.nodes c.many-before-end.result c.loop-before.before c.loop-before.invariant c.loop-before-test.true room,
      ),
    )

pub with_array-loop-before-preserved : goal.with_array-loop-before-preserved
with_array-loop-before-preserved t c =
    let g = c.args.globals.now in
    let d = c.args.child.now in
    let f = λ (i : ℕ). subtree g d.body (child_path c.args.path.now (at d.name i)) in
    index_more f c.args.self c.loop-before.nodes c.in_ok-nodes.nodes c.loop-before.before c.loop-before.invariant c.in_ok-nodes.ensures

pub with_children-with_child-requires : goal.with_children-with_child-requires
with_children-with_child-requires t c =
    let f = child_states c.args.globals.now c.args.path.now in
    let cs = c.args.children.now in
    let i = c.loop-child.child-index in (
      let d = depth_of_item cs i c.child-item.result c.loop-child-test.true c.child-item.is in omega (arith, d, c.decreases),
      (
        at_more c.args.self c.loop-child.nodes (flat_map f (take i cs)) c.args.parent c.args.path.now c.loop-child.invariant c.requires.parent,
        turn_fits f c.args.self c.loop-child.nodes cs i c.child-item.result c.loop-child.invariant c.loop-child-test.true c.child-item.is c.requires.room,
      ),
    )

pub with_instance-with-requires : goal.with_instance-with-requires
with_instance-with-requires t c =
    let d = c.args.child.now in
    let step : Step = at d.name c.args.index in
    let is : c.deref.result.now ≡ child_path c.args.path.now step = c.deref.ensures.value ∙ c.in_ok-path.ensures in (
      omega (arith, c.decreases),
      (
        parent_at c.args.self c.args.parent c.args.path.now c.deref.result.now step is c.requires.parent,
        (
          rw is (omega (arith, length-append c.args.path.now (step ∷ []))),
          rw is c.requires.room,
        ),
      ),
    )
