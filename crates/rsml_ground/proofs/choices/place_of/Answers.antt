use Rattle.std.proofs.Common.{◌≡◌, Some, slice_get, subst, arith, ⊎_elim}
use Rattle.rsml_meaning.specs.Instances.{components, states}
use Rattle.rsml_meaning.specs.Active.{chosen}
use Rattle.state_tree.specs.nodes.Numbers.{paths}
use Rattle.state_tree.proofs.Lists.{within_get}
use Rattle.rsml_ground.proofs.Activity.{active_by_place, never_by_place, not_this, before_or_at}
use Rattle.rsml_ground.proofs.choices.place_of.Goals as goal

pub returns-then-child-node : goal.returns-then-child-node
returns-then-child-node c =
    let s = c.args.tree.now in
    let k = within_get (components s) c.args.component c.requires.component in
    let many = c.children-many.ensures k.0 k.1 in
    active_by_place s c.requires.checked c.args.node c.args.outer c.args.component c.child.result c.loop-place.place k.0 k.1 c.requires.node c.requires.outer c.requires.here
    (omega (arith, many, c.loop-place-test.true)) (c.child.ensures k.0 k.1) c.if-child-node.true

pub loop-place-preserved : goal.loop-place-preserved
loop-place-preserved c = λ d e n l h.
    ⊎_elim
    (λ before. c.loop-place.invariant d e n before h)
    (λ here. not_this c.args.tree.now c.requires.checked c.args.node c.child.result (chosen (d, c.loop-place.place)) (c.child.ensures d e) c.if-child-node.false (subst (λ i. slice_get (paths (states c.args.tree.now)) c.args.node ≡ Some (chosen (d, i))) here h))
    (before_or_at n c.loop-place.place l)

pub returns : goal.returns
returns c =
    let s = c.args.tree.now in
    let k = within_get (components s) c.args.component c.requires.component in
    let many = c.children-many.ensures k.0 k.1 in
    never_by_place s c.requires.checked c.args.node c.args.outer c.args.component c.children-many.result k.0 k.1 c.requires.node c.requires.outer c.requires.here many
    (λ n l. c.loop-place.invariant k.0 k.1 n (omega (arith, l, many, c.loop-place-test.false)))
