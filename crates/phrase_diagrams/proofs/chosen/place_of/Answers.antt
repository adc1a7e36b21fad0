use Rattle.std.proofs.Common.{◌≡◌, Some, slice_get, subst, arith, ⊎_elim}
use Rattle.rsml_meaning.specs.Instances.{states, components}
use Rattle.rsml_meaning.specs.Active.{chosen}
use Rattle.state_tree.specs.nodes.Numbers.{paths}
use Rattle.state_tree.proofs.Lists.{within_get}
use Rattle.rsml_ground.proofs.Activity.{place_found, not_this, before_or_at}
use Rattle.phrase_diagrams.proofs.chosen.place_of.Goals as goal

pub child-requires : goal.child-requires
child-requires c =
    let k = within_get (components c.args.tree.now) c.args.component c.requires.component in
    let many = c.children-place-end.ensures k.0 k.1 in
    (k.0, k.1, omega (arith, many, c.loop-place-test.true))

pub returns-then-child-node : goal.returns-then-child-node
returns-then-child-node c = λ d e.
    let many = c.children-place-end.ensures d e in
    place_found c.args.tree.now c.requires.checked c.args.component c.args.node c.child.result c.loop-place.place d e (omega (arith, many, c.loop-place-test.true)) (c.child.ensures d e) c.if-child-node.true

pub loop-place-preserved : goal.loop-place-preserved
loop-place-preserved c = λ d e n l h.
    ⊎_elim
    (λ before. c.loop-place.invariant d e n before h)
    (λ here. not_this c.args.tree.now c.requires.checked c.args.node c.child.result (chosen (d, c.loop-place.place)) (c.child.ensures d e) c.if-child-node.false (subst (λ i. slice_get (paths (states c.args.tree.now)) c.args.node ≡ Some (chosen (d, i))) here h))
    (before_or_at n c.loop-place.place l)
