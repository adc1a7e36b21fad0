-- Each round goes down one node, which keeps the meaning.
use Rattle.std.proofs.Common.{◌≡◌, ℕ, Bool, sym, subst, ap, ◌∙◌, arith, if◌then◌else◌, slice_get, Some}
use Rattle.bdd_core.specs.declared.node.Node.{Node}
use Rattle.bdd_core.specs.Diagram.{Diagram, IsReduced, meaning}
use Rattle.bdd_core.specs.Calls.{values_of}
use Rattle.bdd_core.proofs.CallLemmas.{step-down, walk-end}
use Rattle.bdd_core.proofs.arena.Arena.eval.Goals as goal

pub loop-at-preserved-then-values-node : goal.loop-at-preserved-then-values-node
loop-at-preserved-then-values-node c =
    let d : Diagram = c.args.self.now in
    let t : Node = c.node-node.result in
    let v : ℕ → Bool = values_of c.args.values.now in
    let reads : slice_get c.args.self.now.nodes c.loop-at.at ≡ Some c.node-node.result = subst (λ (d : Diagram). slice_get d.nodes c.loop-at.at ≡ Some c.node-node.result) c.self.view_is c.node-node.ensures in
    let down = step-down c.args.self.now c.loop-at.at t (subst IsReduced c.self.view_is c.self.invariant.is_reduced) reads c.loop-at.invariant.0 (omega (arith, c.loop-at-test.true)) in (
      omega (arith, down.1, c.loop-at.invariant.0),
      sym (down.2 v ∙ ap (λ b. if b then meaning d t.high v else meaning d t.low v) c.if-values-node.true) ∙ c.loop-at.invariant.1,
    )

pub loop-at-smaller : goal.loop-at-smaller
loop-at-smaller c =
    let reads : slice_get c.args.self.now.nodes c.loop-at.at ≡ Some c.node-node.result = subst (λ (d : Diagram). slice_get d.nodes c.loop-at.at ≡ Some c.node-node.result) c.self.view_is c.node-node.ensures in
    (step-down c.args.self.now c.loop-at.at c.node-node.result (subst IsReduced c.self.view_is c.self.invariant.is_reduced) reads c.loop-at.invariant.0 (omega (arith, c.loop-at-test.true))).0

pub loop-at-preserved : goal.loop-at-preserved
loop-at-preserved c =
    let d : Diagram = c.args.self.now in
    let t : Node = c.node-node.result in
    let v : ℕ → Bool = values_of c.args.values.now in
    let reads : slice_get c.args.self.now.nodes c.loop-at.at ≡ Some c.node-node.result = subst (λ (d : Diagram). slice_get d.nodes c.loop-at.at ≡ Some c.node-node.result) c.self.view_is c.node-node.ensures in
    let down = step-down c.args.self.now c.loop-at.at t (subst IsReduced c.self.view_is c.self.invariant.is_reduced) reads c.loop-at.invariant.0 (omega (arith, c.loop-at-test.true)) in (
      omega (arith, down.0, c.loop-at.invariant.0),
      sym (down.2 v ∙ ap (λ b. if b then meaning d t.high v else meaning d t.low v) c.if-values-node.false) ∙ c.loop-at.invariant.1,
    )

pub returns : goal.returns
returns c = walk-end c.args.self.now c.loop-at.at (values_of c.args.values.now) (omega (arith, c.loop-at-test.false)) ∙ c.loop-at.invariant.1
