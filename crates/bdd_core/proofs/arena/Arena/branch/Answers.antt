use Rattle.std.proofs.Common.{◌≡◌, subst, refl, arith, true≢false, slice_get, Some}
use Rattle.bdd_core.specs.Diagram.{Diagram, IsReduced}
use Rattle.bdd_core.proofs.CallLemmas.{constant-small, no_constant-node, branch-at}
use Rattle.bdd_core.proofs.arena.Arena.branch.Goals as goal

pub returns-then-f-lt2-clause-constant : goal.returns-then-f-lt2-clause-constant
returns-then-f-lt2-clause-constant c = (λ _. constant-small c.args.self.now c.args.f (omega (arith, c.if-f-lt2.true, c.f.view_is)), λ _. refl)

pub returns-clause-constant : goal.returns-clause-constant
returns-clause-constant c =
    let is : IsReduced c.args.self.now = subst IsReduced c.self.view_is c.self.invariant.is_reduced in (
      λ e. absurd (true≢false e),
      λ k. absurd (no_constant-node c.args.self.now is c.args.f c.requires (omega (arith, c.if-f-lt2.false, c.f.view_is)) k),
    )

pub returns-clause-node : goal.returns-clause-node
returns-clause-node c =
    let is : IsReduced c.args.self.now = subst IsReduced c.self.view_is c.self.invariant.is_reduced in
    let reads : slice_get c.args.self.now.nodes c.args.f ≡ Some c.node-node.result =
    subst (λ k. slice_get c.args.self.now.nodes k ≡ Some c.node-node.result) c.f.view_is
    (subst (λ (d : Diagram). slice_get d.nodes c.f.inside.place ≡ Some c.node-node.result) c.self.view_is c.node-node.ensures) in
    branch-at c.args.self.now is c.args.f c.node-node.result c.at.result c.at-2.result c.requires (omega (arith, c.if-f-lt2.false, c.f.view_is)) reads c.at.ensures c.at-2.ensures
