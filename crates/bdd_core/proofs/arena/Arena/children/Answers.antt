use Rattle.std.proofs.Common.{◌≡◌, ap, ◌∙◌, sym, subst, slice_get, Some}
use Rattle.std.proofs.lemmas.Option.{get_or_from_slice_get}
use Rattle.bdd_core.specs.declared.node.Node.{Node}
use Rattle.bdd_core.specs.Diagram.{Diagram, no_node, node_at, IsReduced}
use Rattle.bdd_core.proofs.StepLemmas.{children-node, children-other}
use Rattle.bdd_core.proofs.arena.Arena.children.Goals as goal

pub returns-then-node-level : goal.returns-then-node-level
returns-then-node-level c =
    children-node c.args.self.now c.args.f c.args.level c.node-node.result
    (subst IsReduced c.self.view_is c.self.invariant.is_reduced) c.requires.place c.requires.fits
    (subst (λ (d : Diagram). slice_get d.nodes c.args.f ≡ Some c.node-node.result) c.self.view_is c.node-node.ensures) c.if-node-level.true

pub returns-else-node-level : goal.returns-else-node-level
returns-else-node-level c =
    let at : slice_get c.args.self.now.nodes c.args.f ≡ Some c.node-node.result = subst (λ (d : Diagram). slice_get d.nodes c.args.f ≡ Some c.node-node.result) c.self.view_is c.node-node.ensures in
    let there : node_at c.args.self.now c.args.f ≡ c.node-node.result = get_or_from_slice_get c.args.self.now.nodes c.args.f c.node-node.result no_node at in
    children-other c.args.self.now c.args.f c.args.level c.requires.place c.requires.least
    (λ e. c.if-node-level.false (sym (ap (λ (t : Node). t.level) there) ∙ e))
