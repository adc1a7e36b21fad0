use Rattle.std.proofs.Common.{◌≡◌, ap, sym, subst, slice_get, Some}
use Rattle.std.proofs.lemmas.Option.{get_or_from_slice_get}
use Rattle.bdd_core.specs.declared.node.Node.{Node}
use Rattle.bdd_core.specs.Diagram.{Diagram, no_node}
use Rattle.bdd_core.proofs.arena.Arena.own_children.Goals as goal

pub returns-clause-low : goal.returns-clause-low
returns-clause-low c =
    sym (ap (λ (t : Node). t.low) (get_or_from_slice_get c.args.self.now.nodes c.args.f c.node-node.result no_node
    (subst (λ (d : Diagram). slice_get d.nodes c.args.f ≡ Some c.node-node.result) c.self.view_is c.node-node.ensures)))

pub returns-clause-high : goal.returns-clause-high
returns-clause-high c =
    sym (ap (λ (t : Node). t.high) (get_or_from_slice_get c.args.self.now.nodes c.args.f c.node-node.result no_node
    (subst (λ (d : Diagram). slice_get d.nodes c.args.f ≡ Some c.node-node.result) c.self.view_is c.node-node.ensures)))
