use Rattle.std.proofs.Common.{◌≡◌, ap, arith}
use Rattle.bdd_core.specs.Diagram.{IsReducedNode, node_at}
use Rattle.bdd_core.specs.Calls.{IsBranch}
use Rattle.settled_worlds.proofs.VisitLemmas.{visits_node}
use Rattle.settled_worlds.proofs.striking.visit.Goals as goal

pub returns-in_ok-insert-2 : goal.returns-in_ok-insert-2
returns-in_ok-insert-2 c =
    let node : IsBranch c.args.arena.now c.args.f c.in_Some-node.node = c.in_Some-node.ensures.node in
    let reduced : IsReducedNode c.args.arena.now c.args.f (node_at c.args.arena.now c.args.f) = node.reduced in
    let level : (node_at c.args.arena.now c.args.f).level ≡ c.in_Some-node.node.level = ap (λ t. t.level) node.node in
    visits_node c.args.arena.now c.args.f c.in_Some-node.node
    c.args.seen.now.keys c.insert.new.self.keys c.insert-in_Some-node.new.self.keys c.args.used.now.items
    c.requires.f_ref node (omega (arith, reduced.level_fits, level, c.requires.room)) c.in_ok-insert.ensures.keys c.in_ok-insert-2.ensures.keys
