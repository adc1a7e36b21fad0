use Rattle.std.proofs.Common.{◌<◌, arith}
use Rattle.bdd_core.specs.Diagram.{node_at}
use Rattle.bdd_core.specs.Children.{IsAny, IsRest}
use Rattle.bdd_core.proofs.ChildLemmas.{child-next}
use Rattle.bdd_core.proofs.arena.Arena.descend_without.Goals as goal

pub down-preserved : goal.down-preserved
down-preserved c =
    child-next IsAny (IsRest c.args.levels.now) c.args.self.now c.rest_at_once.ensures.reduced c.args.f c.args.waiting.now.items c.down.asked c.down.waiting.items c.push.new.self.items c.own_children-low.result.0
    c.down.invariant c.in_default.ensures.open tt c.in_ok-push.ensures.items c.own_children-low.ensures.low

pub down-smaller : goal.down-smaller
down-smaller c =
    let before : (node_at c.args.self.now c.down.asked).low < c.down.asked = (c.rest_at_once.ensures.reduced.reduced c.down.asked c.in_default.ensures.open c.down.invariant.f_ref).low_before in
    omega (arith, before, c.own_children-low.ensures.low)
