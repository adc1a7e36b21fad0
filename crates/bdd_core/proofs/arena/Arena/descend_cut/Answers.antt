use Rattle.std.proofs.Common.{◌<◌, arith}
use Rattle.bdd_core.specs.Diagram.{node_at}
use Rattle.bdd_core.specs.Children.{IsApart, IsCutAt}
use Rattle.bdd_core.proofs.ChildLemmas.{child-next}
use Rattle.bdd_core.proofs.arena.Arena.descend_cut.Goals as goal

pub down-preserved : goal.down-preserved
down-preserved c =
    child-next (IsApart c.args.level) (IsCutAt c.args.level c.args.value) c.args.self.now c.cut_at_once.ensures.reduced c.args.f c.args.waiting.now.items c.down.asked c.down.waiting.items c.push.new.self.items c.own_children-low.result.0
    c.down.invariant c.in_default.ensures.open c.in_default.ensures.apart c.in_ok-push.ensures.items c.own_children-low.ensures.low

pub down-smaller : goal.down-smaller
down-smaller c =
    let before : (node_at c.args.self.now c.down.asked).low < c.down.asked = (c.cut_at_once.ensures.reduced.reduced c.down.asked c.in_default.ensures.open c.down.invariant.f_ref).low_before in
    omega (arith, before, c.own_children-low.ensures.low)
