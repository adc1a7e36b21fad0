use Rattle.bdd_core.proofs.WaitingLemmas.{asked-next}
use Rattle.bdd_core.proofs.arena.Arena.descend.Goals as goal

pub down-preserved : goal.down-preserved
down-preserved c =
    asked-next c.args.self.now (c.args.f, c.args.g, c.args.h) c.args.waiting.now.items c.down.asked.0 c.down.asked.1 c.down.asked.2 c.down.waiting.items c.push.new.self.items c.part-asked.result
    c.down.invariant c.in_default.ensures.open c.in_ok-push.ensures.items c.part-asked.ensures.part c.part-asked.ensures.falls
