use Rattle.std.proofs.Common.{refl}
use Rattle.event_graph.proofs.ClashLemmas.{none_reached}
use Rattle.event_graph.proofs.clashes.clash_within.Goals as goal

pub returns-in-None : goal.returns-in-None
returns-in-None c = λ _.
    none_reached c.args.graph.now c.over-all.result c.args.event c.over-all.ensures.graph c.over-all.ensures.first
    (λ q l. c.over-all.ensures.set q (c.requires.all q l)) (c.in-None.ensures.none refl)
