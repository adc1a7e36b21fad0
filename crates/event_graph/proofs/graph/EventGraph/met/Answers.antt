use Rattle.std.proofs.Common.{ap, ◌∙◌, arith}
use Rattle.event_graph.specs.Sets.{has_at}
use Rattle.event_graph.specs.Graphs.{Graph}
use Rattle.event_graph.proofs.RowLemmas.{row_is}
use Rattle.event_graph.proofs.graph.EventGraph.met.Goals as goal

pub returns : goal.returns
returns c = λ q.
    row_is c.self.inside.pairs.items c.args.event c.index.result.now
    (let long = c.self.invariant.marks.long in let few = ap (λ (g : Graph). g.count) c.self.view_is in omega (arith, c.requires, long, few)) c.index.ensures q
    ∙ ap (λ (g : Graph). has_at g.pairs c.args.event q) c.self.view_is
