use Rattle.std.proofs.Common.{◌∙◌}
use Rattle.event_graph.proofs.RowLemmas.{read_is}
use Rattle.event_graph.proofs.loops.is_at.Goals as goal

pub returns : goal.returns
returns c = c.has.ensures ∙ read_is c.args.sets.now c.args.first _ c.requires.first c.args.second
