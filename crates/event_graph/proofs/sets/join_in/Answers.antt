use Rattle.std.proofs.Common.{length, refl}
use Rattle.std.proofs.lemmas.Option.{slice_get_read}
use Rattle.event_graph.proofs.RowLemmas.{join_at}
use Rattle.event_graph.proofs.sets.join_in.Goals as goal

pub returns-clause-more : goal.returns-clause-more
returns-clause-more c =
    join_at c.args.sets.now.items c.args.place c.index_mut.result.now c.join.new.self c.args.more.now
    (slice_get_read c.args.sets.now.items (length c.args.sets.now.items) c.args.place c.index_mut.result.now refl c.requires c.index_mut.ensures.value) c.join.ensures
