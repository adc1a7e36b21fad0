use Rattle.std.proofs.Common.{length, refl}
use Rattle.std.proofs.lemmas.Option.{slice_get_read}
use Rattle.event_graph.proofs.RowLemmas.{put_at}
use Rattle.event_graph.proofs.sets.put_in.Goals as goal

pub returns-clause-more : goal.returns-clause-more
returns-clause-more c =
    put_at c.args.sets.now.items c.args.place c.args.event c.index_mut.result.now c.put.new.self
    (slice_get_read c.args.sets.now.items (length c.args.sets.now.items) c.args.place c.index_mut.result.now refl c.requires.place c.index_mut.ensures.value) c.put.ensures
