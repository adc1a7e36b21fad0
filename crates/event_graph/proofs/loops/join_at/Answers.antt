use Rattle.std.proofs.Common.{List, length, refl, ap, sym, ◌∙◌}
use Rattle.std.proofs.lemmas.Option.{slice_get_read}
use Rattle.event_graph.specs.declared.events.Events.{Events}
use Rattle.event_graph.specs.Sets.{has_at}
use Rattle.event_graph.proofs.RowLemmas.{join_where}
use Rattle.event_graph.proofs.loops.join_at.Goals as goal

pub returns-clause-more : goal.returns-clause-more
returns-clause-more c =
    join_where c.args.sets.now.items c.args.event c.args.middle c.index_mut.result.now c.join.new.self c.args.more.now
    (slice_get_read c.args.sets.now.items (length c.args.sets.now.items) c.args.event c.index_mut.result.now refl c.requires.event c.index_mut.ensures.value) c.join.ensures
    (ap (λ (xs : List Events). has_at xs c.args.event c.args.middle) (sym c.as_slice.ensures.value) ∙ sym c.is_at.ensures ∙ c.if-not-is_at.false)
