use Rattle.std.proofs.Common.{rules, ap, ◌∙◌}
use Rattle.event_graph.specs.Sets.{has_at}
use Rattle.event_graph.proofs.RowLemmas.{none_in_none, none_more}
use Rattle.event_graph.proofs.sets.no_events.Goals as goal

pub loop-row-init : goal.loop-row-init
loop-row-init c = (search rules, none_in_none c.new-rows.result.items (search rules))

pub loop-row-preserved : goal.loop-row-preserved
loop-row-preserved c = (search rules, λ a b. ap (λ xs. has_at xs a b) c.in_ok-push.ensures.items ∙ none_more c.loop-row.rows.items c.new.result c.loop-row.invariant.1 c.new.ensures a b)
