use Rattle.std.proofs.Common.{arith, rules}
use Rattle.event_graph.proofs.RowLemmas.{row_is}
use Rattle.event_graph.proofs.ReachLemmas.{join_turn, join_end}
use Rattle.event_graph.proofs.loops.go_through.Goals as goal

pub loop-event-preserved : goal.loop-event-preserved
loop-event-preserved c =
    let turn = join_turn c.args.sets.now.items c.loop-event.sets.items c.join_at.new.sets.items c.index.result.now c.args.middle c.loop-event.event
    (row_is c.args.sets.now.items c.args.middle c.index.result.now c.requires.middle c.index.ensures)
    c.join_at.ensures.more c.loop-event.invariant.1 c.loop-event.invariant.2 in
    (search rules, λ a b l. turn.0 a b (omega (arith, l)), λ a b l. turn.1 a b (omega (arith, l)))

pub returns-clause-more : goal.returns-clause-more
returns-clause-more c =
    join_end c.args.sets.now.items c.loop-event.sets.items c.args.middle c.loop-event.event
    (search rules) c.loop-event.invariant.0 c.loop-event.invariant.1
