use Rattle.std.proofs.Common.{◌||◌, ◌&&◌, ◌∙◌, arith, ap}
use Rattle.event_graph.specs.Sets.{has, has_at}
use Rattle.event_graph.proofs.ReachLemmas.{begun_turn, begun_end}
use Rattle.event_graph.proofs.loops.begun_of.Goals as goal

pub loop-start-preserved : goal.loop-start-preserved
loop-start-preserved c =
    let turn = begun_turn c.args.graph.now c.args.sets.now c.loop-start.begun c.begin_at.new.begun c.loop-start.start
    (λ e. c.begin_at.ensures e ∙ ap (λ s. has c.loop-start.begun e || (s && has_at c.args.sets.now c.loop-start.start e)) (c.starts-starts.ensures c.loop-start.start))
    c.loop-start.invariant.0 c.loop-start.invariant.1 c.loop-start.invariant.2 in
    (turn.0, turn.1, λ x e l. turn.2 x e (omega (arith, l)))

pub returns-clause-all : goal.returns-clause-all
returns-clause-all c =
    begun_end c.args.graph.now c.count-start-end.ensures.graph c.args.sets.now c.loop-start.begun c.loop-start.start
    (omega (arith, c.loop-start-test.false, c.count-start-end.ensures.count)) c.loop-start.invariant.1 c.loop-start.invariant.2
