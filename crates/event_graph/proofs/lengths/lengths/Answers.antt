use Rattle.std.proofs.Common.{◌≡◌, ◌+◌, suc, Some, subst, ap, sym, ◌∙◌, arith}
use Rattle.event_graph.specs.Ended.{AreEnded}
use Rattle.event_graph.proofs.LengthLemmas.{one_round, all_rounds}
use Rattle.event_graph.proofs.lengths.lengths.Goals as goal

pub loop-round-preserved : goal.loop-round-preserved
loop-round-preserved c =
    let n = c.loop-round.round in
    let next : suc n ≡ n + 1 = omega arith in
    let long = c.loop-round.invariant.long in
    subst (λ k. AreEnded c.args.graph.now k c.next_ended-next.result c.note.new.lengths.items) next
    (one_round c.args.graph.now c.count.ensures.graph n c.loop-round.ended c.next_ended-next.result c.loop-round.lengths.items c.note.new.lengths.items
    c.loop-round.invariant c.next_ended-next.ensures.some c.next_ended-next.ensures.all c.note.ensures.long
    (λ e l h k. c.note.ensures.noted e (omega (arith, l, long)) h k ∙ ap Some (sym next))
    (λ e l h. c.note.ensures.kept e h))

pub returns : goal.returns
returns c =
    let all : c.loop-round.round ≡ c.args.graph.now.count = omega (arith, c.loop-round-test.false, c.loop-round.auto.round-end, c.count-round-end.ensures.count) in
    all_rounds c.args.graph.now c.count.ensures.graph c.loop-round.ended c.loop-round.lengths.items
    (subst (λ k. AreEnded c.args.graph.now k c.loop-round.ended c.loop-round.lengths.items) all c.loop-round.invariant)
