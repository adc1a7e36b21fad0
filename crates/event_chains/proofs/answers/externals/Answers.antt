use Rattle.std.proofs.Common.{◌≡◌, ◌+◌, ◌<◌, suc, length, ap, subst, arith}
use Rattle.rsml_meaning.specs.Instances.{events}
use Rattle.state_tree.proofs.Lists.{within_get}
use Rattle.event_graph.specs.Graphs.{Graph}
use Rattle.event_chains.proofs.FoundLemmas.{AreShown, shown_turn}
use Rattle.event_chains.proofs.answers.externals.Goals as goal

pub loop-event-preserved : goal.loop-event-preserved
loop-event-preserved c =
    let s = c.args.checked.now in
    let k = c.loop-event.event in
    let same = ap (λ (g : Graph). g.count) c.graph.ensures in
    let there : k < length (events s) = omega (arith, c.loop-event-test.true, c.count-event-end.ensures.count, same, c.requires.counted) in
    let e = within_get (events s) k there in
    let next : suc k ≡ k + 1 = omega arith in
    subst (λ n. AreShown s n c.push_any.new.rows.items) next
    (shown_turn s k e.0 c.loop-event.rows.items c.push_any.new.rows.items c.external.result e.1 c.loop-event.invariant (c.external.ensures e.0 e.1) c.in_ok-push_any.ensures)
