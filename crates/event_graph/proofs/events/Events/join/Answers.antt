use Rattle.std.proofs.Common.{rules, ◌≡◌, length, arith}
use Rattle.event_graph.specs.Sets.{has}
use Rattle.event_graph.proofs.BitLemmas.{all_or}
use Rattle.event_graph.proofs.events.Events.join.Goals as goal

pub returns : goal.returns
unfolding has
returns c =
    let long : length c.args.self.now.words ≡ 16 = search rules in
    let same : length c.args.other.now.words ≡ 16 = search rules in
    all_or c.args.self.now.words c.args.other.now.words c.loop-place.self.words c.loop-place.place long same (omega (arith, c.loop-place-test.false, c.loop-place.auto.place-end)) c.loop-place.invariant.1
