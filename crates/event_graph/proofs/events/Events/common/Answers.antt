use Rattle.std.proofs.Common.{rules, ◌≡◌, length, arith}
use Rattle.event_graph.specs.Sets.{has}
use Rattle.event_graph.proofs.BitLemmas.{all_and}
use Rattle.event_graph.proofs.events.Events.common.Goals as goal

pub returns : goal.returns
unfolding has
returns c =
    let long : length c.args.self.now.words ≡ 16 = search rules in
    let same : length c.args.other.now.words ≡ 16 = search rules in
    all_and c.args.self.now.words c.args.other.now.words c.loop-place.both.words c.loop-place.place long same (omega (arith, c.loop-place-test.false, c.loop-place.auto.place-end)) c.loop-place.invariant.1
