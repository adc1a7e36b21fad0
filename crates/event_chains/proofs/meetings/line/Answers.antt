use Rattle.std.proofs.Common.{◌<◌, [], length, arith}
use Rattle.event_chains.proofs.TellLemmas.{line_turn}
use Rattle.event_chains.proofs.meetings.line.Goals as goal

pub loop-other-preserved : goal.loop-other-preserved
loop-other-preserved c =
    let there : c.loop-other.other < length c.args.sets.now = omega (arith, c.loop-other-test.true, c.nodes-other-end.ensures, c.requires.long) in
    line_turn c.args.tree.now c.args.sets.now c.loop-other.events c.join_if.new.events c.args.node c.loop-other.other (record { words = [] }) c.on_one_line.result there c.on_one_line.ensures
    c.join_if.ensures c.loop-other.invariant.0 c.loop-other.invariant.1
