use Rattle.std.proofs.Common.{arith}
use Rattle.ground_members.proofs.Adding.{state_turn}
use Rattle.ground_members.proofs.written.written_transitions.Goals as goal

pub loop-node-preserved : goal.loop-node-preserved
loop-node-preserved c =
    let l = c.loop-node-test.true in (
      state_turn c.args.tree.now c.loop-node.node c.loop-node.written.items c.add_state.new.written.items (let e = c.nodes-node-end.ensures in omega (arith, l, e)) c.in_ok-add_state.ensures.made c.loop-node.invariant.0,
      c.in_ok-add_state.ensures.placed c.loop-node.invariant.1,
    )
