use Rattle.ground_members.proofs.Numbers.{first_state, next_child, next_state, last_state}
use Rattle.ground_members.proofs.targets.walked.Goals as goal

pub loop-name-init : goal.loop-name-init
loop-name-init c = first_state c.args.lookup.now c.args.from c.args.names.now

pub child-node-requires : goal.child-node-requires
child-node-requires c = next_child c.args.lookup.now c.args.from c.loop-name.node c.loop-name.name-index c.args.names.now c.name-item.result c.requires c.loop-name.invariant c.loop-name-test.true c.name-item.is

pub loop-name-preserved : goal.loop-name-preserved
loop-name-preserved c =
    next_state c.args.lookup.now c.args.from c.loop-name.node c.child-node.result c.loop-name.name-index c.args.names.now c.name-item.result c.loop-name.invariant c.loop-name-test.true c.name-item.is c.child-node.ensures

pub returns : goal.returns
returns c = last_state c.args.lookup.now c.args.from c.loop-name.node c.loop-name.name-index c.args.names.now c.loop-name.invariant c.loop-name-test.false
