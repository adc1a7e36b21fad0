use Rattle.std.proofs.Common.{◌<◌, ◌≤◌, length, arith}
use Rattle.state_tree.proofs.Kin.{so_far_more, all_families}
use Rattle.state_tree.proofs.families.families.Goals as goal

pub loop-node-preserved : goal.loop-node-preserved
loop-node-preserved c =
    let l : c.loop-node.node < length c.args.nodes.now = let m = c.loop-node-test.true in omega (arith, m, c.len-node-end.ensures) in
    so_far_more c.args.spec.now c.args.nodes.now c.loop-node.node c.loop-node.families.items c.in_ok-families.families.items c.in_ok-family.field-0 l c.loop-node.invariant c.in_ok-family.ensures c.in_ok-families.ensures

pub returns : goal.returns
returns c =
    let l : length c.args.nodes.now ≤ c.loop-node.node = let m = c.loop-node-test.false in omega (arith, m, c.len-node-end.ensures) in
    all_families c.args.spec.now c.args.nodes.now c.loop-node.node c.loop-node.families.items c.requires.nodes l c.loop-node.invariant
