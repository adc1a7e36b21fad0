use Rattle.std.proofs.Common.{◌<◌, length}
use Rattle.state_tree.proofs.Rows.{row_more, row_within}
use Rattle.state_tree.proofs.family.in_row.Goals as goal

pub bounds-ends-place : goal.bounds-ends-place
bounds-ends-place c =
    (row_within (λ k. k < length c.args.ends.now) c.args.ends.now c.loop-child.place c.loop-child._child c.args.count c.loop-child-test.true c.loop-child.invariant.within).0

pub loop-child-preserved : goal.loop-child-preserved
loop-child-preserved c = record {
  whole = row_more c.args.ends.now c.args.first c.loop-child.place c.loop-child._child c.args.count c.loop-child.numbers.items c.push.new.self.items c.loop-child-test.true c.in_ok-push.ensures.items c.loop-child.invariant.whole;
  within = (row_within (λ k. k < length c.args.ends.now) c.args.ends.now c.loop-child.place c.loop-child._child c.args.count c.loop-child-test.true c.loop-child.invariant.within).1;
}
