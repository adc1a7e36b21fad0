use Rattle.std.proofs.Common.{arith}
use Rattle.state_tree.proofs.Walks.{step_up}
use Rattle.ground_groups.proofs.LineLemmas.{passed, found_outer, no_outer, parent_lower}
use Rattle.ground_groups.proofs.lines.around.Goals as goal

pub returns-in-Some-find : goal.returns-in-Some-find
returns-in-Some-find c =
    let i = c.loop-outer.invariant in
    found_outer c.args.tree.now c.args.heads.now.keys c.args.key c.loop-outer.inner c.in-Some.outer c.in-Some-find.group c.requires.checked i.there i.low i.same c.in-Some.ensures c.in-Some-find.ensures.some

pub loop-outer-smaller : goal.loop-outer-smaller
loop-outer-smaller c = parent_lower c.args.tree.now c.requires.checked c.loop-outer.inner c.in-Some.outer c.loop-outer.invariant.there c.in-Some.ensures

pub loop-outer-preserved : goal.loop-outer-preserved
loop-outer-preserved c =
    let i = c.loop-outer.invariant in
    let s = c.args.tree.now in
    let inner = c.loop-outer.inner in
    let outer = c.in-Some.outer in
    let lower = parent_lower s c.requires.checked inner outer i.there c.in-Some.ensures in
    let low = i.low in
    record {
      there = (step_up s inner outer i.there c.in-Some.ensures).2;
      low = omega (arith, lower, low);
      same = passed s c.args.heads.now.keys c.args.key inner outer c.requires.checked c.requires.reacts i.there c.requires.event i.same c.in-Some.ensures (c.find.ensures.none c.in_default-find.is);
    }

pub returns : goal.returns
returns c =
    let i = c.loop-outer.invariant in
    no_outer c.args.tree.now c.args.heads.now.keys c.args.key c.loop-outer.inner c.requires.checked i.there i.same c.in_default.ensures
