use Rattle.std.proofs.Common.{◌≡◌, ◌+◌, suc, subst, arith}
use Rattle.event_graph.specs.Reached.{AreReachedThrough}
use Rattle.event_graph.proofs.ReachLemmas.{no_middle, one_middle, all_middles}
use Rattle.event_graph.proofs.loops.reached.Goals as goal

pub loop-middle-init : goal.loop-middle-init
loop-middle-init c = no_middle c.args.graph.now c.count-middle-end.ensures.graph c.in_ok-sets.sets.items c.in_ok-sets.ensures

pub loop-middle-preserved : goal.loop-middle-preserved
loop-middle-preserved c =
    let next : suc c.loop-middle.middle ≡ c.loop-middle.middle + 1 = omega arith in
    subst (λ k. AreReachedThrough c.args.graph.now k c.go_through.new.sets.items) next
    (one_middle c.args.graph.now c.loop-middle.middle c.loop-middle.sets.items c.go_through.new.sets.items c.loop-middle.invariant c.go_through.ensures.long c.go_through.ensures.more)

pub returns : goal.returns
returns c =
    let all : c.loop-middle.middle ≡ c.args.graph.now.count = omega (arith, c.loop-middle-test.false, c.loop-middle.auto.middle-end, c.count-middle-end.ensures.count) in
    all_middles c.args.graph.now c.count-middle-end.ensures.graph c.loop-middle.sets.items
    (subst (λ k. AreReachedThrough c.args.graph.now k c.loop-middle.sets.items) all c.loop-middle.invariant)
