use Rattle.std.proofs.Common.{◌≤◌, length, List, sym, subst, arith}
use Rattle.rsml_meaning.specs.Instances.{State}
use Rattle.state_tree.specs.nodes.Numbers.{paths}
use Rattle.state_tree.specs.Tables.{IsEnd}
use Rattle.state_tree.proofs.Walks.{few_states}
use Rattle.state_tree.proofs.Spans.{stays_in, ends_here, ends_at_top, ends_last}
use Rattle.state_tree.proofs.ends.end_of.Goals as goal

pub overflow_step-end : goal.overflow_step-end
overflow_step-end c = let l : length c.args.nodes.now ≤ 4096 = subst (λ (xs : List State). length xs ≤ 4096) (sym c.requires.nodes) (few_states c.args.spec.now c.requires.checked) in omega (arith, l, c.requires.node)

pub returns-in_default : goal.returns-in_default
returns-in_default c =
    let l = c.loop-end-test.true in
    let m = c.loop-end.auto.end in
    ends_at_top c.args.spec.now c.args.nodes.now c.requires.checked c.requires.nodes c.args.node c.loop-end.end (omega (arith, l, c.len-end-end.ensures)) (omega (arith, m)) c.in_default.ensures c.loop-end.invariant

pub returns-then-parent-node : goal.returns-then-parent-node
returns-then-parent-node c =
    let l = c.loop-end-test.true in
    let m = c.loop-end.auto.end in
    ends_here c.args.spec.now c.args.nodes.now c.requires.checked c.requires.nodes c.args.node c.loop-end.end c.in-Some.parent (omega (arith, l, c.len-end-end.ensures)) (omega (arith, m)) c.in-Some.ensures c.if-parent-node.true c.loop-end.invariant

pub loop-end-preserved : goal.loop-end-preserved
loop-end-preserved c =
    let l = c.loop-end-test.true in
    stays_in c.args.spec.now c.args.nodes.now c.requires.checked c.requires.nodes c.args.node c.loop-end.end c.in-Some.parent (omega (arith, l, c.len-end-end.ensures)) c.in-Some.ensures c.if-parent-node.false c.loop-end.invariant

pub returns : goal.returns
returns c =
    let l = c.loop-end-test.false in
    subst (λ k. IsEnd (paths c.args.nodes.now) c.args.node k) (sym c.len.ensures)
    (ends_last c.args.spec.now c.args.nodes.now c.requires.checked c.requires.nodes c.args.node c.requires.node (λ p here j q a b g. c.loop-end.invariant p here j q a (omega (arith, b, l, c.len-end-end.ensures)) g))
