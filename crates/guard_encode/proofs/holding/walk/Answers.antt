use Rattle.std.proofs.Common.{sym, ap, ◌∙◌, arith}
use Rattle.std.specs.Option.{is_some}
use Rattle.guard_encode.specs.Holding.{values_in}
use Rattle.guard_encode.proofs.HoldingLemmas.{at_end, to_high, to_low}
use Rattle.guard_encode.proofs.holding.walk.Goals as goal

pub loop-node-preserved-then-value : goal.loop-node-preserved-then-value
loop-node-preserved-then-value c =
    let v = values_in c.args.levels.now c.args.world.now in
    let i = c.loop-node.invariant in
    let step = to_high c.args.arena.now v c.loop-node.at c.in_Some-node.node c.in_Some-node.ensures.node (sym c.value.ensures ∙ c.if-value.true) in
    let before = step.before in
    record { is_ref = omega (arith, before, i.is_ref); same = step.same ∙ i.same }

pub loop-node-preserved : goal.loop-node-preserved
loop-node-preserved c =
    let v = values_in c.args.levels.now c.args.world.now in
    let i = c.loop-node.invariant in
    let step = to_low c.args.arena.now v c.loop-node.at c.in_Some-node.node c.in_Some-node.ensures.node (sym c.value.ensures ∙ c.if-value.false) in
    let before = step.before in
    record { is_ref = omega (arith, before, i.is_ref); same = step.same ∙ i.same }

pub returns : goal.returns
returns c =
    let v = values_in c.args.levels.now c.args.world.now in
    at_end c.args.arena.now v c.loop-node.at c.is_true.result (c.branch-node.ensures.constant.0 (ap is_some c.in_default-node.is)) c.is_true.ensures
    ∙ c.loop-node.invariant.same
