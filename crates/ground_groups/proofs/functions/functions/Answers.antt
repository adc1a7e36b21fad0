use Rattle.std.proofs.Common.{arith}
use Rattle.ground_groups.proofs.FunctionGroups.{function_groups_are, groups_turn}
use Rattle.ground_groups.proofs.functions.functions.Goals as goal

pub loop-place-preserved : goal.loop-place-preserved
loop-place-preserved c =
    let t = c.loop-place-test.true in
    let a = c.loop-place.auto.place-end in
    groups_turn c.args.definitions.now c.loop-place.place c.in_ok-number_of.field-0 c.index-definitions-place.result c.index-definitions-place.result c.loop-place.groups.items c.put.new.groups.items (omega (arith, t, a)) c.index-definitions-place.is c.loop-place.invariant c.in_ok-number_of.ensures c.in_ok-put.ensures

pub returns : goal.returns
returns c = λ ps s h. let t = c.loop-place-test.false in function_groups_are ps s c.args.definitions.now c.loop-place.groups.items c.loop-place.place c.loop-place.invariant (omega (arith, t)) h
