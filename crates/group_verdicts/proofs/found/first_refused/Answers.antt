use Rattle.std.proofs.Common.{◌≡◌, ◌<◌, length, sym, ap, subst, arith}
use Rattle.rsml_syntax.specs.declared.syntax.Spec.{Spec}
use Rattle.rsml_meaning.specs.Groups.{groups}
use Rattle.elaborate.specs.Machine.{GroundMachine}
use Rattle.group_verdicts.proofs.found.first_refused.Goals as goal

pub verdict-requires-clause-group : goal.verdict-requires-clause-group
verdict-requires-clause-group c =
    let m = c.args.encoder.now.machine in
    let many = ap (λ (t : Spec). length (groups t)) c.groups.ensures in
    let same = ap (λ (n : GroundMachine). length (groups n.base.spec)) c.machine-machine.ensures in
    let less : c.loop-group.group < length (groups m.base.spec) = omega (arith, c.loop-group-test.true, c.count-groups.ensures, many, same) in
    subst (λ (n : GroundMachine). c.loop-group.group < length (groups n.base.spec)) (sym c.loop-group.invariant.keeps.machine) less
