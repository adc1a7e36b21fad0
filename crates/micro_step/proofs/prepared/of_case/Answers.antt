use Rattle.std.proofs.Common.{length, None, sym, subst}
use Rattle.rsml_ground.specs.declared.definitions.GroundGuard.{GroundGuard}
use Rattle.macros.specs.Guards.{GuardBelow, HasShape}
use Rattle.macros.specs.Asked.{AsksFor}
use Rattle.micro_step.proofs.CandidateLemmas.{case_shape, tells_of_case}
use Rattle.micro_step.proofs.prepared.of_case.Goals as goal

pub new-requires : goal.new-requires
new-requires c = subst HasShape (sym c.guard.ensures) (case_shape c.args.machine.now c.args.number c.send_case.result.now c.law.ensures c.send_case.ensures).0

pub returns-clause-tells : goal.returns-clause-tells
returns-clause-tells c =
    let m = c.args.machine.now in
    let x = c.send_case.result.now in
    let asked = c.in_ok-asked.asked in
    let count = length m.base.phrases in
    let below = (case_shape m c.args.number x c.law.ensures c.send_case.ensures).1 in
    tells_of_case m (record { number = c.args.number; choices = c.new-choices.result; asked = asked; kept_at = None }) x c.send_case.ensures c.new-choices.ensures.items
    (subst (λ (g : GroundGuard). AsksFor count g asked) c.guard.ensures (c.in_ok-asked.ensures count (subst (GuardBelow count) (sym c.guard.ensures) below))) tt
