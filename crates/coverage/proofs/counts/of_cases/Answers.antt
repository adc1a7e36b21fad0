use Rattle.std.proofs.Common.{sym, subst}
use Rattle.macros.specs.Guards.{HasShape}
use Rattle.rsml_ground.specs.declared.definitions.GroundGuard.{GroundGuard}
use Rattle.coverage.specs.Counters.{IsNew, ground_cells}
use Rattle.coverage.proofs.CounterLemmas.{one_counter_more, case_shape}
use Rattle.coverage.proofs.counts.of_cases.Goals as goal

pub new-requires : goal.new-requires
new-requires c = subst HasShape (sym c.guard.ensures) (case_shape c.args.machine.now c.loop-number.number c.send_case.result.now c.law.ensures c.send_case.ensures)

pub loop-number-preserved : goal.loop-number-preserved
loop-number-preserved c =
    let x = c.send_case.result.now in
    one_counter_more (λ x c. IsNew (ground_cells x.guard) c) c.args.machine.now.send_cases c.loop-number.number x c.loop-number.counters.items _ c.in_ok-new.field-0 c.send_case.ensures
    (subst (λ (g : GroundGuard). IsNew (ground_cells g) c.in_ok-new.field-0) c.guard.ensures c.in_ok-new.ensures) c.loop-number.invariant c.in_ok-push.ensures.items
