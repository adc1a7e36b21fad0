use Rattle.std.proofs.Common.{sym, subst}
use Rattle.macros.specs.Guards.{HasShape}
use Rattle.rsml_ground.specs.declared.definitions.GroundGuard.{GroundGuard}
use Rattle.coverage.specs.Counters.{IsNew, ground_cells}
use Rattle.coverage.proofs.CounterLemmas.{one_counter_more, transition_shape}
use Rattle.coverage.proofs.counts.of_transitions.Goals as goal

pub new-requires : goal.new-requires
new-requires c = subst HasShape (sym c.guard.ensures) (transition_shape c.args.machine.now c.loop-number.number c.transition.result.now c.law.ensures c.transition.ensures)

pub loop-number-preserved : goal.loop-number-preserved
loop-number-preserved c =
    let x = c.transition.result.now in
    one_counter_more (λ x c. IsNew (ground_cells x.guard) c) c.args.machine.now.transitions c.loop-number.number x c.loop-number.counters.items _ c.in_ok-new.field-0 c.transition.ensures
    (subst (λ (g : GroundGuard). IsNew (ground_cells g) c.in_ok-new.field-0) c.guard.ensures c.in_ok-new.ensures) c.loop-number.invariant c.in_ok-push.ensures.items
