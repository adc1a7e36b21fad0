use Rattle.std.proofs.Common.{◌≤◌, length, sym, ap, ◌∙◌, subst, arith}
use Rattle.rsml_ground.specs.declared.definitions.GroundGuard.{GroundGuard}
use Rattle.rsml_ground.specs.Rests.{GuardFits}
use Rattle.rsml_ground.specs.Truths.{truths_in}
use Rattle.micro_step.specs.Numbers.{ground_rows}
use Rattle.micro_step.specs.Rows.{bits_of}
use Rattle.micro_step.proofs.RowLemmas.{transition_rows_are, transition_fits, no_transition}
use Rattle.micro_step.proofs.rows.transition_rows.Goals as goal

pub returns-then-number-transitions-clause-rows : goal.returns-then-number-transitions-clause-rows
returns-then-number-transitions-clause-rows c =
    let past : length c.args.machine.now.transitions ≤ c.args.number = let over = c.if-number-transitions.true in omega (arith, over, c.transitions.ensures) in
    ap bits_of (no_transition c.args.machine.now c.args.world.now c.law.ensures c.args.number past)

pub guard_rows-requires-clause-fits : goal.guard_rows-requires-clause-fits
guard_rows-requires-clause-fits c =
    subst (GuardFits (length c.args.machine.now.base.phrases)) (sym c.guard.ensures)
    (transition_fits c.args.machine.now c.args.world.now c.law.ensures c.args.number c.transition.result.now c.transition.ensures)

pub returns-clause-rows : goal.returns-clause-rows
returns-clause-rows c =
    let m = c.args.machine.now in
    let w = c.args.world.now in
    c.guard_rows.ensures.rows ∙ ap (λ (g : GroundGuard). bits_of (ground_rows (truths_in m.base w) g)) c.guard.ensures
    ∙ ap bits_of (transition_rows_are m w c.law.ensures c.args.number c.transition.result.now c.transition.ensures)
