use Rattle.std.proofs.Common.{◌≤◌, length, sym, ap, ◌∙◌, subst, arith}
use Rattle.rsml_ground.specs.declared.definitions.GroundGuard.{GroundGuard}
use Rattle.rsml_ground.specs.Rests.{GuardFits}
use Rattle.rsml_ground.specs.Truths.{truths_in}
use Rattle.micro_step.specs.Numbers.{ground_rows}
use Rattle.micro_step.specs.Rows.{bits_of}
use Rattle.micro_step.proofs.RowLemmas.{case_rows_are, case_fits_phrases, no_case}
use Rattle.micro_step.proofs.rows.send_case_rows.Goals as goal

pub returns-then-number-send_cases-clause-rows : goal.returns-then-number-send_cases-clause-rows
returns-then-number-send_cases-clause-rows c =
    let past : length c.args.machine.now.send_cases ≤ c.args.number = let over = c.if-number-send_cases.true in omega (arith, over, c.send_cases.ensures) in
    ap bits_of (no_case c.args.machine.now c.args.world.now c.law.ensures c.args.number past)

pub guard_rows-requires-clause-fits : goal.guard_rows-requires-clause-fits
guard_rows-requires-clause-fits c =
    subst (GuardFits (length c.args.machine.now.base.phrases)) (sym c.guard.ensures)
    (case_fits_phrases c.args.machine.now c.args.world.now c.law.ensures c.args.number c.send_case.result.now c.send_case.ensures)

pub returns-clause-rows : goal.returns-clause-rows
returns-clause-rows c =
    let m = c.args.machine.now in
    let w = c.args.world.now in
    c.guard_rows.ensures.rows ∙ ap (λ (g : GroundGuard). bits_of (ground_rows (truths_in m.base w) g)) c.guard.ensures
    ∙ ap bits_of (case_rows_are m w c.law.ensures c.args.number c.send_case.result.now c.send_case.ensures)
