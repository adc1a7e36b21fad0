use Rattle.std.proofs.Common.{sym, ◌∙◌}
use Rattle.micro_step.specs.Candidates.{is_met}
use Rattle.micro_step.specs.Rising.{among}
use Rattle.micro_step.proofs.PlaceLemmas.{put_enabled, skip_disabled}
use Rattle.micro_step.proofs.candidates.put_one.Goals as goal

pub returns-then-not-is_met-clause-among : goal.returns-then-not-is_met-clause-among
returns-then-not-is_met-clause-among c = λ q.
    let x = c.args.candidate.now in
    skip_disabled (λ k. is_met c.args.machine.now c.args.world.now x) (among c.args.found.now.items q) x.number q (sym c.is_met.ensures.met ∙ c.if-not-is_met.true)

pub returns-clause-among : goal.returns-clause-among
returns-clause-among c = λ q.
    let x = c.args.candidate.now in
    c.put.ensures.among q
    ∙ put_enabled (λ k. is_met c.args.machine.now c.args.world.now x) (among c.args.found.now.items q) x.number q (sym c.is_met.ensures.met ∙ c.if-not-is_met.false)
