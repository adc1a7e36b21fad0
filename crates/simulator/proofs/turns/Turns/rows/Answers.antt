use Rattle.std.proofs.Common.{◌≡◌, ap, ◌∙◌, subst}
use Rattle.micro_step.specs.Rows.{bits_of, member_rows}
use Rattle.elaborate.specs.Machine.{GroundMachine}
use Rattle.reactions.specs.Stepping.{InWorld}
use Rattle.simulator.specs.helpers.Turns.{Turning}
use Rattle.simulator.proofs.TurnLemmas.{turning}
use Rattle.simulator.proofs.turns.Turns.rows.Goals as goal

pub returns-clause-rows : goal.returns-clause-rows
returns-clause-rows c =
    let last = c.self.inside.running.last in
    subst (λ (t : Turning). c.rows.result ≡ bits_of (member_rows t.spec t.last.world c.args.member)) c.self.view_is
    (subst (λ (m : GroundMachine). c.rows.result ≡ bits_of (member_rows m.base.spec last.world c.args.member)) c.self.invariant.running_is c.rows.ensures.rows)

pub returns-clause-unchanged : goal.returns-clause-unchanged
returns-clause-unchanged c =
    let s = c.self.inside.machine.now.base.spec in
    ap (λ (v : InWorld). turning s v.world v.present c.self.inside.events v.last) c.rows.ensures.unchanged ∙ c.self.view_is
