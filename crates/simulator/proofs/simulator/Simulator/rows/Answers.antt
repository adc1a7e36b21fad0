use Rattle.std.proofs.Common.{◌≡◌, ◌∙◌, subst}
use Rattle.micro_step.specs.Rows.{bits_of, member_rows}
use Rattle.simulator.specs.Simulation.{Simulation}
use Rattle.simulator.proofs.simulator.Simulator.rows.Goals as goal

pub returns-clause-rows : goal.returns-clause-rows
returns-clause-rows c = subst (λ (m : Simulation). c.rows.result ≡ bits_of (member_rows m.spec m.last.world c.args.member)) c.self.view_is c.rows.ensures.rows

pub returns-clause-unchanged : goal.returns-clause-unchanged
returns-clause-unchanged c = c.rows.ensures.unchanged ∙ c.self.view_is
