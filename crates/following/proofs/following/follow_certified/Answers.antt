use Rattle.simulator.specs.Outputs.{traces}
use Rattle.following.specs.Steps as steps
use Rattle.following.proofs.StartLemmas.{with_limits}
use Rattle.following.proofs.following.follow_certified.Goals as goal

pub returns-in-Ok-new-clause-run : goal.returns-in-Ok-new-clause-run
returns-in-Ok-new-clause-run g c =
    rw c.in-Simulate.is
    (steps.HasRun.run _ c.status_of.ensures (with_limits traces _ _ _ _ _ c.in-Ok-new.ensures.spec c.in-Ok-new.ensures.limits c.run.ensures.simulates))

pub returns-in-Ok-cover-clause-run : goal.returns-in-Ok-cover-clause-run
returns-in-Ok-cover-clause-run g c = rw c.in-Cover.is (steps.HasRun.run _ c.status_of-in-Ok-cover.ensures c.in-Ok-cover.ensures.follows)

pub returns-clause-run : goal.returns-clause-run
returns-clause-run g c = rw c.in-ExplainCover.is c.explain_cover.ensures.run
