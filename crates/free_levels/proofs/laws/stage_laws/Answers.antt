use Rattle.free_levels.proofs.StageLemmas.{stage-exact, stage-skip, stage-forget, stage-trans, stage-widen, stage-settles, stage-stops}
use Rattle.free_levels.proofs.laws.stage_laws.Goals as goal

pub returns-clause-exact : goal.returns-clause-exact
returns-clause-exact c = stage-exact

pub returns-clause-skip : goal.returns-clause-skip
returns-clause-skip c = stage-skip

pub returns-clause-forget : goal.returns-clause-forget
returns-clause-forget c = stage-forget

pub returns-clause-turn : goal.returns-clause-turn
returns-clause-turn c = stage-trans

pub returns-clause-widen : goal.returns-clause-widen
returns-clause-widen c = stage-widen

pub returns-clause-settle : goal.returns-clause-settle
returns-clause-settle c = stage-settles

pub returns-clause-stop : goal.returns-clause-stop
returns-clause-stop c = stage-stops
