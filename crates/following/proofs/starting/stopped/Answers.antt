use Rattle.following.proofs.StartLemmas.{noted_stopped, starts_stopped}
use Rattle.following.proofs.starting.stopped.Goals as goal

pub returns-in-Simulate : goal.returns-in-Simulate
returns-in-Simulate c = starts_stopped c.args.action c.args.text.now c.args.refused c.judged.result c.requires.refused c.judged.ensures c.requires.is

pub returns-in-ExplainCover : goal.returns-in-ExplainCover
returns-in-ExplainCover c = rw c.in-ExplainCover.is (noted_stopped c.args.text.now c.args.refused c.explained.result c.requires.refused c.explained.ensures.output c.explained.ensures.status)
