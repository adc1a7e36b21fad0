use Rattle.std.proofs.Common.{sym}
use Rattle.simulator.proofs.AnsweringLemmas.{final_without}
use Rattle.simulator.proofs.course.if_final.Goals as goal

pub returns-in_default : goal.returns-in_default
returns-in_default c = sym (final_without c.args.answer c.in_default.not-Event)
