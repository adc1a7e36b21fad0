use Rattle.std.proofs.Common.{take}
use Rattle.elaborate.specs.Enabled.{is_sending}
use Rattle.micro_step.specs.Candidates.{AreFor}
use Rattle.micro_step.proofs.prepared.cases_on.Given as goal

abbrev pub invariant-loop-number : goal.invariant-loop-number
invariant-loop-number l = AreFor l.machine (is_sending l.machine) l.machine.send_cases (take l.number-index l.numbers) l.candidates.items
