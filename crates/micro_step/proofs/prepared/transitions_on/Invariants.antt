use Rattle.std.proofs.Common.{take}
use Rattle.elaborate.specs.Enabled.{is_enabled}
use Rattle.micro_step.specs.Candidates.{AreFor}
use Rattle.micro_step.proofs.prepared.transitions_on.Given as goal

abbrev pub invariant-loop-number : goal.invariant-loop-number
invariant-loop-number l = AreFor l.machine (is_enabled l.machine) l.machine.transitions (take l.number-index l.numbers) l.candidates.items
