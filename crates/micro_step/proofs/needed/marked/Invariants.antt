use Rattle.std.proofs.Common.{◌≤◌, All, length}
use Rattle.macros.specs.StatePhrases.{IsStatePhrase}
use Rattle.micro_step.proofs.needed.marked.Given as goal

abbrev pub invariant-loop-number : goal.invariant-loop-number
invariant-loop-number l = record {
  below : l.number ≤ length l.machine.base.phrases;
  found : All (IsStatePhrase l.machine.base) l.found.items;
}

abbrev pub decreases-loop-number : goal.decreases-loop-number
decreases-loop-number l = l.number
