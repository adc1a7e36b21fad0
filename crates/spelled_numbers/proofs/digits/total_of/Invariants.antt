use Rattle.std.proofs.Common.{◌≡◌, ◌+◌, drop}
use Rattle.spelled_numbers.specs.Spelling.{total}
use Rattle.spelled_numbers.proofs.digits.total_of.Given as goal

abbrev pub invariant-loop-slot : goal.invariant-loop-slot
invariant-loop-slot l = l.total + total l.part (drop l.slot-index l.slots) ≡ total l.part l.slots
