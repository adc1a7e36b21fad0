use Rattle.std.proofs.Common.{◌≡◌, ◌+◌, drop}
use Rattle.spelled_numbers.specs.Sums.{total_weight}
use Rattle.settled_worlds.proofs.ranges.weight.Given as goal

abbrev pub invariant-loop-bit : goal.invariant-loop-bit
invariant-loop-bit l = l.total + total_weight (drop l.bit-index l.bits) ≡ total_weight l.bits
