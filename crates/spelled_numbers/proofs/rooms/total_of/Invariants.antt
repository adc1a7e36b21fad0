use Rattle.std.proofs.Common.{◌≡◌, ◌+◌, drop}
use Rattle.spelled_numbers.specs.Sums.{total_weight}
use Rattle.spelled_numbers.proofs.rooms.total_of.Given as goal

abbrev pub invariant-loop-term : goal.invariant-loop-term
invariant-loop-term l = l.total + total_weight (drop l.term-index l.terms) ≡ total_weight l.terms
