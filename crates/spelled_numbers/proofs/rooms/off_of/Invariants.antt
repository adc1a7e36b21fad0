use Rattle.std.proofs.Common.{◌≡◌, ◌+◌, drop}
use Rattle.spelled_numbers.specs.Steps.{taken_off}
use Rattle.spelled_numbers.proofs.rooms.off_of.Given as goal

abbrev pub invariant-loop-term : goal.invariant-loop-term
invariant-loop-term l = l.off + taken_off (drop l.term-index l.terms) ≡ taken_off l.terms
