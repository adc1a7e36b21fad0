use Rattle.std.proofs.Common.{◌-◌, length}
use Rattle.spelled_numbers.proofs.WaitingLemmas.{IsAsked}
use Rattle.spelled_numbers.proofs.sum_table.SumTable.descend.Given as goal

-- what waits asks this
abbrev pub invariant-down : goal.invariant-down
invariant-down l = IsAsked l.arena l.terms l.fn.waiting.items l.waiting.items l.room l.rest

-- one more waits
abbrev pub decreases-down : goal.decreases-down
decreases-down l = length l.terms - length l.waiting.items
