use Rattle.std.proofs.Common.{◌≡◌, ◌++◌, replicate}
use Rattle.event_lines.proofs.owners.add_number.Given as goal

abbrev pub invariant-loop-turn : goal.invariant-loop-turn
invariant-loop-turn l = l.numbers.items ≡ l.fn.numbers.items ++ replicate l._turn l.number
