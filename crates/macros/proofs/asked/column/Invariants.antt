use Rattle.std.proofs.Common.{◌≡◌, take}
use Rattle.macros.specs.Asked.{column_of}
use Rattle.macros.proofs.asked.column.Given as goal

abbrev pub invariant-loop-row : goal.invariant-loop-row
invariant-loop-row l = l.literals.items ≡ column_of l.place (take l.row-index l.rows)
