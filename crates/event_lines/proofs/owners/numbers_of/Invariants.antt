use Rattle.std.proofs.Common.{◌≡◌, ◌++◌, drop}
use Rattle.event_lines.specs.helpers.Declared.{owners_from}
use Rattle.event_lines.proofs.owners.numbers_of.Given as goal

abbrev pub invariant-loop-number : goal.invariant-loop-number
invariant-loop-number l = l.numbers.items ++ owners_from l.number (drop l.number l.decls) ≡ owners_from 0 l.decls
