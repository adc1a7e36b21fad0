use Rattle.std.proofs.Common.{◌≡◌, ◌++◌, take}
use Rattle.rsml_names.specs.Bound as names
use Rattle.rsml_names.proofs.variables.Variables.with_rows.Given as goal

abbrev pub invariant-loop-row : goal.invariant-loop-row
invariant-loop-row l = l.variables ≡ l.fn.self ++ names.of_rows l.place (take l.row-index l.rows)
