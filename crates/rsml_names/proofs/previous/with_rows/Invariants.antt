use Rattle.std.proofs.Common.{◌≡◌, take, flat_map}
use Rattle.rsml_names.specs.PreviousNames.{gathered}
use Rattle.rsml_syntax.specs.grammar.Written.{sums_of_row}
use Rattle.rsml_names.proofs.previous.with_rows.Given as goal

abbrev pub invariant-loop-row : goal.invariant-loop-row
invariant-loop-row l = l.names ≡ gathered l.fn.names (flat_map (sums_of_row) (take l.row-index l.rows))
