use Rattle.std.proofs.Common.{◌≡◌, true, map, take}
use Rattle.rsml_syntax.specs.rules.Tables.{column}
use Rattle.and_or_tables.specs.Ground.{ground_row}
use Rattle.and_or_tables.proofs.ground.column_is_true.Given as goal

-- the column is true of the rows so far
abbrev pub invariant-loop-row : goal.invariant-loop-row
invariant-loop-row l = column (map (ground_row l.truths) (take l.row-index l.rows)) l.place ≡ true
