use Rattle.std.proofs.Common.{◌≡◌, true, map, take}
use Rattle.rsml_syntax.specs.rules.Tables.{column}
use Rattle.rsml_ground.specs.Truths.{is_active}
use Rattle.ground_claims.specs.Truths.{row_truth}
use Rattle.ground_claims.proofs.claim.column_is_true.Given as goal

-- the column is true of the rows so far
abbrev pub invariant-loop-row : goal.invariant-loop-row
invariant-loop-row l = column (map (row_truth (is_active l.tree l.world)) (take l.row-index l.rows)) l.column ≡ true
