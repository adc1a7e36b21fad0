use Rattle.std.proofs.Common.{◌≡◌, false, map}
use Rattle.std.specs.List.{list_any}
use Rattle.rsml_syntax.specs.rules.Tables.{below, column}
use Rattle.rsml_ground.specs.Truths.{is_active}
use Rattle.ground_claims.specs.Truths.{row_truth}
use Rattle.ground_claims.proofs.claim.GroundClaim.is_true.Given as goal

-- no column so far is true
abbrev pub invariant-loop-column : goal.invariant-loop-column
invariant-loop-column l = list_any (column (map (row_truth (is_active l.tree l.world)) l.rows)) (below l.column) ≡ false
