use Rattle.std.proofs.Common.{take}
use Rattle.std.specs.List.{AllZip}
use Rattle.ground_claims.specs.StandsFor.{RowIs}
use Rattle.ground_claims.proofs.tables.ground_rows.Given as goal

abbrev pub invariant-loop-row : goal.invariant-loop-row
invariant-loop-row l = AllZip (RowIs l.lookup) (take l.row-index l.rows) l.found
