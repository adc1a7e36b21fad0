use Rattle.std.proofs.Common.{◌≡◌, false, map}
use Rattle.std.specs.List.{list_any}
use Rattle.rsml_syntax.specs.rules.Tables.{below, column}
use Rattle.and_or_tables.specs.Ground.{ground_row}
use Rattle.and_or_tables.proofs.ground.GroundTable.truth.Given as goal

-- no column so far is true
abbrev pub invariant-loop-place : goal.invariant-loop-place
invariant-loop-place l = list_any (column (map (ground_row l.truths) l.rows)) (below l.place) ≡ false
