use Rattle.std.proofs.Common.{◌≡◌, false}
use Rattle.std.specs.List.{list_any}
use Rattle.rsml_syntax.specs.rules.Tables.{below}
use Rattle.and_or_tables.specs.Cells.{holds}
use Rattle.and_or_tables.proofs.lanes.any_from.Given as goal

-- no column so far is true
abbrev pub invariant-loop-place : goal.invariant-loop-place
invariant-loop-place l = list_any (holds l.bits l.care l.want) (below l.place) ≡ false
