use Rattle.std.proofs.Common.{◌≡◌, take}
use Rattle.rsml_syntax.specs.limits.Limits.{adds, shown}
use Rattle.rsml_syntax.specs.limits.Limits.{ground_rows}
use Rattle.rsml_limits.proofs.counts.rows.table_rows.Given as goal

abbrev pub invariant-loop-row : goal.invariant-loop-row
invariant-loop-row l = l.count ≡ shown (adds (ground_rows l.globals) (take l.row-index l.rows))
