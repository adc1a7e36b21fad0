use Rattle.std.proofs.Common.{◌≡◌, drop}
use Rattle.rsml_syntax.specs.limits.Comparisons.{rows_comparisons}
use Rattle.rsml_limits.specs.comparisons.Searched.{searched}
use Rattle.rsml_limits.proofs.comparisons.phrases.rows.Given as goal

abbrev pub invariant-loop-row : goal.invariant-loop-row
invariant-loop-row l = searched l.search (λ g. rows_comparisons g (drop l.row-index l.rows) l.this) ≡ searched l.fn.search (λ g. rows_comparisons g l.rows l.this)
