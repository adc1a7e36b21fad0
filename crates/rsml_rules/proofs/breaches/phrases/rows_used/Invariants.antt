use Rattle.std.proofs.Common.{◌≡◌, drop}
use Rattle.std.specs.Prelude.{flat_map}
use Rattle.rsml_rules.specs.breaches.Noting.{noted}
use Rattle.rsml_syntax.specs.rules.Uses as uses
use Rattle.rsml_rules.proofs.breaches.phrases.rows_used.Given as goal

abbrev pub invariant-loop-row : goal.invariant-loop-row
invariant-loop-row l =
    noted l.worst (flat_map (λ row. uses.phrase_used l.setting.tables l.scope row.phrase) (drop l.row-index l.rows))
    ≡ noted l.fn.worst (flat_map (λ row. uses.phrase_used l.setting.tables l.scope row.phrase) l.rows)
