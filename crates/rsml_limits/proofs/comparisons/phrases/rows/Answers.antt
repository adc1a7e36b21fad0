use Rattle.rsml_syntax.specs.declared.syntax.Row.{Row}
use Rattle.rsml_syntax.specs.rules.Globals.{Globals}
use Rattle.rsml_syntax.specs.limits.Comparisons.{phrase_comparisons}
use Rattle.rsml_limits.proofs.AskGathering.{searched_turn}
use Rattle.rsml_limits.proofs.comparisons.phrases.rows.Goals as goal

pub loop-row-preserved : goal.loop-row-preserved
loop-row-preserved c =
    searched_turn (λ (g : Globals) (row : Row). phrase_comparisons g c.args.this row.phrase) _ _ _ _ _ _ c.loop-row-test.true c.row-item.is c.in_ok-phrase.ensures c.loop-row.invariant
