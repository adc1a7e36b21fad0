use Rattle.std.proofs.Common.{List, ap, ◌∙◌}
use Rattle.rsml_syntax.specs.declared.syntax.Guard.{Guard}
use Rattle.rsml_syntax.specs.declared.syntax.Row.{Row}
use Rattle.rsml_syntax.specs.limits.Comparisons.{rows_comparisons}
use Rattle.rsml_syntax.specs.grammar.Written.{rows_of}
use Rattle.rsml_limits.specs.comparisons.Searched.{searched}
use Rattle.rsml_limits.proofs.AskGathering.{rows_turn}
use Rattle.rsml_limits.proofs.comparisons.phrases.each_guard.Goals as goal

pub loop-each-preserved : goal.loop-each-preserved
loop-each-preserved g c =
    rows_turn (λ x. rows_of (g.G.Guarded.guard_of x)) c.args.this _ _ _ _ _ _ c.loop-each-test.true c.each-item.is
    (c.in_ok-rows.ensures
    ∙ ap (λ (rows : List Row). searched c.loop-each.search (λ h. rows_comparisons h rows c.args.this)) c.rows_of.ensures
    ∙ ap (λ (guard : Guard). searched c.loop-each.search (λ h. rows_comparisons h (rows_of guard) c.args.this)) c.guard.ensures)
    c.loop-each.invariant
