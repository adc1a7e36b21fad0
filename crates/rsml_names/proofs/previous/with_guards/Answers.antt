use Rattle.std.proofs.Common.{List, flat_map, ap, ◌∙◌}
use Rattle.rsml_syntax.specs.declared.syntax.Row.{Row}
use Rattle.rsml_syntax.specs.declared.syntax.Guard.{Guard}
use Rattle.rsml_syntax.specs.grammar.Written.{sums_of_row, sums_of_guard}
use Rattle.rsml_names.specs.PreviousNames.{gathered}
use Rattle.rsml_names.proofs.PreviousGathering.{gathered_turn}
use Rattle.rsml_names.proofs.previous.with_guards.Goals as goal

pub loop-each-preserved : goal.loop-each-preserved
loop-each-preserved g c =
    gathered_turn _ _ _ (λ x. sums_of_guard (g.G.Guarded.guard_of x)) _ _ _ c.loop-each-test.true c.each-item.is c.loop-each.invariant
    (c.in_ok-names.ensures
    ∙ ap (λ (rs : List Row). gathered c.loop-each.names (flat_map sums_of_row rs)) c.rows_of.ensures
    ∙ ap (λ (guard : Guard). gathered c.loop-each.names (sums_of_guard guard)) c.guard.ensures)
