use Rattle.std.proofs.Common.{◌∙◌, ap}
use Rattle.rsml_syntax.specs.declared.syntax.Simple.{Simple}
use Rattle.rsml_syntax.specs.grammar.Written.{sums_in}
use Rattle.rsml_names.specs.PreviousNames.{gathered}
use Rattle.rsml_names.proofs.PreviousGathering.{gathered_turn}
use Rattle.rsml_names.proofs.previous.with_rows.Goals as goal

pub loop-row-preserved : goal.loop-row-preserved
loop-row-preserved c =
    gathered_turn _ _ _ _ _ _ _ c.loop-row-test.true c.row-item.is c.loop-row.invariant
    (c.in_ok-names.ensures ∙ ap (λ (s : Simple). gathered c.loop-row.names (sums_in s)) c.simple_of.ensures)
