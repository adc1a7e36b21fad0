use Rattle.rsml_syntax.specs.rules.Globals.{Globals}
use Rattle.rsml_syntax.specs.limits.Comparisons.{rows_comparisons}
use Rattle.rsml_syntax.specs.grammar.Written.{rows_in}
use Rattle.rsml_limits.proofs.AskGathering.{searched_next}
use Rattle.rsml_limits.proofs.comparisons.declarations.each_instance.Goals as goal

pub loop-below-preserved : goal.loop-below-preserved
loop-below-preserved c = searched_next (λ (g : Globals). rows_comparisons g (rows_in c.args.decl.now)) _ _ _ _ c.loop-below.invariant c.in_ok-rows_in.ensures
