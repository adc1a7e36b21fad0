use Rattle.std.specs.Prelude.{flat_map}
use Rattle.rsml_syntax.specs.declared.syntax.Transition.{Transition}
use Rattle.rsml_syntax.specs.rules.Globals.{Globals}
use Rattle.rsml_syntax.specs.limits.Comparisons.{rows_comparisons}
use Rattle.rsml_syntax.specs.grammar.Written.{rows_of}
use Rattle.rsml_limits.proofs.AskGathering.{searched_next}
use Rattle.rsml_limits.proofs.comparisons.states.each_instance.Goals as goal

pub loop-below-preserved : goal.loop-below-preserved
loop-below-preserved c =
    searched_next (λ (g : Globals). rows_comparisons g (flat_map (λ (t : Transition). rows_of t.guard) c.args.transitions.now)) _ _ _ _
    c.loop-below.invariant c.in_ok-each_guard.ensures
