use Rattle.std.proofs.Common.{◌≡◌}
use Rattle.std.specs.Prelude.{flat_map}
use Rattle.rsml_syntax.specs.declared.syntax.Transition.{Transition}
use Rattle.rsml_syntax.specs.limits.Comparisons.{rows_comparisons}
use Rattle.rsml_syntax.specs.rules.Globals.{up_to}
use Rattle.rsml_syntax.specs.grammar.Written.{rows_of}
use Rattle.rsml_limits.specs.comparisons.Searched.{searched}
use Rattle.rsml_limits.proofs.comparisons.states.each_instance.Given as goal

abbrev pub invariant-loop-below : goal.invariant-loop-below
invariant-loop-below l =
    l.search ≡ searched l.fn.search (λ g. flat_map (rows_comparisons g (flat_map (λ (t : Transition). rows_of t.guard) l.transitions)) (up_to l.below))
