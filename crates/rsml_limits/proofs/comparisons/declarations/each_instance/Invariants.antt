use Rattle.std.proofs.Common.{◌≡◌}
use Rattle.std.specs.Prelude.{flat_map}
use Rattle.rsml_syntax.specs.limits.Comparisons.{rows_comparisons}
use Rattle.rsml_syntax.specs.rules.Globals.{up_to}
use Rattle.rsml_syntax.specs.grammar.Written.{rows_in}
use Rattle.rsml_limits.specs.comparisons.Searched.{searched}
use Rattle.rsml_limits.proofs.comparisons.declarations.each_instance.Given as goal

abbrev pub invariant-loop-below : goal.invariant-loop-below
invariant-loop-below l = l.search ≡ searched l.fn.search (λ g. flat_map (rows_comparisons g (rows_in l.decl)) (up_to l.below))
