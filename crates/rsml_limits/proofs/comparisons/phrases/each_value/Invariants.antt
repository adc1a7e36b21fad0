use Rattle.std.proofs.Common.{◌≡◌, Some}
use Rattle.std.specs.Prelude.{flat_map}
use Rattle.rsml_syntax.specs.limits.Comparisons.{comparisons_in}
use Rattle.rsml_syntax.specs.rules.Globals.{up_to}
use Rattle.rsml_limits.specs.comparisons.Searched.{searched}
use Rattle.rsml_limits.proofs.comparisons.phrases.each_value.Given as goal

abbrev pub invariant-loop-below : goal.invariant-loop-below
invariant-loop-below l = l.search ≡ searched l.fn.search (λ g. flat_map (λ n. comparisons_in g (record { this = l.this; variable = Some (l.variable, n) }) l.body) (up_to l.below))
