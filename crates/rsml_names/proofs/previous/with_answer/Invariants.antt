use Rattle.std.proofs.Common.{◌≡◌, take, flat_map}
use Rattle.rsml_names.specs.PreviousNames.{gathered}
use Rattle.rsml_syntax.specs.grammar.Written.{sum_of_value}
use Rattle.rsml_names.proofs.previous.with_answer.Given as goal

abbrev pub invariant-loop-value : goal.invariant-loop-value
invariant-loop-value l = l.names ≡ gathered l.fn.names (flat_map (sum_of_value) (take l.value-index l.value-items))
