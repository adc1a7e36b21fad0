use Rattle.std.proofs.Common.{◌≡◌, take, flat_map}
use Rattle.rsml_names.specs.PreviousNames.{gathered}
use Rattle.rsml_syntax.specs.grammar.Written.{sum_of_value, values_in}
use Rattle.rsml_names.proofs.previous.with_send_answers.Given as goal

abbrev pub invariant-loop-case : goal.invariant-loop-case
invariant-loop-case l = l.names ≡ gathered l.fn.names (flat_map (λ c. flat_map sum_of_value (values_in c.answer)) (take l.case-index l.cases))
