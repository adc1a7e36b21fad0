use Rattle.std.proofs.Common.{◌≡◌, ◌++◌, take, flat_map}
use Rattle.rsml_names.specs.PreviousNames.{previous_name}
use Rattle.rsml_names.proofs.previous.with_sum.Given as goal

abbrev pub invariant-loop-term : goal.invariant-loop-term
invariant-loop-term l = l.names ≡ l.fn.names ++ flat_map (λ t. previous_name t.operand) (take l.term-index l.sum.terms)
