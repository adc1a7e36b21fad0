use Rattle.std.proofs.Common.{◌≡◌, ◌++◌, take}
use Rattle.same_spec.specs.Members.{all_cases}
use Rattle.same_spec.proofs.members.push_functions.Given as goal

-- those so far
abbrev pub invariant-loop-number : goal.invariant-loop-number
invariant-loop-number l = l.list.items ≡ l.fn.list.items ++ all_cases (λ k. k) (take l.number l.macros.definitions)
