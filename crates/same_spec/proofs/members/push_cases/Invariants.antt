use Rattle.std.proofs.Common.{◌≡◌, ◌++◌}
use Rattle.ground_groups.specs.declared.group.Member.TheVariants as variants
use Rattle.same_spec.specs.Members.{numbered}
use Rattle.same_spec.proofs.members.push_cases.Given as goal

-- those so far
abbrev pub invariant-loop-place : goal.invariant-loop-place
invariant-loop-place l = l.list.items ≡ l.fn.list.items ++ numbered (variants.FunctionCase l.function) l.place
