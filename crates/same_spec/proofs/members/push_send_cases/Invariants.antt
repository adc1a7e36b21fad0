use Rattle.std.proofs.Common.{◌≡◌, ◌++◌}
use Rattle.ground_groups.specs.declared.group.Member.TheVariants as variants
use Rattle.same_spec.specs.Members.{numbered}
use Rattle.same_spec.proofs.members.push_send_cases.Given as goal

-- those so far
abbrev pub invariant-loop-number : goal.invariant-loop-number
invariant-loop-number l = l.list.items ≡ l.fn.list.items ++ numbered variants.SendCase l.number
