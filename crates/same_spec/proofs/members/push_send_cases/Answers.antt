use Rattle.std.proofs.Common.{◌+◌}
use Rattle.ground_groups.specs.declared.group.Member.TheVariants as variants
use Rattle.same_spec.specs.Members.{numbered}
use Rattle.same_spec.proofs.MemberLemmas.{numbered_more, pushed}
use Rattle.same_spec.proofs.members.push_send_cases.Goals as goal

pub loop-number-preserved : goal.loop-number-preserved
loop-number-preserved c =
    let n = c.loop-number.number in
    pushed c.args.list.now.items c.loop-number.list.items c.push.new.self.items (numbered variants.SendCase n) (numbered variants.SendCase (n + 1)) (variants.SendCase n) c.loop-number.invariant c.in_ok-push.ensures.items
    (numbered_more variants.SendCase n)
