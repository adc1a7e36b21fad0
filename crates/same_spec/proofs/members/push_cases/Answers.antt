use Rattle.std.proofs.Common.{◌+◌}
use Rattle.ground_groups.specs.declared.group.Member.TheVariants as variants
use Rattle.same_spec.specs.Members.{numbered}
use Rattle.same_spec.proofs.MemberLemmas.{numbered_more, pushed}
use Rattle.same_spec.proofs.members.push_cases.Goals as goal

pub loop-place-preserved : goal.loop-place-preserved
loop-place-preserved c =
    let n = c.loop-place.place in
    let make = variants.FunctionCase c.args.function in
    pushed c.args.list.now.items c.loop-place.list.items c.push.new.self.items (numbered make n) (numbered make (n + 1)) (make n) c.loop-place.invariant c.in_ok-push.ensures.items (numbered_more make n)
