use Rattle.std.proofs.Common.{sym, ◌∙◌, arith}
use Rattle.group_verdicts.specs.Counts.{TellsUpTo}
use Rattle.group_verdicts.proofs.KeptLemmas.{known_is}
use Rattle.group_verdicts.proofs.MemberLemmas.{known_to, no_members}
use Rattle.group_verdicts.proofs.counted.known.Goals as goal

pub member_at-member-requires-clause-place : goal.member_at-member-requires-clause-place
member_at-member-requires-clause-place c = λ g at.
    let all = c.requires.count g at in
    let within = c.loop-members.invariant in
    let some = c.loop-members-test.true in
    omega (arith, all, within, some)

pub returns-in-Some-clause-told : goal.returns-in-Some-clause-told
returns-in-Some-clause-told c = λ k are.
    let x = c.member_at-member.result in
    let r = c.in-Some.told in
    known_to k c.args.encoder.now c.args.group c.loop-members.members x r c.loop-members-test.true c.member_at-member.ensures.next
    (known_is (TellsUpTo k) c.args.encoder.now c.args.kept.now x r are (sym c.in-Some.is ∙ c.get.ensures))

pub returns-clause-told : goal.returns-clause-told
returns-clause-told c = λ k are. no_members k c.args.encoder.now c.args.group c.constant-told.result c.constant-told.ensures
