use Rattle.std.proofs.Common.{◌+◌, arith}
use Rattle.guard_encode.proofs.StepLemmas.{keeps_on}
use Rattle.group_verdicts.specs.Counts.{TellsUpTo, more_than}
use Rattle.group_verdicts.proofs.AtLemmas.{ref_at, ref_on, tells_on, there_on}
use Rattle.group_verdicts.proofs.KeptLemmas.{is_there}
use Rattle.group_verdicts.proofs.CountsLemmas.{checked_on, counts_on, has_on, is_on, member_on, members_on, next_on, up_to_kept}
use Rattle.group_verdicts.proofs.MemberLemmas.{all_told, has_all, some_next, two_next}
use Rattle.group_verdicts.proofs.counted.two_of.Goals as goal

pub known-members-requires-clause-count : goal.known-members-requires-clause-count
known-members-requires-clause-count c = has_all c.args.encoder.now c.args.group c.members_of-count.result c.members_of-count.ensures

pub some_of_first-requires-clause-count : goal.some_of_first-requires-clause-count
some_of_first-requires-clause-count c = λ g at. let all = c.members_of-count.ensures g at in let within = c.known-members.ensures.within in omega (arith, all, within)

pub loop-place-init : goal.loop-place-init
loop-place-init c = record {
  keeps = c.in_ok-one.ensures.keeps;
  counts = c.in_ok-one.ensures.counts;
  one = c.in_ok-one.ensures.some;
  two = tells_on c.args.encoder.now c.some_of_first.new.encoder c.args.group c.known-members.result.told (more_than 1 c.known-members.result.members) c.in_ok-one.ensures.keeps
      (c.known-members.ensures.told 1 c.requires.counts.two_is);
}

pub member_at-member-requires-clause-group : goal.member_at-member-requires-clause-group
member_at-member-requires-clause-group c = there_on c.args.encoder.now c.loop-place.encoder c.args.group c.loop-place.invariant.keeps c.requires.group

pub member_at-member-requires-clause-place : goal.member_at-member-requires-clause-place
member_at-member-requires-clause-place c =
    has_on c.args.encoder.now c.loop-place.encoder c.args.group c.members_of-count.result (c.loop-place.place + 1) c.loop-place.invariant.keeps (let less = c.loop-place-test.true in omega (arith, less))
    (has_all c.args.encoder.now c.args.group c.members_of-count.result c.members_of-count.ensures)

pub ite-requires-clause-f_ref : goal.ite-requires-clause-f_ref
ite-requires-clause-f_ref c = c.in_ok-enabled.ensures.is_ref

pub ite-requires-clause-g_ref : goal.ite-requires-clause-g_ref
ite-requires-clause-g_ref c =
    let old = c.loop-place.encoder in
    ref_on old c.enabled.new.encoder c.loop-place.one c.in_ok-enabled.ensures.keeps
    (ref_at old c.args.group c.loop-place.one (more_than 0 c.loop-place.place) (there_on c.args.encoder.now old c.args.group c.loop-place.invariant.keeps c.requires.group) c.loop-place.invariant.one)

pub ite-requires-clause-h_ref : goal.ite-requires-clause-h_ref
ite-requires-clause-h_ref c =
    let old = c.loop-place.encoder in
    ref_on old c.enabled.new.encoder c.loop-place.two c.in_ok-enabled.ensures.keeps
    (ref_at old c.args.group c.loop-place.two (more_than 1 c.loop-place.place) (there_on c.args.encoder.now old c.args.group c.loop-place.invariant.keeps c.requires.group) c.loop-place.invariant.two)

pub returns-in_err-two-clause-counts : goal.returns-in_err-two-clause-counts
returns-in_err-two-clause-counts c = counts_on c.enabled.new.encoder c.ite.new.self c.enabled.new.counts c.ite.ensures.keeps c.in_ok-enabled.ensures.counts

pub or-requires-clause-f_ref : goal.or-requires-clause-f_ref
or-requires-clause-f_ref c =
    let old = c.loop-place.encoder in
    let wide = c.ite.new.self in
    ref_on old wide c.loop-place.one (keeps_on old c.enabled.new.encoder wide c.in_ok-enabled.ensures.keeps c.in_ok-two.ensures.keeps)
    (ref_at old c.args.group c.loop-place.one (more_than 0 c.loop-place.place) (there_on c.args.encoder.now old c.args.group c.loop-place.invariant.keeps c.requires.group) c.loop-place.invariant.one)

pub or-requires-clause-g_ref : goal.or-requires-clause-g_ref
or-requires-clause-g_ref c = ref_on c.enabled.new.encoder c.ite.new.self c.in_ok-enabled.enabled c.in_ok-two.ensures.keeps c.in_ok-enabled.ensures.is_ref

pub returns-in_err-one-2-clause-counts : goal.returns-in_err-one-2-clause-counts
returns-in_err-one-2-clause-counts c =
    let seen = c.enabled.new.encoder in
    counts_on seen c.or.new.self c.enabled.new.counts (keeps_on seen c.ite.new.self c.or.new.self c.in_ok-two.ensures.keeps c.or.ensures.keeps) c.in_ok-enabled.ensures.counts

pub keep-requires : goal.keep-requires
keep-requires c =
    let seen = c.enabled.new.encoder in
    is_there (TellsUpTo 0) seen c.enabled.new.counts.some c.member_at-member.result c.in_ok-enabled.ensures.counts.some_is
    (is_on c.loop-place.encoder seen c.member_at-member.result c.in_ok-enabled.ensures.keeps c.member_at-member.ensures.member)

pub keep-requires-in-loop-place : goal.keep-requires-in-loop-place
keep-requires-in-loop-place c =
    let seen = c.enabled.new.encoder in
    is_there (TellsUpTo 1) seen c.enabled.new.counts.two c.member_at-member.result c.in_ok-enabled.ensures.counts.two_is
    (is_on c.loop-place.encoder seen c.member_at-member.result c.in_ok-enabled.ensures.keeps c.member_at-member.ensures.member)

pub loop-place-preserved : goal.loop-place-preserved
loop-place-preserved c =
    let first = c.args.encoder.now in
    let old = c.loop-place.encoder in
    let seen = c.enabled.new.encoder in
    let wide = c.ite.new.self in
    let new = c.or.new.self in
    let group = c.args.group in
    let n = c.loop-place.place in
    let x = c.member_at-member.result in
    let this = c.in_ok-enabled.enabled in
    let one_before = c.loop-place.one in
    let two_after = c.in_ok-two.two in
    let one_after = c.in_ok-one-2.one in
    let by_seen = c.in_ok-enabled.ensures.keeps in
    let by_two = c.in_ok-two.ensures.keeps in
    let by_one = c.in_ok-one-2.ensures.keeps in
    let from_seen = keeps_on seen wide new by_two by_one in
    let all = keeps_on first old new c.loop-place.invariant.keeps (keeps_on old seen new by_seen from_seen) in
    let next = next_on old seen group n x by_seen c.member_at-member.ensures.next in
    let told = c.in_ok-enabled.ensures.answer in
    let one_seen = tells_on old seen group one_before (more_than 0 n) by_seen c.loop-place.invariant.one in
    let two_seen = tells_on old seen group c.loop-place.two (more_than 1 n) by_seen c.loop-place.invariant.two in
    let two = tells_on wide new group two_after (more_than 1 (n + 1)) by_one
    (two_next seen wide group n x one_before c.loop-place.two this two_after by_two c.in_ok-two.ensures.answer next told one_seen two_seen) in
    let one = some_next wide new group n x one_before this one_after by_one c.in_ok-one-2.ensures.answer (next_on seen wide group n x by_two next)
    (member_on seen wide x this by_two told) (tells_on seen wide group one_before (more_than 0 n) by_two one_seen) in
    let on = counts_on seen new c.enabled.new.counts from_seen c.in_ok-enabled.ensures.counts in
    let checked = checked_on first new c.machine-machine.result.now c.machine-machine.ensures c.law.ensures all in
    let less = there_on first new group all c.requires.group in
    let next_new = next_on seen new group n x from_seen next in
    record {
      keeps = all;
      counts = record {
        enabled_is = on.enabled_is;
        some_is = up_to_kept 0 new c.enabled.new.counts.some c.keep.new.self group n x one_after checked less next_new one on.some_is c.keep.ensures;
        two_is = up_to_kept 1 new c.enabled.new.counts.two c.keep-in-loop-place.new.self group n x two_after checked less next_new two on.two_is c.keep-in-loop-place.ensures;
      };
      one = one;
      two = two;
    }

pub returns-clause-two : goal.returns-clause-two
returns-clause-two c =
    let e = c.loop-place.encoder in
    let many = c.members_of-count.result in
    all_told 1 e c.args.group many c.loop-place.place c.loop-place.two
    (members_on c.args.encoder.now e c.args.group many c.loop-place.invariant.keeps c.members_of-count.ensures) c.loop-place-test.false c.loop-place.invariant.two
