use Rattle.std.proofs.Common.{◌+◌, subst, arith}
use Rattle.guard_encode.proofs.StepLemmas.{keeps_on}
use Rattle.group_verdicts.specs.Counts.{TellsAt, TellsUpTo, more_than}
use Rattle.group_verdicts.proofs.AtLemmas.{no_calls, ref_at, ref_on, tells_on, there_on}
use Rattle.group_verdicts.proofs.KeptLemmas.{is_there}
use Rattle.group_verdicts.proofs.CountsLemmas.{checked_on, counts_on, has_on, is_on, next_on, up_to_kept}
use Rattle.group_verdicts.proofs.MemberLemmas.{some_next}
use Rattle.group_verdicts.proofs.counted.some_of_first.Goals as goal

pub loop-place-init : goal.loop-place-init
loop-place-init c = record {
  keeps = no_calls c.args.encoder.now;
  counts = c.requires.counts;
  within = c.known-members.ensures.within;
  some = c.known-members.ensures.told 0 c.requires.counts.some_is;
}

pub member_at-member-requires-clause-group : goal.member_at-member-requires-clause-group
member_at-member-requires-clause-group c = there_on c.args.encoder.now c.loop-place.encoder c.args.group c.loop-place.invariant.keeps c.requires.group

pub member_at-member-requires-clause-place : goal.member_at-member-requires-clause-place
member_at-member-requires-clause-place c = has_on c.args.encoder.now c.loop-place.encoder c.args.group c.args.count (c.loop-place.place + 1) c.loop-place.invariant.keeps (let less = c.loop-place-test.true in omega (arith, less)) c.requires.count

pub or-requires-clause-f_ref : goal.or-requires-clause-f_ref
or-requires-clause-f_ref c =
    let old = c.loop-place.encoder in
    ref_on old c.enabled.new.encoder c.loop-place.some c.in_ok-enabled.ensures.keeps
    (ref_at old c.args.group c.loop-place.some (more_than 0 c.loop-place.place) (there_on c.args.encoder.now old c.args.group c.loop-place.invariant.keeps c.requires.group) c.loop-place.invariant.some)

pub or-requires-clause-g_ref : goal.or-requires-clause-g_ref
or-requires-clause-g_ref c = c.in_ok-enabled.ensures.is_ref

pub returns-in_err-some-clause-counts : goal.returns-in_err-some-clause-counts
returns-in_err-some-clause-counts c = counts_on c.enabled.new.encoder c.or.new.self c.enabled.new.counts c.or.ensures.keeps c.in_ok-enabled.ensures.counts

pub keep-requires : goal.keep-requires
keep-requires c =
    let seen = c.enabled.new.encoder in
    is_there (TellsUpTo 0) seen c.enabled.new.counts.some c.member_at-member.result c.in_ok-enabled.ensures.counts.some_is
    (is_on c.loop-place.encoder seen c.member_at-member.result c.in_ok-enabled.ensures.keeps c.member_at-member.ensures.member)

pub loop-place-preserved : goal.loop-place-preserved
loop-place-preserved c =
    let first = c.args.encoder.now in
    let old = c.loop-place.encoder in
    let seen = c.enabled.new.encoder in
    let new = c.or.new.self in
    let group = c.args.group in
    let n = c.loop-place.place in
    let x = c.member_at-member.result in
    let r = c.in_ok-some.some in
    let by_seen = c.in_ok-enabled.ensures.keeps in
    let by_or = c.in_ok-some.ensures.keeps in
    let all = keeps_on first old new c.loop-place.invariant.keeps (keeps_on old seen new by_seen by_or) in
    let next = next_on old seen group n x by_seen c.member_at-member.ensures.next in
    let some = some_next seen new group n x c.loop-place.some c.in_ok-enabled.enabled r by_or c.in_ok-some.ensures.answer next c.in_ok-enabled.ensures.answer
    (tells_on old seen group c.loop-place.some (more_than 0 n) by_seen c.loop-place.invariant.some) in
    let on = counts_on seen new c.enabled.new.counts by_or c.in_ok-enabled.ensures.counts in
    record {
      keeps = all;
      counts = record {
        enabled_is = on.enabled_is;
        some_is = up_to_kept 0 new c.enabled.new.counts.some c.keep.new.self group n x r (checked_on first new c.machine-machine.result.now c.machine-machine.ensures c.law.ensures all)
            (there_on first new group all c.requires.group) (next_on seen new group n x by_or next) some on.some_is c.keep.ensures;
        two_is = on.two_is;
      };
      within = let less = c.loop-place-test.true in omega (arith, less);
      some = some;
    }

pub returns-clause-some : goal.returns-clause-some
returns-clause-some c =
    let within = c.loop-place.invariant.within in
    let past = c.loop-place-test.false in
    subst (λ n. TellsAt c.loop-place.encoder c.args.group (more_than 0 n) c.loop-place.some) (omega (arith, within, past)) c.loop-place.invariant.some
