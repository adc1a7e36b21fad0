use Rattle.std.proofs.Common.{◌≡◌, ◌<◌, ◌≤◌, length, sym, ap, ◌∙◌, subst, slice_get, arith}
use Rattle.rsml_syntax.specs.declared.syntax.Spec.{Spec}
use Rattle.rsml_meaning.specs.Truth.{view}
use Rattle.rsml_meaning.specs.Groups.{groups, members}
use Rattle.ground_groups.specs.Groups.{IsMemberAt}
use Rattle.text_writer.proofs.WritingLemmas.{alike}
use Rattle.finding_texts.specs.Lines.{line_if_enabled}
use Rattle.finding_texts.specs.Members.{IsMember}
use Rattle.finding_texts.proofs.EnabledLines.{all_lines, is_member}
use Rattle.finding_texts.proofs.Pairs.{item_more}
use Rattle.finding_texts.proofs.members.put_enabled.Goals as goal

pub members-place-end-requires : goal.members-place-end-requires
members-place-end-requires g c = subst (λ (t : Spec). c.args.group < length (groups t)) (sym c.groups-groups.ensures) c.requires.group

pub member-requires-clause-group : goal.member-requires-clause-group
member-requires-clause-group g c = subst (λ (t : Spec). c.args.group < length (groups t)) (sym c.groups-groups.ensures) c.requires.group

pub put_if_enabled-requires-clause-member : goal.put_if_enabled-requires-clause-member
put_if_enabled-requires-clause-member g c =
    let t = c.groups-groups.result.now in
    let within = subst (λ (t : Spec). c.args.group < length (groups t)) (sym c.groups-groups.ensures) c.requires.group in
    subst (λ (t : Spec). IsMember t c.member.result) c.groups-groups.ensures (is_member t c.args.group c.loop-place.place c.member.result within c.member.ensures)

pub loop-place-preserved : goal.loop-place-preserved
loop-place-preserved g c = λ x at.
    let s = c.args.machine.now.base.spec in
    let there = ap (λ (t : Spec). slice_get (groups t) c.args.group) c.groups-groups.ensures ∙ at in
    let one = subst (λ (t : Spec). IsMemberAt t x c.loop-place.place c.member.result) c.groups-groups.ensures (c.member.ensures x there) in
    item_more (line_if_enabled (view s c.args.world.now)) (members s x) c.loop-place.place one.0 one.1 (c.loop-place.invariant x at) (c.put_if_enabled.ensures one.0 one.2)

pub returns : goal.returns
returns g c = λ x at.
    let s = c.args.machine.now.base.spec in
    let there = ap (λ (t : Spec). slice_get (groups t) c.args.group) c.groups-groups.ensures ∙ at in
    let many : c.members-place-end.result ≡ length (members s x) = c.members-place-end.ensures x there ∙ ap (λ (t : Spec). length (members t x)) c.groups-groups.ensures in
    let all : length (members s x) ≤ c.loop-place.place = omega (arith, many) in
    alike (all_lines s c.args.world.now x c.loop-place.place all) (c.loop-place.invariant x at)
