use Rattle.std.proofs.Common.{◌≡◌, ◌<◌, length, Some, slice_get, sym, ap, ◌∙◌, subst, arith}
use Rattle.rsml_syntax.specs.declared.syntax.Spec.{Spec}
use Rattle.rsml_meaning.specs.Groups.{Group, groups, members}
use Rattle.ground_groups.specs.Groups.{IsMemberAt}
use Rattle.state_tree.proofs.Lists.{within_get}
use Rattle.elaborate.specs.Machine.{GroundMachine}
use Rattle.group_verdicts.proofs.counted.member_at.Goals as goal

pub member-requires-clause-group : goal.member-requires-clause-group
member-requires-clause-group c =
    let own : c.groups-groups.result.now ≡ c.args.encoder.now.machine.base.spec = c.groups-groups.ensures ∙ ap (λ (m : GroundMachine). m.base.spec) c.machine.ensures in
    subst (λ (s : Spec). c.args.group < length (groups s)) (sym own) c.requires.group

pub member-requires-clause-place : goal.member-requires-clause-place
member-requires-clause-place c =
    let own : c.groups-groups.result.now ≡ c.args.encoder.now.machine.base.spec = c.groups-groups.ensures ∙ ap (λ (m : GroundMachine). m.base.spec) c.machine.ensures in
    subst (λ (s : Spec). (g : Group) → slice_get (groups s) c.args.group ≡ Some g → c.args.place < length (members s g)) (sym own) (λ g at. let all = c.requires.place g at in omega (arith, all))

pub returns-clause-next : goal.returns-clause-next
returns-clause-next c =
    let own : c.groups-groups.result.now ≡ c.args.encoder.now.machine.base.spec = c.groups-groups.ensures ∙ ap (λ (m : GroundMachine). m.base.spec) c.machine.ensures in
    subst (λ (s : Spec). (g : Group) → slice_get (groups s) c.args.group ≡ Some g → IsMemberAt s g c.args.place c.member.result) own c.member.ensures

pub returns-clause-member : goal.returns-clause-member
returns-clause-member c =
    let own : c.groups-groups.result.now ≡ c.args.encoder.now.machine.base.spec = c.groups-groups.ensures ∙ ap (λ (m : GroundMachine). m.base.spec) c.machine.ensures in
    let there = within_get (groups c.args.encoder.now.machine.base.spec) c.args.group c.requires.group in
    let is = subst (λ (s : Spec). (g : Group) → slice_get (groups s) c.args.group ≡ Some g → IsMemberAt s g c.args.place c.member.result) own c.member.ensures there.0 there.1 in
    (is.0, is.2)
