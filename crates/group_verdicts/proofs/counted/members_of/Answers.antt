use Rattle.std.proofs.Common.{◌≡◌, ◌<◌, length, Some, slice_get, sym, ap, ◌∙◌, subst}
use Rattle.rsml_syntax.specs.declared.syntax.Spec.{Spec}
use Rattle.rsml_meaning.specs.Groups.{Group, groups, members}
use Rattle.elaborate.specs.Machine.{GroundMachine}
use Rattle.group_verdicts.proofs.counted.members_of.Goals as goal

pub members-requires : goal.members-requires
members-requires c =
    let own : c.groups-groups.result.now ≡ c.args.encoder.now.machine.base.spec = c.groups-groups.ensures ∙ ap (λ (m : GroundMachine). m.base.spec) c.machine.ensures in
    subst (λ (s : Spec). c.args.group < length (groups s)) (sym own) c.requires

pub returns : goal.returns
returns c =
    let own : c.groups-groups.result.now ≡ c.args.encoder.now.machine.base.spec = c.groups-groups.ensures ∙ ap (λ (m : GroundMachine). m.base.spec) c.machine.ensures in
    subst (λ (s : Spec). (g : Group) → slice_get (groups s) c.args.group ≡ Some g → c.members.result ≡ length (members s g)) own c.members.ensures
