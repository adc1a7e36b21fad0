use Rattle.std.proofs.Common.{List, All, length, sym, ap, ◌∙◌, subst}
use Rattle.std.specs.List.{AllZip}
use Rattle.rsml_meaning.specs.Cells.{InputCell}
use Rattle.keyed_levels.specs.Keyed.{PhraseFits}
use Rattle.ground_groups.specs.declared.group.Member.{Member as Number}
use Rattle.ground_groups.specs.Groups.{MemberIs}
use Rattle.elaborate.specs.Machine.{GroundMachine}
use Rattle.equal_frames.specs.Alike.{HaveSameWorlds}
use Rattle.equal_frames.specs.Differences.{all_members}
use Rattle.same_spec.proofs.DifferenceLemmas.{many_members}
use Rattle.same_spec.proofs.listing.differences.Goals as goal

pub with-requires : goal.with-requires
with-requires c =
    let s = c.args.one.now.base.spec in
    let t = c.args.two.now.base.spec in
    let same : HaveSameWorlds s t = c.frame_laws.ensures.worlds s t c.law.ensures.grounded.checked c.law-2.ensures.grounded.checked c.requires in
    subst (λ (cs : List InputCell). All (PhraseFits (length cs)) c.in_ok-both.both.plan.beside.items) (sym same.cells) c.in_ok-both.ensures

pub phrases_of-requires : goal.phrases_of-requires
phrases_of-requires c =
    let s = c.args.one.now.base.spec in
    let t = c.args.two.now.base.spec in
    subst (λ (m : GroundMachine). HaveSameWorlds m.base.spec t) (sym c.in_ok-encoder.ensures.machine)
    (c.frame_laws.ensures.worlds s t c.law.ensures.grounded.checked c.law-2.ensures.grounded.checked c.requires)

pub list-requires-clause-worlds : goal.list-requires-clause-worlds
list-requires-clause-worlds c =
    let s = c.args.one.now.base.spec in
    let t = c.args.two.now.base.spec in
    subst (λ (m : GroundMachine). HaveSameWorlds m.base.spec t) (sym (c.in_ok-phrases.ensures.keeps.machine ∙ c.in_ok-encoder.ensures.machine))
    (c.frame_laws.ensures.worlds s t c.law.ensures.grounded.checked c.law-2.ensures.grounded.checked c.requires)

pub list-requires-clause-members : goal.list-requires-clause-members
list-requires-clause-members c =
    subst (λ (xs : List Number). AllZip (MemberIs c.phrases_of.new.self.machine.base.spec) (all_members c.phrases_of.new.self.machine.base.spec) xs) (sym c.as_slice-2.ensures.value)
    (subst (λ (m : GroundMachine). AllZip (MemberIs m.base.spec) (all_members m.base.spec) c.in_ok-members.members.items) (sym (c.in_ok-phrases.ensures.keeps.machine ∙ c.in_ok-encoder.ensures.machine))
    c.in_ok-members.ensures)

pub list-requires-clause-others : goal.list-requires-clause-others
list-requires-clause-others c =
    let t = c.args.two.now.base.spec in
    subst (λ (xs : List Number). AllZip (MemberIs t) (all_members t) xs) (sym c.as_slice-3.ensures.value) c.in_ok-others.ensures

pub list-requires-clause-many : goal.list-requires-clause-many
list-requires-clause-many c =
    let s = c.args.one.now.base.spec in
    let t = c.args.two.now.base.spec in
    ap (λ (xs : List Number). length xs) c.as_slice-2.ensures.value
    ∙ many_members s t c.in_ok-members.members.items c.in_ok-others.others.items
    (c.frame_laws.ensures.members s t c.law.ensures.grounded.checked c.law-2.ensures.grounded.checked c.requires) c.in_ok-members.ensures c.in_ok-others.ensures
    ∙ sym (ap (λ (xs : List Number). length xs) c.as_slice-3.ensures.value)
