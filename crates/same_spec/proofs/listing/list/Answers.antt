use Rattle.std.proofs.Common.{slice_index_or, sym, subst}
use Rattle.equal_frames.specs.Alike.{HaveSameWorlds}
use Rattle.ground_groups.specs.declared.group.Member.{Member as Number}
use Rattle.ground_groups.specs.declared.group.Member.TheVariants as variants
use Rattle.ground_groups.specs.Groups.{MemberIs}
use Rattle.elaborate.specs.Machine.{GroundMachine}
use Rattle.guard_encode.proofs.StepLemmas.{keeps_on}
use Rattle.guard_encode.proofs.OtherLemmas.{others_stay}
use Rattle.same_spec.proofs.DifferenceLemmas.{are_at}
use Rattle.same_spec.proofs.listing.list.Goals as goal

pub difference_of-requires-clause-worlds : goal.difference_of-requires-clause-worlds
difference_of-requires-clause-worlds c =
    subst (λ (m : GroundMachine). HaveSameWorlds m.base.spec c.args.two.now.base.spec) (sym c.loop-place.invariant.machine) c.requires.worlds

pub difference_of-requires-clause-phrases : goal.difference_of-requires-clause-phrases
difference_of-requires-clause-phrases c =
    others_stay c.args.encoder.now c.loop-place.encoder c.args.two.now.base c.args.phrases.now c.loop-place.invariant c.requires.phrases

pub difference_of-requires-clause-member : goal.difference_of-requires-clause-member
difference_of-requires-clause-member c =
    let here = are_at c.args.encoder.now.machine.base.spec c.args.two.now.base.spec c.args.members.now c.args.others.now c.loop-place.place c.requires.members c.requires.others c.requires.many c.loop-place-test.true in
    let x : Number = slice_index_or c.args.members.now c.loop-place.place (variants.Transition 0) in
    (here.one, subst (λ (m : GroundMachine). MemberIs m.base.spec here.one x) (sym c.loop-place.invariant.machine) here.one_is)

pub difference_of-requires-clause-other : goal.difference_of-requires-clause-other
difference_of-requires-clause-other c =
    let here = are_at c.args.encoder.now.machine.base.spec c.args.two.now.base.spec c.args.members.now c.args.others.now c.loop-place.place c.requires.members c.requires.others c.requires.many c.loop-place-test.true in
    (here.two, here.two_is)

pub loop-place-preserved : goal.loop-place-preserved
loop-place-preserved c = keeps_on c.args.encoder.now c.loop-place.encoder c.difference_of.new.encoder c.loop-place.invariant c.in_ok-found.ensures.keeps
