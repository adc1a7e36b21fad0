use Rattle.std.proofs.Common.{slice_index_or, sym, subst, arith}
use Rattle.std.proofs.lemmas.Option.{MatchOption-at_none, MatchOption-at_some}
use Rattle.equal_frames.specs.Alike.{HaveSameWorlds}
use Rattle.ground_groups.specs.declared.group.Member.{Member as Number}
use Rattle.ground_groups.specs.declared.group.Member.TheVariants as variants
use Rattle.ground_groups.specs.Groups.{MemberIs}
use Rattle.elaborate.specs.Machine.{GroundMachine}
use Rattle.guard_encode.proofs.StepLemmas.{keeps_on}
use Rattle.guard_encode.proofs.OtherLemmas.{others_stay}
use Rattle.same_spec.specs.Found.{DifferFirst, NeverDiffer}
use Rattle.same_spec.proofs.DifferenceLemmas.{answer_in, are_at, first_found, member_some, none_found, none_more}
use Rattle.same_spec.proofs.difference.first_of.Goals as goal

pub difference_of-requires-clause-worlds : goal.difference_of-requires-clause-worlds
difference_of-requires-clause-worlds c =
    subst (λ (m : GroundMachine). HaveSameWorlds m.base.spec c.args.two.now.base.spec) (sym c.loop-place.invariant.keeps.machine) c.requires.worlds

pub difference_of-requires-clause-phrases : goal.difference_of-requires-clause-phrases
difference_of-requires-clause-phrases c =
    others_stay c.args.encoder.now c.loop-place.encoder c.args.two.now.base c.args.phrases.now c.loop-place.invariant.keeps c.requires.phrases

pub difference_of-requires-clause-member : goal.difference_of-requires-clause-member
difference_of-requires-clause-member c =
    let here = are_at c.args.encoder.now.machine.base.spec c.args.two.now.base.spec c.args.members.now c.args.others.now c.loop-place.place c.requires.members c.requires.others c.requires.many c.loop-place-test.true in
    let x : Number = slice_index_or c.args.members.now c.loop-place.place (variants.Transition 0) in
    (here.one, subst (λ (m : GroundMachine). MemberIs m.base.spec here.one x) (sym c.loop-place.invariant.keeps.machine) here.one_is)

pub difference_of-requires-clause-other : goal.difference_of-requires-clause-other
difference_of-requires-clause-other c =
    let here = are_at c.args.encoder.now.machine.base.spec c.args.two.now.base.spec c.args.members.now c.args.others.now c.loop-place.place c.requires.members c.requires.others c.requires.many c.loop-place-test.true in
    (here.two, here.two_is)

pub loop-place-preserved : goal.loop-place-preserved
loop-place-preserved c =
    let first = c.args.encoder.now in
    let s = first.machine.base.spec in
    let t = c.args.two.now.base.spec in
    let place = c.loop-place.place in
    let x : Number = slice_index_or c.args.members.now place (variants.Transition 0) in
    let y : Number = slice_index_or c.args.others.now place (variants.Transition 0) in
    let here = are_at s t c.args.members.now c.args.others.now place c.requires.members c.requires.others c.requires.many c.loop-place-test.true in
    record {
      keeps = keeps_on first c.loop-place.encoder c.difference_of.new.encoder c.loop-place.invariant.keeps c.in_ok-found.ensures.keeps;
      before = none_more s t place x y c.loop-place.invariant.before here (MatchOption-at_none (NeverDiffer s t here.one here.two) (DifferFirst s t here.one here.two) c.in_default.is
          (answer_in first c.loop-place.encoder t x y c.in_ok-found.field-0 c.loop-place.invariant.keeps c.in_ok-found.ensures.answer here.one here.two here.one_is here.two_is));
    }

pub returns-in-Some : goal.returns-in-Some
returns-in-Some c =
    let first = c.args.encoder.now in
    let s = first.machine.base.spec in
    let t = c.args.two.now.base.spec in
    let place = c.loop-place.place in
    let x : Number = slice_index_or c.args.members.now place (variants.Transition 0) in
    let y : Number = slice_index_or c.args.others.now place (variants.Transition 0) in
    let here = are_at s t c.args.members.now c.args.others.now place c.requires.members c.requires.others c.requires.many c.loop-place-test.true in
    first_found s t place y c.in-Some.found x c.loop-place.invariant.before (member_some c.in_ok-found.field-0 c.in-Some.found x c.in-Some.is c.in_ok-found.ensures.member) here
    (MatchOption-at_some (NeverDiffer s t here.one here.two) (DifferFirst s t here.one here.two) c.in-Some.found c.in-Some.is
    (answer_in first c.loop-place.encoder t x y c.in_ok-found.field-0 c.loop-place.invariant.keeps c.in_ok-found.ensures.answer here.one here.two here.one_is here.two_is))

pub returns : goal.returns
returns c =
    none_found c.args.encoder.now.machine.base.spec c.args.two.now.base.spec c.args.members.now c.args.others.now c.loop-place.place c.requires.members c.requires.others c.requires.many (omega arith) c.loop-place.invariant.before
