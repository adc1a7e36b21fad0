use Rattle.std.proofs.Common.{refl, sym, subst, arith}
use Rattle.equal_frames.specs.Alike.{HaveSameWorlds}
use Rattle.elaborate.specs.Machine.{GroundMachine}
use Rattle.guard_encode.proofs.StepLemmas.{keeps_on}
use Rattle.guard_encode.proofs.OtherLemmas.{others_stay}
use Rattle.same_spec.proofs.DifferenceLemmas.{found_world, least_found, no_world, one_function, told_both}
use Rattle.same_spec.proofs.difference.difference_of.Goals as goal

pub enabled_of-requires-clause-worlds : goal.enabled_of-requires-clause-worlds
enabled_of-requires-clause-worlds c =
    subst (λ (m : GroundMachine). HaveSameWorlds m.base.spec c.args.two.now.base.spec) (sym c.in_ok-here.ensures.keeps.machine) c.requires.worlds

pub enabled_of-requires-clause-phrases : goal.enabled_of-requires-clause-phrases
enabled_of-requires-clause-phrases c =
    others_stay c.args.encoder.now c.enabled.new.self c.args.two.now.base c.args.phrases.now c.in_ok-here.ensures.keeps c.requires.phrases

pub returns-then-are_one-clause-keeps : goal.returns-then-are_one-clause-keeps
returns-then-are_one-clause-keeps c = keeps_on c.args.encoder.now c.enabled.new.self c.enabled_of.new.self c.in_ok-here.ensures.keeps c.in_ok-there.ensures.keeps

pub returns-then-are_one-clause-answer : goal.returns-then-are_one-clause-answer
returns-then-are_one-clause-answer c =
    let a = c.args.encoder.now in
    let b = c.enabled.new.self in
    let d = c.enabled_of.new.self in
    one_function a d c.args.two.now.base.spec c.args.member c.args.other c.in_ok-here.here c.in_ok-there.there (keeps_on a b d c.in_ok-here.ensures.keeps c.in_ok-there.ensures.keeps)
    (told_both a b d c.args.two.now.base.spec c.args.member c.args.other c.in_ok-here.here c.in_ok-there.there c.in_ok-here.ensures.keeps c.in_ok-there.ensures.keeps c.in_ok-here.ensures.text c.in_ok-there.ensures.text)
    (c.are_one.ensures c.if-are_one.true)

pub least_difference-requires-clause-here : goal.least_difference-requires-clause-here
least_difference-requires-clause-here c =
    let told = c.in_ok-here.ensures.answer in
    omega (arith, told.is_ref, c.in_ok-there.ensures.keeps.diagram.longer)

pub least_difference-requires-clause-there : goal.least_difference-requires-clause-there
least_difference-requires-clause-there c = (c.in_ok-there.ensures.text c.requires.other.0 c.requires.other.1).is_ref

pub returns-in-None-clause-keeps : goal.returns-in-None-clause-keeps
returns-in-None-clause-keeps c =
    let a = c.args.encoder.now in
    let d = c.enabled_of.new.self in
    keeps_on a d c.least_difference.new.encoder (keeps_on a c.enabled.new.self d c.in_ok-here.ensures.keeps c.in_ok-there.ensures.keeps) c.in_ok-found.ensures.keeps

pub returns-in-None-clause-answer : goal.returns-in-None-clause-answer
returns-in-None-clause-answer c =
    let a = c.args.encoder.now in
    let b = c.enabled.new.self in
    let d = c.enabled_of.new.self in
    let e = c.least_difference.new.encoder in
    let t = c.args.two.now.base.spec in
    no_world a d e t c.args.member c.args.other c.in_ok-here.here c.in_ok-there.there _ (keeps_on a d e (keeps_on a b d c.in_ok-here.ensures.keeps c.in_ok-there.ensures.keeps) c.in_ok-found.ensures.keeps)
    (told_both a b d t c.args.member c.args.other c.in_ok-here.here c.in_ok-there.there c.in_ok-here.ensures.keeps c.in_ok-there.ensures.keeps c.in_ok-here.ensures.text c.in_ok-there.ensures.text)
    c.in_ok-found.ensures.answer c.in-None.is

pub holds-first-requires-clause-f_ref : goal.holds-first-requires-clause-f_ref
holds-first-requires-clause-f_ref c =
    let told = c.in_ok-here.ensures.answer in
    omega (arith, told.is_ref, c.in_ok-there.ensures.keeps.diagram.longer, c.in_ok-found.ensures.keeps.diagram.longer)

pub holds-first-requires-clause-world : goal.holds-first-requires-clause-world
holds-first-requires-clause-world c =
    let a = c.args.encoder.now in
    let b = c.enabled.new.self in
    let d = c.enabled_of.new.self in
    let e = c.least_difference.new.encoder in
    let t = c.args.two.now.base.spec in
    found_world a d e t c.args.member c.args.other c.in_ok-here.here c.in_ok-there.there _ c.in-Some.world (keeps_on a d e (keeps_on a b d c.in_ok-here.ensures.keeps c.in_ok-there.ensures.keeps) c.in_ok-found.ensures.keeps)
    (told_both a b d t c.args.member c.args.other c.in_ok-here.here c.in_ok-there.there c.in_ok-here.ensures.keeps c.in_ok-there.ensures.keeps c.in_ok-here.ensures.text c.in_ok-there.ensures.text)
    c.in_ok-found.ensures.answer c.in-Some.is c.requires.member.0 c.requires.other.0 c.requires.member.1 c.requires.other.1

pub returns-in-Some-clause-keeps : goal.returns-in-Some-clause-keeps
returns-in-Some-clause-keeps c =
    let a = c.args.encoder.now in
    let d = c.enabled_of.new.self in
    keeps_on a d c.least_difference.new.encoder (keeps_on a c.enabled.new.self d c.in_ok-here.ensures.keeps c.in_ok-there.ensures.keeps) c.in_ok-found.ensures.keeps

pub returns-in-Some-clause-answer : goal.returns-in-Some-clause-answer
returns-in-Some-clause-answer c =
    let a = c.args.encoder.now in
    let b = c.enabled.new.self in
    let d = c.enabled_of.new.self in
    let e = c.least_difference.new.encoder in
    let t = c.args.two.now.base.spec in
    least_found a d e t c.args.member c.args.other c.in_ok-here.here c.in_ok-there.there _ c.in-Some.world _ (keeps_on a d e (keeps_on a b d c.in_ok-here.ensures.keeps c.in_ok-there.ensures.keeps) c.in_ok-found.ensures.keeps)
    c.in_ok-found.ensures.keeps
    (told_both a b d t c.args.member c.args.other c.in_ok-here.here c.in_ok-there.there c.in_ok-here.ensures.keeps c.in_ok-there.ensures.keeps c.in_ok-here.ensures.text c.in_ok-there.ensures.text)
    c.in_ok-found.ensures.answer c.in-Some.is refl c.holds-first.ensures
