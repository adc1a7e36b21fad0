use Rattle.std.proofs.Common.{[], Bool, false, not, ◌&&◌, arith}
use Rattle.std.proofs.lemmas.List.{take_all}
use Rattle.std.proofs.lemmas.Result.{IfOk-weaker}
use Rattle.rsml_syntax.specs.declared.world.World.{World}
use Rattle.guard_encode.proofs.StepLemmas.{keeps_on}
use Rattle.invariants.specs.Asked.{turn_false}
use Rattle.invariants.specs.Told.{TellsOf, all_at, true_after}
use Rattle.invariants.proofs.ToldLemmas.{all_on, decides, no_calls, of_tells, ref_of, refs_of, tells_on, tells_or, zip_index, zip_long}
use Rattle.invariants.proofs.TurningLemmas.{all_false, front_false, none_false, one_false, told_truths, truths_of}
use Rattle.invariants.proofs.asking.turning.Goals as goal

pub loop-place-init : goal.loop-place-init
loop-place-init c = record {
  keeps = no_calls c.args.encoder.now;
  told = none_false c.args.machine.now c.args.encoder.now c.args.claims.now c.args.moves.now c.constant-some.result
      (of_tells c.args.machine.now.base.spec c.args.encoder.now (λ w. false) c.constant-some.result c.constant-some.ensures);
}

pub returns-clause-keeps : goal.returns-clause-keeps
returns-clause-keeps c = keeps_on c.args.encoder.now c.loop-place.encoder c.decided.new.self c.loop-place.invariant.keeps c.decided.ensures.keeps

pub loop-place-preserved : goal.loop-place-preserved
loop-place-preserved c =
    let m = c.args.machine.now in
    let s = m.base.spec in
    let first = c.args.encoder.now in
    let old = c.loop-place.encoder in
    let asked = c.claim_after.new.encoder in
    let seen = c.turns_false.new.encoder in
    let new = c.or.new.self in
    let n = c.loop-place.place in
    let claims = c.args.claims.now in
    let moves = c.args.moves.now in
    let claim = c.index-claims-place.result in
    let before = c.index-before-place.result in
    let by_asked = keeps_on first old asked c.loop-place.invariant.keeps c.in_ok-after.ensures.keeps in
    let rest = all_on s first asked (true_after m []) claims c.args.before.now by_asked c.requires.before in
    let one : World → Bool = true_after m [] claim in
    let other : World → Bool = true_after m moves claim in
    let turned : World → Bool = λ w. (not (other w) && one w) && all_at (truths_of m claims) w in
    let on = keeps_on old asked seen c.in_ok-after.ensures.keeps c.in_ok-turned.ensures.keeps in
    record {
      keeps = keeps_on first old new c.loop-place.invariant.keeps (keeps_on old seen new on c.in_ok-some.ensures.keeps);
      told = one_false m new claims moves n claim c.in_ok-some.some c.loop-place-test.true c.index-claims-place.is
          (tells_or s seen new (front_false m claims moves n) turned c.loop-place.some c.in_ok-turned.turned c.in_ok-some.some c.in_ok-some.ensures.answer
          (tells_on s old seen (front_false m claims moves n) c.loop-place.some on c.loop-place.invariant.told)
          (c.in_ok-turned.ensures.answer s one other (truths_of m claims)
          (zip_index (λ g r. TellsOf s asked (true_after m [] g) r) claims c.args.before.now n claim before before rest c.loop-place-test.true c.index-claims-place.is c.index-before-place.is)
          c.in_ok-after.ensures.answer (told_truths m asked claims c.args.before.now rest)));
    }

pub returns-clause-answer : goal.returns-clause-answer
returns-clause-answer c =
    let m = c.args.machine.now in
    let claims = c.args.claims.now in
    let moves = c.args.moves.now in
    IfOk-weaker c.decided.result _ _
    (λ r h. decides m.base.spec c.loop-place.encoder c.decided.new.self (turn_false m claims moves) c.loop-place.some r h
    (all_false m c.loop-place.encoder claims moves c.loop-place.place c.loop-place.some (take_all c.loop-place.place claims (let past = c.loop-place-test.false in omega (arith, past)))
    c.loop-place.invariant.told))
    c.decided.ensures.answer

pub bounds-before-place : goal.bounds-before-place
bounds-before-place c =
    let many = zip_long (λ g r. TellsOf c.args.machine.now.base.spec c.args.encoder.now (true_after c.args.machine.now [] g) r) c.args.claims.now c.args.before.now c.requires.before in
    let less = c.loop-place-test.true in
    omega (arith, less, many)

pub turns_false-requires-clause-claims : goal.turns_false-requires-clause-claims
turns_false-requires-clause-claims c =
    let m = c.args.machine.now in
    let first = c.args.encoder.now in
    let asked = c.claim_after.new.encoder in
    refs_of m.base.spec asked (true_after m []) c.args.claims.now c.args.before.now
    (all_on m.base.spec first asked (true_after m []) c.args.claims.now c.args.before.now (keeps_on first c.loop-place.encoder asked c.loop-place.invariant.keeps c.in_ok-after.ensures.keeps) c.requires.before)

pub turns_false-requires-clause-before : goal.turns_false-requires-clause-before
turns_false-requires-clause-before c =
    let m = c.args.machine.now in
    let s = m.base.spec in
    let first = c.args.encoder.now in
    let asked = c.claim_after.new.encoder in
    let claim = c.index-claims-place.result in
    ref_of s asked (true_after m [] claim) c.index-before-place.result
    (zip_index (λ g r. TellsOf s asked (true_after m [] g) r) c.args.claims.now c.args.before.now c.loop-place.place claim c.index-before-place.result c.index-before-place.result
    (all_on s first asked (true_after m []) c.args.claims.now c.args.before.now (keeps_on first c.loop-place.encoder asked c.loop-place.invariant.keeps c.in_ok-after.ensures.keeps) c.requires.before)
    c.loop-place-test.true c.index-claims-place.is c.index-before-place.is)
