use Rattle.std.proofs.Common.{arith}
use Rattle.std.proofs.lemmas.Result.{IfOk-weaker}
use Rattle.bdd_core.proofs.StepLemmas.{keeps_trans}
use Rattle.settled_worlds.proofs.ConflictLemmas.{first_more, without_all}
use Rattle.settled_worlds.proofs.conflicts.without.Goals as goal

pub loop-place-preserved : goal.loop-place-preserved
loop-place-preserved c =
    let before = c.loop-place.invariant in
    let kept = keeps_trans c.args.arena.now c.loop-place.arena c.unlike.new.arena before.keeps c.unlike.ensures.keeps in
    record {
      keeps = keeps_trans c.args.arena.now c.unlike.new.arena c.or.new.self kept c.or.ensures.keeps;
      is_ref = c.in_ok-out.ensures.answer.is_ref;
      first = first_more c.args.levels.now c.args.literals.now c.args.places.now c.loop-place.place-index c.loop-place.arena c.unlike.new.arena c.or.new.self
          c.loop-place.out c.in_ok-other.other c.in_ok-out.out before.first before.is_ref c.unlike.ensures.keeps c.in_ok-other.ensures.answer c.in_ok-out.ensures.answer;
    }

pub returns-clause-answer : goal.returns-clause-answer
returns-clause-answer c =
    let before = c.loop-place.invariant in
    IfOk-weaker c.and.result _ _
    (λ r h. without_all c.args.levels.now c.args.literals.now c.args.places.now c.loop-place.place-index c.args.arena.now c.loop-place.arena c.and.new.self
    c.args.f c.loop-place.out r (omega arith) before.first c.requires.f_ref before.keeps h)
    c.and.ensures.answer
