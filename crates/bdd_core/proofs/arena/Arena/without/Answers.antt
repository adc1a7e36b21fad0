-- What waits leads to the answer of the first place, before and after each turn.
use Rattle.bdd_core.specs.Waiting.{work}
use Rattle.bdd_core.specs.Children.{IsAny, IsRest}
use Rattle.bdd_core.proofs.StepLemmas.{keeps_trans}
use Rattle.bdd_core.proofs.WaitingLemmas.{work-pop}
use Rattle.bdd_core.proofs.ChildLemmas.{child-back}
use Rattle.bdd_core.proofs.arena.Arena.without.Goals as goal

pub resume_without-requires-clause-answer : goal.resume_without-requires-clause-answer
resume_without-requires-clause-answer c =
    (child-back IsAny (IsRest c.args.levels.now) c.loop-frame.self (c.args.f, 0, 0) c.loop-frame.waiting.items c.pop.new.self.items c.in-Some.frame c.loop-frame.answer c.in-Some.ensures.items c.loop-frame.invariant.1).1

pub loop-frame-smaller : goal.loop-frame-smaller
loop-frame-smaller c =
    work-pop c.loop-frame.waiting.items c.pop.new.self.items c.in-Some.frame (work c.resume_without.new.waiting.items) c.in-Some.ensures.items c.in_ok-answer-2.ensures.less

pub loop-frame-preserved : goal.loop-frame-preserved
loop-frame-preserved c =
    let back = child-back IsAny (IsRest c.args.levels.now) c.loop-frame.self (c.args.f, 0, 0) c.loop-frame.waiting.items c.pop.new.self.items c.in-Some.frame c.loop-frame.answer c.in-Some.ensures.items c.loop-frame.invariant.1 in (
      keeps_trans c.args.self.now c.loop-frame.self c.resume_without.new.self c.loop-frame.invariant.0 c.resume_without.ensures.keeps,
      c.in_ok-answer-2.ensures.leads (c.args.f, 0, 0) back.0,
      c.in_ok-answer-2.ensures.answers,
    )
