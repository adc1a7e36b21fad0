-- What waits leads to the answer of the first question, before and after each turn.
use Rattle.bdd_core.specs.Waiting.{work}
use Rattle.bdd_core.proofs.StepLemmas.{keeps_trans}
use Rattle.bdd_core.proofs.WaitingLemmas.{leads-back, path-adds, work-pop}
use Rattle.bdd_core.proofs.arena.Arena.choose.Goals as goal

pub resume-requires : goal.resume-requires
resume-requires c =
    (leads-back c.loop-frame.self (c.args.f, c.args.g, c.args.h) c.loop-frame.waiting.items c.pop.new.self.items c.in-Some.frame c.loop-frame.answer c.in-Some.ensures.items c.loop-frame.invariant.1).1

pub returns-in_err-answer-2-clause-added : goal.returns-in_err-answer-2-clause-added
returns-in_err-answer-2-clause-added c none =
    path-adds c.args.self.now c.loop-frame.self c.resume.new.self c.args.f c.args.g c.args.h c.pop.new.self.items c.in-Some.frame
    c.laws.ensures.reduced c.requires.f_ref c.requires.g_ref c.loop-frame.invariant.0 c.resume.ensures.keeps none
    (leads-back c.loop-frame.self (c.args.f, c.args.g, c.args.h) c.loop-frame.waiting.items c.pop.new.self.items c.in-Some.frame c.loop-frame.answer c.in-Some.ensures.items c.loop-frame.invariant.1).0
    c.resume.ensures.added (c.loop-frame.invariant.2 none)

pub loop-frame-smaller : goal.loop-frame-smaller
loop-frame-smaller c =
    work-pop c.loop-frame.waiting.items c.pop.new.self.items c.in-Some.frame (work c.resume.new.waiting.items) c.in-Some.ensures.items c.in_ok-answer-2.ensures.less

pub loop-frame-preserved : goal.loop-frame-preserved
loop-frame-preserved c =
    let back = leads-back c.loop-frame.self (c.args.f, c.args.g, c.args.h) c.loop-frame.waiting.items c.pop.new.self.items c.in-Some.frame c.loop-frame.answer c.in-Some.ensures.items c.loop-frame.invariant.1 in (
      keeps_trans c.args.self.now c.loop-frame.self c.resume.new.self c.loop-frame.invariant.0 c.resume.ensures.keeps,
      c.in_ok-answer-2.ensures.leads (c.args.f, c.args.g, c.args.h) back.0,
      λ none.
          path-adds c.args.self.now c.loop-frame.self c.resume.new.self c.args.f c.args.g c.args.h c.pop.new.self.items c.in-Some.frame
          c.laws.ensures.reduced c.requires.f_ref c.requires.g_ref c.loop-frame.invariant.0 c.resume.ensures.keeps none back.0
          c.resume.ensures.added (c.loop-frame.invariant.2 none),
    )
