-- What waits leads to the answer of the first question, before and after each turn.
use Rattle.std.proofs.Common.{rules}
use Rattle.bdd_core.proofs.StepLemmas.{keeps_trans}
use Rattle.spelled_numbers.proofs.WaitingLemmas.{leads-back, leads-end}
use Rattle.spelled_numbers.proofs.sum_table.SumTable.build.Goals as goal

pub returns-in_default-clause-keeps : goal.returns-in_default-clause-keeps
returns-in_default-clause-keeps c = c.loop-turn.invariant.0

pub returns-in_default-clause-right : goal.returns-in_default-clause-right
returns-in_default-clause-right c = c.loop-turn.invariant.1

pub returns-in_default-clause-answer : goal.returns-in_default-clause-answer
returns-in_default-clause-answer c = leads-end c.loop-turn.arena c.args.terms.now c.args.room c.loop-turn.answer c.loop-turn.waiting.items (search rules) c.loop-turn.invariant.2

pub resume-requires-clause-right : goal.resume-requires-clause-right
resume-requires-clause-right c = c.loop-turn.invariant.1

pub resume-requires-clause-answer : goal.resume-requires-clause-answer
resume-requires-clause-answer c =
    (leads-back c.loop-turn.arena c.args.terms.now c.args.room c.loop-turn.waiting.items c.pop.new.self.items c.in-Some.step c.loop-turn.answer c.in-Some.ensures.items c.loop-turn.invariant.2).1

pub loop-turn-preserved : goal.loop-turn-preserved
loop-turn-preserved c = (
  keeps_trans c.args.arena.now c.loop-turn.arena c.resume.new.arena c.loop-turn.invariant.0 c.resume.ensures.keeps,
  c.resume.ensures.right,
  c.in_ok-answer-2.ensures.leads c.args.room
      (leads-back c.loop-turn.arena c.args.terms.now c.args.room c.loop-turn.waiting.items c.pop.new.self.items c.in-Some.step c.loop-turn.answer c.in-Some.ensures.items c.loop-turn.invariant.2).0,
)

pub returns-in_err-answer-2-clause-keeps : goal.returns-in_err-answer-2-clause-keeps
returns-in_err-answer-2-clause-keeps c = keeps_trans c.args.arena.now c.loop-turn.arena c.resume.new.arena c.loop-turn.invariant.0 c.resume.ensures.keeps
