use Rattle.spelled_numbers.proofs.StepLemmas.{all-keeps, all-gains, joined}
use Rattle.spelled_numbers.proofs.sum_table.SumTable.join.Goals as goal

pub returns-in_err-answer-clause-right : goal.returns-in_err-answer-clause-right
returns-in_err-answer-clause-right c = all-keeps c.args.arena.now c.choose.new.arena c.args.terms.now c.args.self.now c.choose.ensures.keeps c.requires.right

pub returns-clause-right : goal.returns-clause-right
returns-clause-right c =
    all-gains c.choose.new.arena c.args.terms.now c.args.self.now c.keep.new.self c.args.at c.args.room c.in_ok-answer.answer
    (all-keeps c.args.arena.now c.choose.new.arena c.args.terms.now c.args.self.now c.choose.ensures.keeps c.requires.right)
    c.keep.ensures.question c.keep.ensures.gains
    (joined c.args.arena.now c.choose.new.arena c.args.terms.now c.args.at c.args.room c.args.out c.args.within c.in_ok-answer.answer c.requires.at c.requires.out c.requires.within c.in_ok-answer.ensures.answer)

pub returns-clause-answer : goal.returns-clause-answer
returns-clause-answer c =
    joined c.args.arena.now c.choose.new.arena c.args.terms.now c.args.at c.args.room c.args.out c.args.within c.in_ok-answer.answer c.requires.at c.requires.out c.requires.within c.in_ok-answer.ensures.answer
