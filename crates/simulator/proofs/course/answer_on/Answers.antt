use Rattle.std.proofs.Common.{ℕ, sym, ap, ◌∙◌, subst}
use Rattle.event_file.specs.declared.next.Next.{Next}
use Rattle.simulator.specs.helpers.Taking.{AnswerGoes, final_of}
use Rattle.simulator.proofs.AnsweringLemmas.{goes_without}
use Rattle.simulator.proofs.course.answer_on.Goals as goal

pub take_line-requires-clause-unskipped : goal.take_line-requires-clause-unskipped
take_line-requires-clause-unskipped c = c.requires.unskipped c.in-Line.is

pub returns-in-Line : goal.returns-in-Line
returns-in-Line c =
    subst (λ (n : Next). AnswerGoes n c.args.reader.now c.args.turns.now c.take_line.result c.take_line.new.turns) (sym c.in-Line.is) c.take_line.ensures

pub returns-in_default : goal.returns-in_default
returns-in_default c =
    let n = c.args.given in
    goes_without n c.args.reader.now c.args.turns.now c.final_of.result c.in_default.not-Line
    (c.final_of.ensures ∙ ap (λ (k : ℕ). final_of n k c.number.result) c.events.ensures ∙ ap (λ (k : ℕ). final_of n c.args.turns.now.events k) c.number.ensures)
