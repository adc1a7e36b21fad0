use Rattle.std.proofs.Common.{sym, ap, ◌∙◌}
use Rattle.text_writer.proofs.WritingLemmas.{alike, still}
use Rattle.reactions.specs.Lines.{line_of}
use Rattle.reactions.proofs.SendTexts.{quiet_line, values_line}
use Rattle.reactions.proofs.sends.put_answer.Goals as goal

pub returns-in-Quiet : goal.returns-in-Quiet
returns-in-Quiet g c ps x at is =
    alike (quiet_line c.args.sent.now ps x c.args.answered.now c.args.numbers.now is (sym c.answer.ensures ∙ c.in-Quiet.is))
    (still (g.W.Writer.state c.args.writer.now) (g.W.Writer.text c.args.writer.now))

pub returns-in-Values : goal.returns-in-Values
returns-in-Values g c ps x at is =
    alike (ap (λ n. line_of c.args.sent.now n c.args.case c.args.numbers.now) c.send.ensures
    ∙ values_line c.args.sent.now ps x c.args.answered.now c.args.numbers.now c.args.case _ at is (sym c.answer.ensures ∙ c.in-Values.is) c.requires.values)
    c.put_line.ensures
