use Rattle.std.proofs.Common.{sym, ◌∙◌, length, w64, SFits, rules}
use Rattle.std.proofs.lemmas.Int.{to_z-of_z}
use Rattle.std.proofs.lemmas.Result.{IfOk-weaker}
use Rattle.gap_tables.proofs.LaterParts.{number_more, number_unread}
use Rattle.gap_tables.proofs.later.with_number.Goals as goal

pub returns-then-not-is_read-clause-answer : goal.returns-then-not-is_read-clause-answer
returns-then-not-is_read-clause-answer c =
    number_unread c.args.encoder.now c.args.read.now c.args.world.now _ c.args.place c.args.after (sym c.is_read.ensures ∙ c.if-not-is_read.true) c.requires.after

pub returns-clause-answer : goal.returns-clause-answer
returns-clause-answer c =
    let w = c.args.world.now in
    let fits : SFits w64 c.number_in.result = search rules in
    IfOk-weaker c.fixed.result _ _
    (λ r h. number_more c.args.encoder.now c.fixed.new.self c.args.read.now w (length w.choices) c.args.place c.args.after r c.in_ok-cell.cell _ c.fixed.ensures.keeps c.in_ok-cell.ensures
    (to_z-of_z w64 c.number_in.result fits ∙ c.number_in.ensures) (sym c.is_read.ensures ∙ c.if-not-is_read.false) c.requires.place c.requires.after
    (h c.requires.after.later c.requires.after.finds))
    c.fixed.ensures.answer
