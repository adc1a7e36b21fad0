use Rattle.std.proofs.Common.{sym, ◌∙◌}
use Rattle.std.proofs.lemmas.Result.{IfOk-weaker}
use Rattle.gap_tables.proofs.LaterParts.{child_more, child_unread}
use Rattle.gap_tables.proofs.later.with_child.Goals as goal

pub returns-then-not-is_read-clause-answer : goal.returns-then-not-is_read-clause-answer
returns-then-not-is_read-clause-answer c =
    child_unread c.args.encoder.now c.args.read.now c.args.world.now 0 c.args.place c.args.after (sym c.is_read.ensures ∙ c.if-not-is_read.true) c.requires.after

pub returns-clause-answer : goal.returns-clause-answer
returns-clause-answer c =
    IfOk-weaker c.and.result _ _
    (λ r h. child_more c.args.encoder.now c.choice.new.self c.and.new.self c.args.read.now c.args.world.now 0 c.args.place c.args.after c.in_ok-chosen.chosen r c.in_ok-component.component c.child_in.result
    c.in_ok-chosen.ensures.keeps c.and.ensures.keeps c.in_ok-component.ensures c.child_in.ensures (sym c.is_read.ensures ∙ c.if-not-is_read.false) c.requires.place c.requires.after
    c.in_ok-chosen.ensures.answer h)
    c.and.ensures.found
