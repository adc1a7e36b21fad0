use Rattle.std.proofs.Common.{◌≡◌, ◌-◌, length, subst, arith}
use Rattle.std.proofs.lemmas.Result.{IfOk-weaker}
use Rattle.rsml_meaning.specs.Worlds.{IsWorld}
use Rattle.group_verdicts.proofs.Keeping.{on_new}
use Rattle.gap_tables.specs.Widening.{FindsLater}
use Rattle.gap_tables.proofs.ColumnLists.{children_from}
use Rattle.gap_tables.proofs.column.first_parts.Goals as goal

pub later_children-requires-clause-first : goal.later_children-requires-clause-first
later_children-requires-clause-first c =
    let w = c.args.world.now in
    let at = c.requires.later _ c.later_at-first.result c.later_at-first.ensures in
    let n : length w.cells - c.len.result ≡ 0 = omega (arith, c.len.ensures) in
    subst (λ m. FindsLater c.args.encoder.now c.args.read.now w (length w.choices) m c.later_at-first.result) n at

pub children-requires-clause-world : goal.children-requires-clause-world
children-requires-clause-world c = on_new (λ s. IsWorld s c.args.world.now) c.args.encoder.now c.later_children.new.encoder c.in_ok-after.ensures.keeps c.requires.world

pub returns-clause-answer : goal.returns-clause-answer
returns-clause-answer c =
    IfOk-weaker c.children.result _ _
    (λ x h. children_from c.args.encoder.now c.later_children.new.encoder c.children.new.encoder c.args.read.now c.args.world.now c.args.others x.0 x.1 c.in_ok-after.ensures.keeps h)
    c.children.ensures.answer
