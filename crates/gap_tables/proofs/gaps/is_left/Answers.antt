use Rattle.gap_tables.proofs.ColumnLists.{left_so}
use Rattle.gap_tables.proofs.gaps.is_left.Goals as goal

pub returns-clause-answer : goal.returns-clause-answer
returns-clause-answer c = λ set all.
    left_so c.args.encoder.now c.least_world.new.encoder set c.args.set _ c.is_some.result c.in_ok-world.ensures.keeps all c.is_some.ensures (c.in_ok-world.ensures.answer all.told all.tells)
