use Rattle.table_notes.proofs.PartLemmas.{parts_fit, some_part}
use Rattle.table_notes.proofs.columns.column_guard.Goals as goal

pub returns-else-is_empty : goal.returns-else-is_empty
returns-else-is_empty c =
    let rows = c.in_ok-parts.parts in
    parts_fit c.args.phrases (record { rows = rows }) c.in_ok-parts.ensures (some_part rows c.if-is_empty.ensures.1)
