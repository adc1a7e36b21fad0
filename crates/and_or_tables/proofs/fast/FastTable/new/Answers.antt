use Rattle.std.proofs.Common.{List, map, ap, ◌∙◌}
use Rattle.and_or_tables.specs.declared.ground.GroundRow.{GroundRow}
use Rattle.and_or_tables.specs.declared.ground.GroundTable.{GroundTable}
use Rattle.and_or_tables.proofs.FastLemmas.{table_again}
use Rattle.and_or_tables.proofs.fast.FastTable.new.Goals as goal

pub returns : goal.returns
returns c =
    let whole : List GroundRow → GroundTable = λ rows. record { rows = rows } in
    ap whole (table_again c.args.table.now c.in_ok-phrases.phrases.items c.in_ok-masks.masks (c.in_ok-phrases.ensures ∙ ap (map (λ (row : GroundRow). row.phrase)) c.as_slice.ensures) c.in_ok-masks.ensures)
