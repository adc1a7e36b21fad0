use Rattle.std.proofs.Common.{sym, ap, ◌∙◌}
use Rattle.rsml_base.specs.Counting.{shown}
use Rattle.pair_counts.proofs.EntryLemmas.{ok_with}
use Rattle.pair_counts.proofs.PairLemmas.{rows_counted}
use Rattle.pair_counts.proofs.pairs.count_rows.Goals as goal

pub returns : goal.returns
returns c =
    ok_with c.count_row_groups-2.result _ _ _ c.count_row_groups-2.ensures.differ c.count_row_groups-2.ensures.count
    (λ differ count h. h ∙ ap shown (sym (rows_counted c.args.sets.now.lists c.args.rows.now c.in_ok-new.field-0 differ c.in_ok-new.ensures)))
