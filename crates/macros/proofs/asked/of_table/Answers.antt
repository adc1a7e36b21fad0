use Rattle.std.proofs.Common.{map, ◌∙◌}
use Rattle.macros.proofs.AskedLemmas.{table_is, table_below, first_many}
use Rattle.macros.proofs.asked.of_table.Goals as goal

pub returns : goal.returns
returns c = λ count below.
    let table = c.args.table.now in
    let rows = c.as_slice-rows.result.now in
    record {
      right = λ truths. c.of_columns.ensures.right truths ∙ table_is truths table rows c.len-count.result (map (λ v. v.items) c.in_ok-columns_of.field-0.items) c.as_slice-rows.ensures
          (c.len-count.ensures ∙ first_many table rows c.index-rows-0.result c.requires.some_row c.as_slice-rows.ensures) c.in_ok-columns_of.ensures;
      below = c.of_columns.ensures.below count (table_below count c.len-count.result table rows (λ v. v.items) c.in_ok-columns_of.field-0.items c.as_slice-rows.ensures c.in_ok-columns_of.ensures below);
    }
