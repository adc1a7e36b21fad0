use Rattle.std.proofs.Common.{map}
use Rattle.std.proofs.lemmas.Result.{on_ok_weaker}
use Rattle.rsml_limits.specs.comparisons.Shown.{shown_cell, shown_sum}
use Rattle.rsml_limits.specs.thresholds.Shown.{shown_right}
use Rattle.rsml_limits.proofs.ThresholdPairLemmas.{edge_put}
use Rattle.rsml_limits.proofs.thresholds.compared.compare_edge.Goals as goal

pub returns : goal.returns
returns c =
    let sums = map (λ terms. shown_sum terms.items) c.args.sums.now in
    let rights = map shown_right c.args.rights.now in
    on_ok_weaker c.put-2.result
    (edge_put c.args.edge sums rights (map shown_cell c.in_ok-cells.cells.keys) (map shown_cell c.in_ok-cells-2.cells.keys) c.in_ok-asked_numbers.field-0.items c.in_ok-edge_numbers.field-0.items
    c.args.table.now c.put.new.self c.put-2.new.self c.in_ok-cells.ensures c.in_ok-asked_numbers.ensures c.in_ok-put.ensures c.in_ok-cells-2.ensures c.in_ok-edge_numbers.ensures)
    c.put-2.ensures
