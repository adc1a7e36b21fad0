use Rattle.std.proofs.Common.{map}
use Rattle.std.proofs.lemmas.Result.{on_ok_weaker}
use Rattle.rsml_limits.specs.comparisons.Shown.{shown_sum}
use Rattle.rsml_limits.specs.thresholds.Shown.{shown_right}
use Rattle.rsml_limits.proofs.ThresholdPairLemmas.{edges_put}
use Rattle.rsml_limits.proofs.thresholds.compared.compare.Goals as goal

pub returns : goal.returns
returns c =
    let sums = map (λ terms. shown_sum terms.items) c.args.sums.now in
    let rights = map shown_right c.args.rights.now in
    on_ok_weaker c.compare_edge-2.result (edges_put sums rights c.args.table.now c.compare_edge.new.table c.compare_edge-2.new.table c.in_ok-compare_edge.ensures) c.compare_edge-2.ensures
