use Rattle.std.proofs.Common.{◌≡◌, List, ◌++◌, map, length, filter, ap, ◌∙◌}
use Rattle.std.specs.Prelude.{flat_map}
use Rattle.std.proofs.lemmas.Result.{IfOk-weaker}
use Rattle.rsml_syntax.specs.limits.Limits.{distinct, shown}
use Rattle.rsml_syntax.specs.limits.Thresholds.{same_threshold, thresholds}
use Rattle.rsml_limits.specs.comparisons.Asks.{ask_comparisons}
use Rattle.rsml_limits.specs.comparisons.Shown.{shown_ask}
use Rattle.rsml_limits.specs.thresholds.Compared.{Group, group_comparisons}
use Rattle.rsml_limits.specs.thresholds.Pairs.{has_inner, pairs}
use Rattle.rsml_limits.proofs.InnerLemmas.{many_thresholds}
use Rattle.rsml_limits.proofs.MemberLemmas.{same_then, same_trans}
use Rattle.rsml_limits.proofs.thresholds.thresholds.count_thresholds.Goals as goal

pub returns : goal.returns
returns c =
    let g = c.args.globals.now in
    let asked = flat_map (ask_comparisons g) (map shown_ask c.args.asks.now) in
    let of_functions = λ (groups : List Group). flat_map pairs (group_comparisons g groups) in
    let before = c.gather.new.table ++ of_functions c.gather.new.functions in
    let start = c.new-table.result ++ of_functions c.new-functions.result in
    let gathered = same_then before (start ++ flat_map pairs asked) (flat_map pairs asked) (c.in_ok-gather.ensures g) (λ i. (c.new-table.ensures i ++ of_functions (c.new-functions.ensures i)) ++ flat_map pairs asked) in
    let same = same_trans c.compare.new.table before (flat_map pairs asked) c.in_ok-compare.ensures gathered in
    IfOk-weaker c.count.result (λ n. n ≡ shown (length (distinct same_threshold (filter (has_inner g) c.compare.new.table)))) (λ n. n ≡ shown (length (distinct same_threshold (flat_map (thresholds g) asked))))
    (λ n e. e ∙ ap shown (many_thresholds g asked c.compare.new.table same)) c.count.ensures
