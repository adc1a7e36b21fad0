use Rattle.std.proofs.Common.{◌++◌, List, map, ap, ◌∙◌}
use Rattle.std.specs.Prelude.{flat_map}
use Rattle.std.specs.Global.{Vec}
use Rattle.std.proofs.lemmas.Result.{on_ok_weaker}
use Rattle.rsml_syntax.specs.limits.Comparisons.{GroundSum}
use Rattle.rsml_limits.specs.declared.comparisons.ground_term.GroundTerm.{GroundTerm}
use Rattle.rsml_limits.specs.comparisons.Asks.{case_sums}
use Rattle.rsml_limits.specs.comparisons.Shown.{shown_sum}
use Rattle.rsml_limits.specs.thresholds.Compared.{compared}
use Rattle.rsml_limits.specs.thresholds.Pairs.{pairs}
use Rattle.rsml_limits.specs.thresholds.Shown.{shown_right}
use Rattle.rsml_limits.proofs.MemberLemmas.{same_then}
use Rattle.rsml_limits.proofs.thresholds.functions.compare_function.Goals as goal

pub returns : goal.returns
returns c =
    let f = c.args.function in
    let shown = map (λ (v : Vec GroundTerm). shown_sum v.items) in
    let asked = λ (sums : List GroundSum). c.args.table.now ++ flat_map pairs (compared sums (map shown_right c.args.rights.now)) in
    on_ok_weaker c.compare.result
    (λ put. same_then c.compare.new.table (asked (shown c.as_slice.result.now)) (asked (case_sums c.args.globals.now f.name.now f.at)) put (ap asked (ap shown c.as_slice.ensures.value ∙ c.in_ok-sums.ensures)))
    c.compare.ensures
