use Rattle.std.proofs.Common.{ℕ, List, sym, subst}
use Rattle.demonstrating.specs.Summary.{IsReportOf}
use Rattle.demonstrating.proofs.SummaryLemmas.{report_long, summaries_are}
use Rattle.demonstrating.proofs.demonstrating.summary.Goals as goal

pub judged_plant-requires : goal.judged_plant-requires
judged_plant-requires c = c.demos_are_certified.ensures c.args.units c.requires.some c.requires.few

pub summary_text-requires : goal.summary_text-requires
summary_text-requires c =
    let n = c.args.units in
    let right = subst (λ (t : List ℕ). IsReportOf n t) (sym c.as_slice.ensures.value) c.in_ok-plant.ensures.report in
    report_long c.last_lines_tell_the_verdict.ensures.last_line_is_verdict n c.as_slice.result.now right (c.demos_are_certified.ensures n c.requires.some c.requires.few)

pub returns : goal.returns
returns c =
    let n = c.args.units in
    let right = subst (λ (t : List ℕ). IsReportOf n t) (sym c.as_slice.ensures.value) c.in_ok-plant.ensures.report in
    summaries_are c.last_lines_tell_the_verdict.ensures.last_line_is_verdict n c.as_slice.result.now c.in_ok-counts.counts c.summary_text.result
    (c.demos_are_certified.ensures n c.requires.some c.requires.few) right c.in_ok-counts.ensures c.summary_text.ensures
