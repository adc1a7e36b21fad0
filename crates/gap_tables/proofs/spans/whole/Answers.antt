use Rattle.std.proofs.Common.{◌∙◌, w64, SFits, rules}
use Rattle.std.proofs.lemmas.Int.{to_z-of_z}
use Rattle.gap_tables.proofs.spans.whole.Goals as goal

pub returns : goal.returns
returns c = λ i at.
    let low_fits : SFits w64 c.low.result = search rules in
    let high_fits : SFits w64 c.high.result = search rules in
    let low = to_z-of_z w64 c.low.result low_fits ∙ c.low.ensures i at in
    let high = to_z-of_z w64 c.high.result high_fits ∙ c.high.ensures i at in
    λ k. record { low = low k; high = high k }
