use Rattle.std.proofs.Common.{◌≡◌, ap, ◌∙◌, rules, w64, FitsSigned, to_z, of_z}
use Rattle.std.specs.Prelude.{codes}
use Rattle.std.proofs.lemmas.Int.{to_z-of_z}
use Rattle.text_writer.proofs.WritingLemmas.{alike}
use Rattle.gap_texts.specs.GapText.{cell_row, end_row}
use Rattle.gap_texts.proofs.RowLemmas.{like, unlike}
use Rattle.gap_texts.proofs.spans.put_one.Goals as goal

pub returns-then-number-low : goal.returns-then-number-low
returns-then-number-low g c = λ d at.
    let n = c.args.number in
    let small : FitsSigned w64 n = search rules in
    let row = cell_row d (codes " = ") in
    alike (ap row (to_z-of_z w64 n small) ∙ unlike n c.args.low (end_row d (codes " = ") n c.args.high) (row n) c.if-number-low.true) (c.put_row.ensures d at)

pub returns-else-number-low : goal.returns-else-number-low
returns-else-number-low g c = λ d at.
    let n = c.args.number in
    let small : FitsSigned w64 n = search rules in
    let least : FitsSigned w64 c.args.low = search rules in
    let greatest : FitsSigned w64 c.args.high = search rules in
    let row = end_row d (codes " = ") in
    let same : row (to_z w64 (of_z w64 n)) (to_z w64 (of_z w64 c.args.high)) ≡ row n c.args.high =
    λ i. row (to_z-of_z w64 n small i) (to_z-of_z w64 c.args.high greatest i) in
    alike (same ∙ like n c.args.low (row n c.args.high) (cell_row d (codes " = ") n) small least c.if-number-low.false) (c.put_end.ensures d at)
