use Rattle.std.proofs.Common.{◌≡◌, slice_get, ap, ◌∙◌, rules, w64, FitsSigned, to_z, of_z}
use Rattle.std.specs.Prelude.{codes}
use Rattle.std.proofs.lemmas.Int.{to_z-of_z}
use Rattle.rsml_syntax.specs.declared.syntax.Spec.{Spec}
use Rattle.rsml_meaning.specs.Cells.{cells}
use Rattle.text_writer.proofs.WritingLemmas.{followed, alike}
use Rattle.gap_texts.specs.GapText.{end_row, end_rows, one_row}
use Rattle.gap_texts.proofs.RowLemmas.{like, unlike}
use Rattle.gap_texts.proofs.spans.put_span.Goals as goal

pub returns-then-low-high : goal.returns-then-low-high
returns-then-low-high g c = λ d at.
    let x = c.args.span.now in
    let low : FitsSigned w64 x.low = search rules in
    let high : FitsSigned w64 x.high = search rules in
    let small : FitsSigned w64 c.low-least.result = search rules in
    let great : FitsSigned w64 c.high-greatest.result = search rules in
    let here = ap (λ (s : Spec). slice_get (cells s) c.args.cell) c.requires.texts ∙ at in
    let least = c.low-least.ensures d (ap (λ (s : Spec). slice_get (cells s) c.args.cell) c.worlds.ensures ∙ at) in
    let greatest = c.high-greatest.ensures d (ap (λ (s : Spec). slice_get (cells s) c.args.cell) c.worlds-2.ensures ∙ at) in
    let from : end_row d (codes " >= ") (to_z w64 (of_z w64 x.low)) (to_z w64 (of_z w64 c.low-least.result)) ≡ end_row d (codes " >= ") x.low d.numbers.low =
    λ i. end_row d (codes " >= ") (to_z-of_z w64 x.low low i) ((to_z-of_z w64 c.low-least.result small ∙ least) i) in
    let to : end_row d (codes " <= ") (to_z w64 (of_z w64 x.high)) (to_z w64 (of_z w64 c.high-greatest.result)) ≡ end_row d (codes " <= ") x.high d.numbers.high =
    λ i. end_row d (codes " <= ") (to_z-of_z w64 x.high high i) ((to_z-of_z w64 c.high-greatest.result great ∙ greatest) i) in
    alike (unlike x.low x.high (one_row d x.low d.numbers.low d.numbers.high) (end_rows d x) c.if-low-high.true)
    (followed (alike from (c.put_end.ensures d here)) (alike to (c.put_end-then-low-high.ensures d here)))

pub returns-else-low-high : goal.returns-else-low-high
returns-else-low-high g c = λ d at.
    let x = c.args.span.now in
    let low : FitsSigned w64 x.low = search rules in
    let high : FitsSigned w64 x.high = search rules in
    let small : FitsSigned w64 c.low-least.result = search rules in
    let great : FitsSigned w64 c.high-greatest.result = search rules in
    let here = ap (λ (s : Spec). slice_get (cells s) c.args.cell) c.requires.texts ∙ at in
    let least = c.low-least.ensures d (ap (λ (s : Spec). slice_get (cells s) c.args.cell) c.worlds.ensures ∙ at) in
    let greatest = c.high-greatest.ensures d (ap (λ (s : Spec). slice_get (cells s) c.args.cell) c.worlds-2.ensures ∙ at) in
    let same : one_row d (to_z w64 (of_z w64 x.low)) (to_z w64 (of_z w64 c.low-least.result)) (to_z w64 (of_z w64 c.high-greatest.result))
    ≡ one_row d x.low d.numbers.low d.numbers.high =
    λ i. one_row d (to_z-of_z w64 x.low low i) ((to_z-of_z w64 c.low-least.result small ∙ least) i) ((to_z-of_z w64 c.high-greatest.result great ∙ greatest) i) in
    alike (same ∙ like x.low x.high (one_row d x.low d.numbers.low d.numbers.high) (end_rows d x) low high c.if-low-high.false) (c.put_one.ensures d here)
