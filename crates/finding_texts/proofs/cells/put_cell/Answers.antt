use Rattle.std.proofs.Common.{ℤ, slice_get, ap, ◌∙◌, rules, w64, FitsSigned}
use Rattle.std.proofs.lemmas.Int.{to_z-of_z}
use Rattle.rsml_syntax.specs.declared.syntax.Spec.{Spec}
use Rattle.rsml_meaning.specs.Cells.{cells}
use Rattle.text_writer.proofs.WritingLemmas.{alike, still}
use Rattle.finding_texts.specs.Lines.{held_line}
use Rattle.finding_texts.proofs.CellLines.{other_number, least_number}
use Rattle.finding_texts.proofs.cells.put_cell.Goals as goal

pub returns-then-number-least : goal.returns-then-number-least
returns-then-number-least g c = λ d at.
    let small : FitsSigned w64 c.args.number = search rules in
    let low = c.low-least.ensures d (ap (λ (s : Spec). slice_get (cells s) c.args.cell) c.worlds.ensures ∙ at) in
    let held = c.put_held.ensures d (ap (λ (s : Spec). slice_get (cells s) c.args.cell) c.requires.texts ∙ at) in
    alike (ap (λ (n : ℤ). held_line d n) (to_z-of_z w64 c.args.number small) ∙ other_number d c.args.number c.low-least.result low c.if-number-least.true) held

pub returns-else-number-least : goal.returns-else-number-least
returns-else-number-least g c = λ d at.
    let small : FitsSigned w64 c.args.number = search rules in
    let fits : FitsSigned w64 c.low-least.result = search rules in
    let low = c.low-least.ensures d (ap (λ (s : Spec). slice_get (cells s) c.args.cell) c.worlds.ensures ∙ at) in
    alike (least_number d c.args.number c.low-least.result small fits low c.if-number-least.false) (still (g.W.Writer.state c.args.writer.now) (g.W.Writer.text c.args.writer.now))
