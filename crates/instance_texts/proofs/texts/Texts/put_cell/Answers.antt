use Rattle.std.proofs.Common.{◌≡◌, ◌<◌, ◌≤◌, map, length, refl, ap, ◌∙◌, arith}
use Rattle.std.proofs.lemmas.Bool.Decides.{nat_tests}
use Rattle.rsml_syntax.specs.declared.syntax.Spec.{Spec}
use Rattle.rsml_meaning.specs.Cells.{cells}
use Rattle.rsml_meaning.specs.Texts.{cell_text}
use Rattle.text_writer.proofs.WritingLemmas.{alike, still}
use Rattle.instance_texts.specs.InputCells.{without_first}
use Rattle.instance_texts.proofs.FoundLemmas.{cell_there, cell_past}
use Rattle.instance_texts.proofs.texts.Texts.put_cell.Goals as goal

pub returns-in-Some : goal.returns-in-Some
returns-in-Some g c =
    let all : c.deref.result.now ≡ map without_first (cells c.args.self.now) = c.deref.ensures.value ∙ c.self.invariant.are_cells ∙ ap (λ (s : Spec). map without_first (cells s)) c.self.view_is in
    let within : c.args.number < length c.deref.result.now = let b = c.in-Some.ensures.lookup.0 in grind (arith, nat_tests, b) in
    alike (cell_there cell_text (λ d. refl) (cells c.args.self.now) c.deref.result.now c.args.number c.in-Some.cell.now all within c.in-Some.ensures.lookup.1) c.put.ensures

pub returns-in-None : goal.returns-in-None
returns-in-None g c =
    let all : c.deref.result.now ≡ map without_first (cells c.args.self.now) = c.deref.ensures.value ∙ c.self.invariant.are_cells ∙ ap (λ (s : Spec). map without_first (cells s)) c.self.view_is in
    let past : length c.deref.result.now ≤ c.args.number = let b = c.in-None.ensures.lookup in grind (arith, nat_tests, b) in
    alike (cell_past cell_text (cells c.args.self.now) c.deref.result.now c.args.number all past) (still (g.W.Writer.state c.args.writer.now) (g.W.Writer.text c.args.writer.now))
