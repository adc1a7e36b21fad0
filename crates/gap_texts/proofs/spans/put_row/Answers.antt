use Rattle.std.proofs.Common.{[], ℤ, Option, slice_get, ap, ◌∙◌, rules, w64, FitsSigned}
use Rattle.std.specs.Option.{option_map_or}
use Rattle.std.proofs.lemmas.Int.{to_z-of_z}
use Rattle.rsml_meaning.specs.Cells.{InputCell, cells}
use Rattle.rsml_meaning.specs.Texts.{value_text, cell_text}
use Rattle.text_writer.proofs.WritingLemmas.{followed, alike}
use Rattle.gap_texts.proofs.spans.put_row.Goals as goal

pub returns : goal.returns
returns g c = λ d at.
    let small : FitsSigned w64 c.args.number = search rules in
    let cell = alike (ap (λ (o : Option InputCell). option_map_or cell_text o []) at) c.put_cell.ensures in
    let value = alike
    (ap (λ (n : ℤ). option_map_or (λ x. value_text x.numbers.names n) (slice_get (cells c.args.texts.now) c.args.cell) []) (to_z-of_z w64 c.args.number small)
    ∙ ap (λ (o : Option InputCell). option_map_or (λ x. value_text x.numbers.names c.args.number) o []) at)
    c.put_value.ensures in
    followed (followed c.put.ensures (followed cell (followed c.put-2.ensures (followed value c.put-3.ensures)))) c.put_line_end.ensures
