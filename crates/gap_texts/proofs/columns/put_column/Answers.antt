use Rattle.std.proofs.Common.{ℕ, List, Option, flat_map, zip, ap, ◌∙◌}
use Rattle.rsml_syntax.specs.declared.syntax.Spec.{Spec}
use Rattle.rsml_meaning.specs.Instances.{components}
use Rattle.rsml_meaning.specs.Cells.{cells}
use Rattle.world_columns.specs.declared.column.Span.{Span}
use Rattle.text_writer.proofs.WritingLemmas.{followed, alike}
use Rattle.gap_texts.specs.GapText.{choice_row, span_rows}
use Rattle.gap_texts.proofs.columns.put_column.Goals as goal

pub returns : goal.returns
returns g c =
    let s = c.args.machine.now.base.spec in
    followed c.put_head.ensures
    (followed
    (alike (ap (λ (t : Spec). flat_map choice_row (zip (components t) c.as_slice.result.now)) c.tree.ensures
    ∙ ap (λ (xs : List (Option ℕ)). flat_map choice_row (zip (components s) xs)) c.as_slice.ensures) c.put_choices.ensures)
    (alike (ap (λ (xs : List Span). flat_map span_rows (zip (cells s) xs)) c.as_slice-2.ensures) c.put_spans.ensures))
