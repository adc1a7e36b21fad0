use Rattle.std.proofs.Common.{ℕ, List, ℤ, flat_map, zip, ap, ◌∙◌}
use Rattle.rsml_syntax.specs.declared.syntax.Spec.{Spec}
use Rattle.rsml_meaning.specs.Instances.{components}
use Rattle.rsml_meaning.specs.Cells.{cells}
use Rattle.rsml_meaning.specs.Report.{choice_line, cell_line}
use Rattle.text_writer.proofs.WritingLemmas.{followed, alike}
use Rattle.finding_texts.proofs.found.put_world.Goals as goal

pub returns : goal.returns
returns g c =
    let s = c.args.machine.now.base.spec in
    followed
    (alike (ap (λ (t : Spec). flat_map choice_line (zip (components t) c.as_slice.result.now)) c.tree.ensures ∙ ap (λ (ns : List ℕ). flat_map choice_line (zip (components s) ns)) c.as_slice.ensures) c.put_choices.ensures)
    (alike (ap (λ (ns : List ℤ). flat_map cell_line (zip (cells s) ns)) c.as_slice-2.ensures) c.put_cells.ensures)
