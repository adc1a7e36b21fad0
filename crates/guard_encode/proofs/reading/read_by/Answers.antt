use Rattle.std.proofs.Common.{◌≡◌, ℕ, Bool, List, false, length, slice_index_or, sym, ap, ◌∙◌, subst}
use Rattle.rsml_syntax.specs.declared.syntax.Spec.{Spec}
use Rattle.rsml_meaning.specs.Instances.{components}
use Rattle.rsml_meaning.specs.Cells.{cells}
use Rattle.bdd_core.specs.Calls.{Ignores}
use Rattle.spelled_numbers.specs.declared.slot.Slot.{Slot}
use Rattle.guard_encode.specs.Marking.{AreOfPart}
use Rattle.guard_encode.proofs.MarkLemmas.{all_read}
use Rattle.guard_encode.proofs.reading.read_by.Goals as goal

pub returns : goal.returns
returns c =
    let d = c.args.arena.now in
    let k = c.args.levels.now in
    let used = c.as_slice-used.result.now in
    let many_components = c.components-components.result in
    let many_cells = c.cells-cells.result in
    all_read d k c.args.f many_components many_cells used c.in_ok-choices.choices c.in_ok-cells.cells c.mark_compared.new.cells
    (subst (λ (us : List Bool). (level : ℕ) → slice_index_or us level false ≡ false → Ignores d c.args.f level) (sym c.as_slice-used.ensures.value) c.in_ok-used.ensures)
    (c.components-components.ensures ∙ ap (λ (s : Spec). length (components s)) c.layout-layout.ensures.spec)
    (c.cells-cells.ensures ∙ ap (λ (s : Spec). length (cells s)) c.layout-layout.ensures.spec)
    (subst (λ (slots : List Slot). AreOfPart used slots 0 many_components c.in_ok-choices.choices) c.layout-layout.ensures.slots c.in_ok-choices.ensures)
    (subst (λ (slots : List Slot). AreOfPart used slots many_components many_cells c.in_ok-cells.cells) c.layout-layout.ensures.slots c.in_ok-cells.ensures)
    c.mark_compared.ensures
