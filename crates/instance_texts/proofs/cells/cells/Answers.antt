use Rattle.std.proofs.Common.{List, flat_map, ap, ◌∙◌}
use Rattle.rsml_syntax.specs.declared.syntax.Decl.{Decl}
use Rattle.instance_texts.specs.declared.sorts.Sort.TheVariants as sorts
use Rattle.instance_texts.specs.Listing.{listed_by}
use Rattle.instance_texts.proofs.InputCellLemmas.{cells_by}
use Rattle.instance_texts.proofs.cells.cells.Goals as goal

pub returns : goal.returns
returns c =
    cells_by c.args.spec.now c.args.globals.now c.in_ok-names.names c.in_ok-inputs.inputs.items c.deref.result.now c.deref-2.result.now c.in_ok-cells.cells.items c.add_previous.new.cells.items
    c.requires.globals c.in_ok-names.ensures
    (c.in_ok-inputs.ensures ∙ ap (λ (ds : List Decl). flat_map (listed_by sorts.Input c.args.globals.now) ds) c.as_slice.ensures)
    c.deref.ensures.value c.deref-2.ensures.value c.in_ok-cells.ensures c.in_ok-add_previous.ensures
