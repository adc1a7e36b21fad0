use Rattle.std.proofs.Common.{unwrap_or, ap, ◌∙◌}
use Rattle.std.proofs.lemmas.Option.{unwrap_or-slice_get}
use Rattle.rsml_syntax.specs.declared.syntax.Cell.TheVariants as cells
use Rattle.invariants.proofs.tables.cell_at.Goals as goal

pub returns : goal.returns
returns c =
    c.unwrap_or.ensures ∙ ap (λ o. unwrap_or o cells.Dot) (c.copied.ensures ∙ c.get.ensures) ∙ unwrap_or-slice_get c.args.row.now.cells c.args.place cells.Dot
