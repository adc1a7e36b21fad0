use Rattle.std.proofs.Common.{map, ap, ◌∙◌, arith}
use Rattle.rsml_syntax.specs.declared.syntax.Spec.{Spec}
use Rattle.rsml_meaning.specs.Cells.{cells}
use Rattle.worlds.specs.Ends.{ends_of}
use Rattle.worlds.proofs.Cells.{as_many}
use Rattle.worlds.proofs.worlds.Worlds.cells.Goals as goal

pub returns : goal.returns
returns c =
    let many = as_many (cells c.args.self.now) c.self.inside.ends.items (c.self.invariant.cells_are ∙ ap (λ (s : Spec). map ends_of (cells s)) c.self.view_is) in
    omega (arith, many, c.len.ensures)
