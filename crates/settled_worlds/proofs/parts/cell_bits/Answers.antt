use Rattle.std.proofs.Common.{length, ap, arith}
use Rattle.rsml_meaning.specs.Cells.{cells}
use Rattle.settled_worlds.proofs.parts.cell_bits.Goals as goal

pub overflow_add-components : goal.overflow_add-components
overflow_add-components c =
    omega (arith, c.requires, c.components.ensures, c.law.ensures.parts, ap (λ s. length (cells s)) c.layout-layout.ensures.spec)
