use Rattle.std.proofs.Common.{◌+◌, false, length, sym, ap, ◌∙◌, arith}
use Rattle.rsml_meaning.specs.Cells.{cells}
use Rattle.spelled_numbers.specs.Bits.{bits_of}
use Rattle.world_levels.specs.Spelling.{cell_part}
use Rattle.phrase_diagrams.proofs.TellLemmas.{part_levels, part_small}
use Rattle.guard_encode.proofs.fixing.spelled_in.Goals as goal

pub overflow_add-components : goal.overflow_add-components
overflow_add-components c =
    omega (arith, c.requires.cell, c.components.ensures, c.law.ensures.parts, ap (λ s. length (cells s)) c.layout-layout.ensures.spec)

pub spelled-requires-clause-levels : goal.spelled-requires-clause-levels
spelled-requires-clause-levels c =
    let l = c.layout-layout.result.now in
    part_levels c.args.arena.now (cell_part l.spec c.args.cell) l.slots c.bits-bits.result.now
    (c.bits-bits.ensures ∙ ap (λ n. bits_of (n + c.args.cell) false l.slots 0) c.components.ensures)
    (c.requires.room ∙ ap length (sym c.layout-layout.ensures.slots))

pub spelled-requires-clause-small : goal.spelled-requires-clause-small
spelled-requires-clause-small c =
    let l = c.layout-layout.result.now in
    part_small (cell_part l.spec c.args.cell) l.slots c.bits-bits.result.now
    (c.bits-bits.ensures ∙ ap (λ n. bits_of (n + c.args.cell) false l.slots 0) c.components.ensures)
    (c.law.ensures.small (cell_part l.spec c.args.cell))
