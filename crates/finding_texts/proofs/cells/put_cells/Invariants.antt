use Rattle.std.proofs.Common.{flat_map, take, zip}
use Rattle.rsml_meaning.specs.Cells.{cells}
use Rattle.rsml_meaning.specs.Report.{cell_line}
use Rattle.text_writer.specs.Writes.{Writes}
use Rattle.finding_texts.proofs.cells.put_cells.Given as goal

abbrev pub invariant-loop-cell : goal.invariant-loop-cell
invariant-loop-cell g l =
    Writes (g.W.Writer.state l.fn.writer) (g.W.Writer.text l.fn.writer)
    (flat_map cell_line (take l.cell (zip (cells l.machine.base.spec) l.numbers)))
    (g.W.Writer.state l.writer) (g.W.Writer.text l.writer)
