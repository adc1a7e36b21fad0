use Rattle.std.proofs.Common.{flat_map, take, zip}
use Rattle.rsml_meaning.specs.Cells.{cells}
use Rattle.text_writer.specs.Writes.{Writes}
use Rattle.gap_texts.specs.GapText.{span_rows}
use Rattle.gap_texts.proofs.spans.put_spans.Given as goal

abbrev pub invariant-loop-cell : goal.invariant-loop-cell
invariant-loop-cell g l =
    Writes (g.W.Writer.state l.fn.writer) (g.W.Writer.text l.fn.writer)
    (flat_map span_rows (take l.cell (zip (cells l.machine.base.spec) l.spans)))
    (g.W.Writer.state l.writer) (g.W.Writer.text l.writer)
