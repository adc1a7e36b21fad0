use Rattle.std.proofs.Common.{flat_map, take}
use Rattle.rsml_meaning.specs.Words.{numbered_from}
use Rattle.text_writer.specs.Writes.{Writes}
use Rattle.coverage.specs.Text.{column_line}
use Rattle.coverage.proofs.texts.put_columns.Given as goal

abbrev pub invariant-loop-place : goal.invariant-loop-place
invariant-loop-place g l =
    Writes (g.W.Writer.state l.fn.out) (g.W.Writer.text l.fn.out) (flat_map column_line (take l.place (numbered_from 0 l.counts)))
    (g.W.Writer.state l.out) (g.W.Writer.text l.out)
