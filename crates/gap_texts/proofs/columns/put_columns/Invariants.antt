use Rattle.std.proofs.Common.{flat_map, take}
use Rattle.rsml_meaning.specs.Words.{numbered}
use Rattle.text_writer.specs.Writes.{Writes}
use Rattle.gap_texts.specs.GapText.{column_text}
use Rattle.gap_texts.proofs.columns.put_columns.Given as goal

abbrev pub invariant-loop-place : goal.invariant-loop-place
invariant-loop-place g l =
    Writes (g.W.Writer.state l.fn.writer) (g.W.Writer.text l.fn.writer)
    (flat_map (column_text l.machine.base.spec) (take l.place (numbered l.columns)))
    (g.W.Writer.state l.writer) (g.W.Writer.text l.writer)
