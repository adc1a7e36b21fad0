use Rattle.std.proofs.Common.{flat_map, take}
use Rattle.rsml_meaning.specs.Words.{numbered_from}
use Rattle.text_writer.specs.Writes.{Writes}
use Rattle.reactions.specs.Lines.{field_at}
use Rattle.reactions.proofs.fields.put_fields.Given as goal

abbrev pub invariant-loop-place : goal.invariant-loop-place
invariant-loop-place g l =
    Writes (g.W.Writer.state l.fn.writer) (g.W.Writer.text l.fn.writer) (flat_map (field_at l.sent l.case) (take l.place (numbered_from 0 l.numbers))) (g.W.Writer.state l.writer) (g.W.Writer.text l.writer)
