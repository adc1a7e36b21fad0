use Rattle.std.proofs.Common.{◌≡◌, flat_map, take, Some, slice_get}
use Rattle.rsml_meaning.specs.Truth.{view}
use Rattle.rsml_meaning.specs.Groups as meaning
use Rattle.text_writer.specs.Writes.{Writes}
use Rattle.finding_texts.specs.Lines.{line_if_enabled}
use Rattle.finding_texts.proofs.members.put_enabled.Given as goal

abbrev pub invariant-loop-place : goal.invariant-loop-place
invariant-loop-place g l =
    (x : meaning.Group) → slice_get (meaning.groups l.machine.base.spec) l.group ≡ Some x
    → Writes (g.W.Writer.state l.fn.writer) (g.W.Writer.text l.fn.writer)
    (flat_map (line_if_enabled (view l.machine.base.spec l.world)) (take l.place (meaning.members l.machine.base.spec x)))
    (g.W.Writer.state l.writer) (g.W.Writer.text l.writer)
