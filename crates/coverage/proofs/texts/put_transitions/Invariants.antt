use Rattle.std.proofs.Common.{flat_map, map, take, zip}
use Rattle.rsml_meaning.specs.Transitions.{transitions}
use Rattle.text_writer.specs.Writes.{Writes}
use Rattle.coverage.specs.Text.{transition_text}
use Rattle.coverage.proofs.texts.put_transitions.Given as goal

abbrev pub invariant-loop-number : goal.invariant-loop-number
invariant-loop-number g l =
    Writes (g.W.Writer.state l.fn.out) (g.W.Writer.text l.fn.out)
    (flat_map transition_text (take l.number (zip (transitions l.machine.base.spec) (map (λ k. k.tally) l.counters))))
    (g.W.Writer.state l.out) (g.W.Writer.text l.out)
