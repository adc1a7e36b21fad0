use Rattle.world_levels.specs.Spans.{AreSpans}
use Rattle.world_levels.proofs.spans.spans.Given as goal

abbrev pub invariant-loop-part : goal.invariant-loop-part
invariant-loop-part l = AreSpans l.worlds l.part l.spans.items
