use Rattle.guard_encode.specs.Marking.{AreOfPart}
use Rattle.guard_encode.proofs.reading.of_parts.Given as goal

abbrev pub invariant-loop-place : goal.invariant-loop-place
invariant-loop-place l = AreOfPart l.used l.layout.slots l.first l.place l.marks
