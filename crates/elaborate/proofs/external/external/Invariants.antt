use Rattle.std.proofs.Common.{take}
use Rattle.rsml_meaning.specs.Interfaces.{receives}
use Rattle.elaborate.proofs.Marked.{AreMarked}
use Rattle.elaborate.proofs.external.external.Given as goal

abbrev pub invariant-loop-receive : goal.invariant-loop-receive
invariant-loop-receive l = AreMarked l.interfaces (take l.receive (receives l.interfaces)) l.marks.items
