use Rattle.bdd_core.specs.Calls.{Keeps}
use Rattle.bdd_core.specs.Waiting.{work}
use Rattle.bdd_core.specs.Children.{LeadsTo, IsApart, IsCutAt}
use Rattle.bdd_core.proofs.arena.Arena.cut.Given as goal

-- what waits leads to the answer
abbrev pub invariant-loop-frame : goal.invariant-loop-frame
invariant-loop-frame l = Keeps l.fn.self l.self × LeadsTo (IsApart l.level) (IsCutAt l.level l.value) l.self (l.f, 0, 0) l.waiting.items l.answer

abbrev pub decreases-loop-frame : goal.decreases-loop-frame
decreases-loop-frame l = work l.waiting.items
