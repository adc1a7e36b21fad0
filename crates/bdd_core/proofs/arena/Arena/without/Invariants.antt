use Rattle.bdd_core.specs.Calls.{Keeps}
use Rattle.bdd_core.specs.Steps.{AreRight}
use Rattle.bdd_core.specs.Waiting.{work}
use Rattle.bdd_core.specs.Children.{LeadsTo, IsAny, IsRest}
use Rattle.bdd_core.proofs.arena.Arena.without.Given as goal

-- what waits leads to the answer
abbrev pub invariant-loop-frame : goal.invariant-loop-frame
invariant-loop-frame l = Keeps l.fn.self l.self × LeadsTo IsAny (IsRest l.levels) l.self (l.f, 0, 0) l.waiting.items l.answer × AreRight l.self l.levels l.answers.table.slots.items

abbrev pub decreases-loop-frame : goal.decreases-loop-frame
decreases-loop-frame l = work l.waiting.items
