use Rattle.std.proofs.Common.{◌≡◌}
use Rattle.bdd_core.specs.Calls.{Keeps, AddsConjunctions}
use Rattle.bdd_core.specs.Waiting.{Leads, work}
use Rattle.bdd_core.proofs.arena.Arena.choose.Given as goal

-- what waits leads to the answer
abbrev pub invariant-loop-frame : goal.invariant-loop-frame
invariant-loop-frame l = Keeps l.fn.self l.self × Leads l.self (l.f, l.g, l.h) l.waiting.items l.answer × (l.h ≡ 0 → AddsConjunctions l.fn.self l.self l.f l.g)

abbrev pub decreases-loop-frame : goal.decreases-loop-frame
decreases-loop-frame l = work l.waiting.items
