use Rattle.bdd_core.specs.Calls.{Keeps}
use Rattle.spelled_numbers.specs.Steps.{AllRight}
use Rattle.spelled_numbers.specs.Waiting.{Leads}
use Rattle.spelled_numbers.proofs.sum_table.SumTable.build.Given as goal

-- what waits leads to the answer
abbrev pub invariant-loop-turn : goal.invariant-loop-turn
invariant-loop-turn l = Keeps l.fn.arena l.arena × AllRight l.arena l.terms l.self × Leads l.arena l.terms l.room l.waiting.items l.answer
