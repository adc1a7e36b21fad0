use Rattle.std.proofs.Common.{take}
use Rattle.std.specs.List.{AllZip}
use Rattle.coverage.specs.Counters.{IsNew, ground_cells}
use Rattle.coverage.proofs.counts.of_cases.Given as goal

abbrev pub invariant-loop-number : goal.invariant-loop-number
invariant-loop-number l = AllZip (λ x c. IsNew (ground_cells x.guard) c) (take l.number l.machine.send_cases) l.counters.items
