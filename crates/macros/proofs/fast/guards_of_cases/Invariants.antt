use Rattle.std.proofs.Common.{◌≡◌, map, take}
use Rattle.macros.proofs.fast.guards_of_cases.Given as goal

abbrev pub invariant-loop-case : goal.invariant-loop-case
invariant-loop-case l = l.guards ≡ map (λ c. c.guard) (take l.case-index l.cases)
