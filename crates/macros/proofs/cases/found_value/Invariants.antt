use Rattle.std.proofs.Common.{◌≡◌, drop}
use Rattle.std.specs.List.{find}
use Rattle.rsml_ground.specs.Truths.{case_values}
use Rattle.macros.specs.Sought.{is_sought}
use Rattle.macros.proofs.cases.found_value.Given as goal

-- no case before this place has a true guard and a value that is sought
abbrev pub invariant-loop-place : goal.invariant-loop-place
invariant-loop-place l = find (is_sought l.sought) (case_values l.cells l.truths (drop l.place l.cases)) ≡ find (is_sought l.sought) (case_values l.cells l.truths l.cases)
