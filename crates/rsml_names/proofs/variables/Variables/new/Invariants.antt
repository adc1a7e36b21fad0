use Rattle.std.proofs.Common.{◌≡◌, ◌++◌, drop}
use Rattle.rsml_names.specs.Bound.{variables_from}
use Rattle.rsml_names.proofs.variables.Variables.new.Given as goal

abbrev pub invariant-loop-place : goal.invariant-loop-place
invariant-loop-place l = l.variables ++ variables_from l.place (drop l.place l.globals.known) ≡ variables_from 0 l.globals.known
