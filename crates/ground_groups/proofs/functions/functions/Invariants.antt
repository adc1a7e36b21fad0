use Rattle.std.proofs.Common.{◌≡◌, take}
use Rattle.ground_groups.specs.Stored.{function_groups}
use Rattle.ground_groups.proofs.functions.functions.Given as goal

abbrev pub invariant-loop-place : goal.invariant-loop-place
invariant-loop-place l = l.groups.items ≡ function_groups 0 (take l.place l.definitions)
