use Rattle.std.proofs.Common.{◌≡◌, map, take}
use Rattle.ground_members.specs.This as spec
use Rattle.ground_members.proofs.this.cases_with_this.Given as goal

abbrev pub invariant-loop-case : goal.invariant-loop-case
invariant-loop-case l = l.these.items ≡ map spec.case_has_this (take l.case-index l.cases)
