use Rattle.std.proofs.Common.{◌≡◌, take}
use Rattle.linear_conflicts.specs.Steps.{places}
use Rattle.linear_conflicts.proofs.conflicts.places_of.Given as goal

abbrev pub invariant-loop-multiplier : goal.invariant-loop-multiplier
invariant-loop-multiplier l = l.found.items ≡ places (take l.multiplier-index l.multipliers)
