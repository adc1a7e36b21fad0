use Rattle.std.proofs.Common.{take}
use Rattle.pair_counts.specs.Outside.{HasOutside}
use Rattle.pair_counts.proofs.outside.places_outside.Given as goal

abbrev pub invariant-loop-place : goal.invariant-loop-place
invariant-loop-place l = HasOutside (take l.place l.numbers) l.range l.others
