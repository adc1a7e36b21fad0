use Rattle.std.proofs.Common.{◌≡◌, map, take}
use Rattle.macros.specs.Pairs.{pair_of}
use Rattle.macros.proofs.pairs.pairs_of.Given as goal

abbrev pub invariant-loop-number : goal.invariant-loop-number
invariant-loop-number l = l.pairs.items ≡ map pair_of (take l.number l.phrases)
