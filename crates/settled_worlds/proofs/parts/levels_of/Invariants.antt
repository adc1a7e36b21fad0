use Rattle.std.proofs.Common.{◌≡◌, ◌++◌, map, drop}
use Rattle.settled_worlds.proofs.parts.levels_of.Given as goal

abbrev pub invariant-loop-bit : goal.invariant-loop-bit
invariant-loop-bit l = l.levels.items ++ map (λ t. t.level) (drop l.bit-index l.bits) ≡ map (λ t. t.level) l.bits
