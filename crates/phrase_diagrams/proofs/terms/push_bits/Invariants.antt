use Rattle.std.proofs.Common.{◌≡◌, ◌++◌, map, drop}
use Rattle.phrase_diagrams.specs.Signs.{with_sign}
use Rattle.phrase_diagrams.proofs.terms.push_bits.Given as goal

abbrev pub invariant-loop-bit : goal.invariant-loop-bit
invariant-loop-bit l = l.levels.items ++ map (with_sign l.minus) (drop l.bit-index l.bits) ≡ l.initial.levels.items ++ map (with_sign l.minus) l.bits
