use Rattle.std.proofs.Common.{◌≡◌, ◌++◌, drop}
use Rattle.spelled_numbers.specs.Bits.{bits_of}
use Rattle.spelled_numbers.proofs.bits.bits_of.Given as goal

abbrev pub invariant-loop-level : goal.invariant-loop-level
invariant-loop-level l = l.terms.items ++ bits_of l.part l.minus (drop l.level l.slots) l.level ≡ bits_of l.part l.minus l.slots 0
