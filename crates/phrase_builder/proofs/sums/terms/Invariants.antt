use Rattle.std.proofs.Common.{take}
use Rattle.std.specs.List.{AllZip}
use Rattle.rsml_ground.specs.StandsFor.{TermIs}
use Rattle.phrase_builder.proofs.sums.terms.Given as goal

abbrev pub invariant-loop-term : goal.invariant-loop-term
invariant-loop-term l = AllZip (TermIs l.lookup l.here) (take l.term-index l.terms) l.found
