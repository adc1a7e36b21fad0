use Rattle.guard_encode.specs.Encoding.{Keeps}
use Rattle.same_spec.proofs.DifferenceLemmas.{NoneBefore}
use Rattle.same_spec.proofs.difference.first_of.Given as goal

-- no pair so far differs
abbrev pub invariant-loop-place : goal.invariant-loop-place
invariant-loop-place l = record {
  keeps : Keeps l.fn.encoder l.encoder;
  before : NoneBefore l.fn.encoder.machine.base.spec l.two.base.spec l.place;
}
