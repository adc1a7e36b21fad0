use Rattle.guard_encode.specs.Encoding.{Keeps}
use Rattle.invariants.specs.Told.{TellsOf}
use Rattle.invariants.proofs.TurningLemmas.{front_false}
use Rattle.invariants.proofs.asking.turning.Given as goal

-- where one of the first claims turns false
abbrev pub invariant-loop-place : goal.invariant-loop-place
invariant-loop-place l = record {
  keeps : Keeps l.fn.encoder l.encoder;
  told : TellsOf l.machine.base.spec l.encoder (front_false l.machine l.claims l.moves l.place) l.some;
}
