use Rattle.bdd_core.specs.Diagram.{IsRef}
use Rattle.guard_encode.specs.Encoding.{Keeps}
use Rattle.invariants.proofs.TurningLemmas.{AndFront}
use Rattle.invariants.proofs.asking.and_all.Given as goal

-- where one is true, and the first of the others
abbrev pub invariant-loop-other : goal.invariant-loop-other
invariant-loop-other l = record {
  keeps : Keeps l.fn.encoder l.encoder;
  is_ref : IsRef l.encoder.diagram l.all;
  told : AndFront l.fn.encoder l.encoder l.fn.one l.others l.other-index l.all;
}
