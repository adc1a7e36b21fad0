use Rattle.bdd_core.specs.Diagram.{IsRef}
use Rattle.guard_encode.specs.Encoding.{Keeps}
use Rattle.group_verdicts.specs.Finding.{TellsLeast}
use Rattle.group_verdicts.proofs.blocks.low_test.Given as goal

-- the test tells of the cells so far
abbrev pub invariant-loop-place : goal.invariant-loop-place
invariant-loop-place l = record {
  keeps : Keeps l.fn.encoder l.encoder;
  is_ref : IsRef l.encoder.diagram l.test;
  told : TellsLeast l.encoder l.read l.from l.place l.test;
}
