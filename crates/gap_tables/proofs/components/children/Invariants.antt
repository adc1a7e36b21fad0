use Rattle.std.proofs.Common.{◌≡◌, length}
use Rattle.bdd_core.specs.Diagram.{IsRef}
use Rattle.guard_encode.specs.Encoding.{Keeps}
use Rattle.gap_tables.specs.Widening.{ChildrenFound}
use Rattle.gap_tables.proofs.components.children.Given as goal

-- the children so far
abbrev pub invariant-loop-place : goal.invariant-loop-place
invariant-loop-place l = record {
  keeps : Keeps l.fn.encoder l.encoder;
  inside_ref : IsRef l.encoder.diagram l.inside;
  many : length l.children ≡ l.place;
  found : ChildrenFound l.fn.encoder l.encoder l.read l.world l.others l.children l.inside;
}
