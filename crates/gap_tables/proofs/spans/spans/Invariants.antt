use Rattle.std.proofs.Common.{◌≡◌, ℕ, List, Option, length}
use Rattle.bdd_core.specs.Diagram.{IsRef}
use Rattle.guard_encode.specs.Encoding.{Grows}
use Rattle.gap_tables.specs.Widening.{SpansFound}
use Rattle.gap_tables.proofs.spans.spans.Given as goal

-- the spans so far
abbrev pub invariant-loop-place : goal.invariant-loop-place
invariant-loop-place l = record {
  keeps : Grows l.fn.encoder l.encoder;
  inside_ref : IsRef l.encoder.diagram l.inside;
  many : length l.spans ≡ l.place;
  found : (children : List (Option ℕ)) → length children ≡ length l.world.choices → SpansFound l.fn.encoder l.encoder l.read l.world l.others children l.fn.first l.spans l.inside;
}
