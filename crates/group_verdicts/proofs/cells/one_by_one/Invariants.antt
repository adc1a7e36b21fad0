use Rattle.std.proofs.Common.{◌≡◌, length}
use Rattle.bdd_core.specs.Diagram.{IsRef}
use Rattle.guard_encode.specs.Encoding.{Keeps}
use Rattle.group_verdicts.specs.Finding.{NarrowedOn}
use Rattle.group_verdicts.proofs.cells.one_by_one.Given as goal

-- the cells so far have their least numbers
abbrev pub invariant-loop-place : goal.invariant-loop-place
invariant-loop-place l = record {
  keeps : Keeps l.fn.encoder l.encoder;
  is_ref : IsRef l.encoder.diagram l.rest;
  many : length l.numbers ≡ l.place;
  on : NarrowedOn l.fn.encoder l.encoder l.read l.fn.numbers l.numbers l.fn.f l.rest;
}
