use Rattle.std.proofs.Common.{◌≤◌, length}
use Rattle.rsml_meaning.specs.Cells.{cells}
use Rattle.bdd_core.specs.Diagram.{IsRef}
use Rattle.guard_encode.specs.Encoding.{Keeps}
use Rattle.group_verdicts.specs.Finding.{NarrowedOn}
use Rattle.group_verdicts.proofs.cells.up_to_higher.Given as goal

-- the cells so far have their least numbers
abbrev pub invariant-loop-many : goal.invariant-loop-many
invariant-loop-many l = record {
  keeps : Keeps l.fn.encoder l.encoder;
  is_ref : IsRef l.encoder.diagram l.rest;
  more : length l.fn.numbers ≤ length l.numbers;
  within : length l.numbers ≤ length (cells l.fn.encoder.machine.base.spec);
  on : NarrowedOn l.fn.encoder l.encoder l.read l.fn.numbers l.numbers l.fn.f l.rest;
}

abbrev pub decreases-loop-many : goal.decreases-loop-many
decreases-loop-many l = l.many
