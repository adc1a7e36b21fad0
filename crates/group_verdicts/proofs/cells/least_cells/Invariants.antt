use Rattle.std.proofs.Common.{◌-◌, ◌<◌, ◌≤◌, length}
use Rattle.rsml_meaning.specs.Cells.{cells}
use Rattle.bdd_core.specs.Diagram.{IsRef}
use Rattle.guard_encode.specs.Encoding.{Keeps}
use Rattle.group_verdicts.specs.Finding.{NarrowedTo}
use Rattle.group_verdicts.proofs.cells.least_cells.Given as goal

-- the cells so far have their least numbers
abbrev pub invariant-loop-alloc : goal.invariant-loop-alloc
invariant-loop-alloc l = record {
  keeps : Keeps l.fn.encoder l.encoder;
  is_ref : IsRef l.encoder.diagram l.rest;
  some : 0 < l.many;
  within : length l.numbers ≤ length (cells l.fn.encoder.machine.base.spec);
  narrowed : NarrowedTo l.fn.encoder l.encoder l.read l.numbers l.fn.f l.rest;
}

abbrev pub decreases-loop-alloc : goal.decreases-loop-alloc
decreases-loop-alloc l = length (cells l.fn.encoder.machine.base.spec) - length l.numbers
