use Rattle.std.specs.Int.{int_gap}
use Rattle.bdd_core.specs.Diagram.{IsRef}
use Rattle.guard_encode.specs.Encoding.{Keeps}
use Rattle.group_verdicts.specs.Finding.{Bounded}
use Rattle.group_verdicts.proofs.BoundSteps.{number_in, ToldOfCell}
use Rattle.group_verdicts.proofs.cells.least_by_halving.Given as goal

-- the least number is between the bounds, and what is told of the cell stays told
abbrev pub invariant-loop-low : goal.invariant-loop-low
invariant-loop-low l = record {
  keeps : Keeps l.fn.encoder l.encoder;
  is_ref : IsRef l.encoder.diagram l.told;
  of_cell : ToldOfCell l.fn.encoder l.encoder l.cell l.fn.f l.told;
  bounded : Bounded l.fn.encoder (number_in l.cell) l.low l.high l.fn.f;
}

abbrev pub decreases-loop-low : goal.decreases-loop-low
decreases-loop-low l = int_gap l.low l.high
