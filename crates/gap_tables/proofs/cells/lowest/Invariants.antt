use Rattle.std.specs.Int.{int_gap}
use Rattle.bdd_core.specs.Diagram.{IsRef}
use Rattle.guard_encode.specs.Encoding.{Keeps}
use Rattle.gap_tables.specs.Widening.{LowestEnd}
use Rattle.gap_tables.proofs.cells.lowest.Given as goal

-- the end is between the two
abbrev pub invariant-loop-end : goal.invariant-loop-end
invariant-loop-end l = record {
  keeps : Keeps l.fn.encoder l.encoder;
  told_ref : IsRef l.encoder.diagram l.told;
  between : LowestEnd l.fn.encoder l.cell l.told l.low l.own l.high l.end l.good;
}

abbrev pub decreases-loop-end : goal.decreases-loop-end
decreases-loop-end l = int_gap l.end l.good
