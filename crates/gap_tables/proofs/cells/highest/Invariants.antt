use Rattle.std.specs.Int.{int_gap}
use Rattle.bdd_core.specs.Diagram.{IsRef}
use Rattle.guard_encode.specs.Encoding.{Keeps}
use Rattle.gap_tables.specs.Widening.{HighestEnd}
use Rattle.gap_tables.proofs.cells.highest.Given as goal

-- the end is between the two
abbrev pub invariant-loop-good : goal.invariant-loop-good
invariant-loop-good l = record {
  keeps : Keeps l.fn.encoder l.encoder;
  told_ref : IsRef l.encoder.diagram l.told;
  between : HighestEnd l.fn.encoder l.cell l.told l.own l.high l.good l.end;
}

abbrev pub decreases-loop-good : goal.decreases-loop-good
decreases-loop-good l = int_gap l.good l.end
