use Rattle.std.proofs.Common.{◌≡◌, ◌≤◌, length, drop, map}
use Rattle.and_or_tables.specs.Ground.{known}
use Rattle.rsml_ground.specs.Truths.{truths_in}
use Rattle.macros.specs.Known.{Knows}
use Rattle.micro_step.specs.Rows.{bits_of}
use Rattle.micro_step.proofs.rows.row_bits.Given as goal

-- the truths of the rows from k on
abbrev pub invariant-loop-k : goal.invariant-loop-k
invariant-loop-k l = record {
  within : l.k ≤ length l.rows;
  bits : l.bits ≡ bits_of (map (λ row. known (truths_in l.machine.base l.world) row.phrase) (drop l.k l.rows));
  knows : Knows l.machine.base l.world l.memo;
}

abbrev pub decreases-loop-k : goal.decreases-loop-k
decreases-loop-k l = l.k
