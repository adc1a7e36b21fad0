use Rattle.std.proofs.Common.{◌≡◌, false, map, take}
use Rattle.rsml_ground.specs.Truths.{truths_in}
use Rattle.macros.specs.Known.{Knows}
use Rattle.macros.specs.Asked.{columns_truth}
use Rattle.micro_step.proofs.asking.some_column_holds.Given as goal

abbrev pub invariant-loop-column : goal.invariant-loop-column
invariant-loop-column l = record {
  knows : Knows l.machine.base l.world l.memo;
  so_far : columns_truth (truths_in l.machine.base l.world) (map (λ c. c.items) (take l.column-index l.columns)) ≡ false;
}
