use Rattle.std.proofs.Common.{◌≡◌, true, take}
use Rattle.rsml_ground.specs.Truths.{truths_in}
use Rattle.macros.specs.Known.{Knows}
use Rattle.macros.specs.Asked.{column_truth}
use Rattle.micro_step.proofs.asking.each_holds.Given as goal

abbrev pub invariant-loop-literal : goal.invariant-loop-literal
invariant-loop-literal l = record {
  knows : Knows l.machine.base l.world l.memo;
  so_far : column_truth (truths_in l.machine.base l.world) (take l.literal-index l.column) ≡ true;
}
