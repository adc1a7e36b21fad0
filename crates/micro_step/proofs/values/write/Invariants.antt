use Rattle.std.proofs.Common.{◌≡◌, length, map, take}
use Rattle.macros.specs.Known.{Knows}
use Rattle.micro_step.specs.Numbers.{value_number}
use Rattle.micro_step.proofs.values.write.Given as goal

abbrev pub invariant-loop-place : goal.invariant-loop-place
invariant-loop-place l = record {
  room : length l.numbers.items ≡ length l.values;
  knows : Knows l.machine.base l.world l.memo;
  written : take l.place l.numbers.items ≡ map (value_number l.machine l.world) (take l.place l.values);
}
