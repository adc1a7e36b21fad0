use Rattle.std.proofs.Common.{◌≡◌, length, map, take}
use Rattle.std.specs.List.{AllZip}
use Rattle.micro_step.specs.Numbers.{values_of}
use Rattle.micro_step.proofs.scratch.room.Given as goal

abbrev pub invariant-loop-case : goal.invariant-loop-case
invariant-loop-case l = AllZip (λ x ns. length ns ≡ length (values_of x.answer)) (take l.case l.machine.send_cases) (map (λ v. v.items) l.values.items)
