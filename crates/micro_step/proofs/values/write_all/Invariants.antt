use Rattle.std.proofs.Common.{map, take}
use Rattle.rsml_meaning.specs.Words.{Each}
use Rattle.macros.specs.Known.{Knows}
use Rattle.micro_step.specs.Numbers.{AreOfCase, HaveRoom}
use Rattle.micro_step.proofs.values.write_all.Given as goal

abbrev pub invariant-loop-case : goal.invariant-loop-case
invariant-loop-case l = record {
  knows : Knows l.machine.base l.world l.memo;
  room : HaveRoom l.machine (map (λ v. v.items) l.values.items);
  numbers : Each (AreOfCase l.machine l.world (map (λ v. v.items) l.values.items)) (take l.case-index l.sent);
}
