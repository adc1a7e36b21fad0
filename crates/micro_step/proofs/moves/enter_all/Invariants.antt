use Rattle.std.proofs.Common.{◌≡◌, length, fold, drop}
use Rattle.rsml_meaning.specs.Instances.{components}
use Rattle.micro_step.specs.Numbers.{after_number}
use Rattle.micro_step.proofs.moves.enter_all.Given as goal

abbrev pub invariant-loop-transition : goal.invariant-loop-transition
invariant-loop-transition l = record {
  fit : length l.choices ≡ length (components l.machine.base.spec);
  whole : fold (after_number l.machine) l.choices (drop l.transition-index l.taken) ≡ fold (after_number l.machine) l.fn.choices l.taken;
}
