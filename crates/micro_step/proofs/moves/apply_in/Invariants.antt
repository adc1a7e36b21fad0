use Rattle.std.proofs.Common.{◌≡◌, length, fold, drop}
use Rattle.rsml_meaning.specs.Instances.{components}
use Rattle.micro_step.specs.Numbers.{after_number, picked}
use Rattle.micro_step.proofs.moves.apply_in.Given as goal

abbrev pub invariant-loop-place : goal.invariant-loop-place
invariant-loop-place l = record {
  fit : length l.world.choices ≡ length (components l.machine.base.spec);
  cells : l.world.cells ≡ l.fn.world.cells;
  whole : fold (after_number l.machine) l.world.choices (picked l.taken (drop l.place-index l.order)) ≡ fold (after_number l.machine) l.fn.world.choices (picked l.taken l.order);
}
