use Rattle.std.proofs.Common.{◌≡◌, ◌≤◌, length, filter, take}
use Rattle.run_counts.specs.Ready.{moves_at}
use Rattle.run_counts.proofs.moves.moves_among.Given as goal

abbrev pub invariant-loop-transition : goal.invariant-loop-transition
invariant-loop-transition l = record {
  counted : l.moves ≡ length (filter (moves_at l.machine) (take l.transition-index l.taken));
  few : l.moves ≤ l.transition-index;
}
