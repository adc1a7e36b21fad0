use Rattle.std.proofs.Common.{◌≡◌, ℕ, ◌<◌, true}
use Rattle.bdd_core.specs.Calls.{Keeps}
use Rattle.free_levels.specs.Stages.{is_left}
use Rattle.settled_worlds.specs.Settled.{AreExact}
use Rattle.settled_worlds.specs.Steps.{no_levels, IsSwept, IsUnread}
use Rattle.settled_worlds.proofs.sweeping.sweep_cell.Given as goal

abbrev pub invariant-loop-place : goal.invariant-loop-place
invariant-loop-place l = record {
  keeps : Keeps l.fn.arena l.arena;
  exact : AreExact l.arena l.fn.levels l.exact;
  swept : IsSwept l.fn.levels no_levels l.fn.arena l.arena l.fn.left.items l.left.items l.fn.f l.out;
  done : (i : ℕ) → i < l.place → is_left l.left.items i ≡ true → IsUnread l.fn.levels l.fn.cell i;
}
