use Rattle.bdd_core.specs.Calls.{Keeps}
use Rattle.settled_worlds.specs.Settled.{AreExact}
use Rattle.settled_worlds.specs.Steps.{all_but, IsSwept}
use Rattle.settled_worlds.proofs.sweeping.sweep_cells.Given as goal

abbrev pub invariant-loop-turn : goal.invariant-loop-turn
invariant-loop-turn l = record {
  keeps : Keeps l.fn.arena l.arena;
  exact : AreExact l.arena l.fn.levels l.exact;
  swept : IsSwept l.fn.levels (all_but l.fn.levels l.fn.kept) l.fn.arena l.arena l.fn.left.items l.left.items l.fn.f l.out;
}
