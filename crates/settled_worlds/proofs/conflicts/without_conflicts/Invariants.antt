use Rattle.bdd_core.specs.Calls.{Keeps}
use Rattle.settled_worlds.specs.Settled.{IsSameLawfully}
use Rattle.settled_worlds.proofs.conflicts.without_conflicts.Given as goal

-- with some values taken off the function is what it was at lawful values
abbrev pub invariant-loop-turn : goal.invariant-loop-turn
invariant-loop-turn l = record {
  keeps : Keeps l.fn.arena l.arena;
  same : IsSameLawfully l.fn.arena l.arena l.fn.levels l.fn.f l.rest;
}
