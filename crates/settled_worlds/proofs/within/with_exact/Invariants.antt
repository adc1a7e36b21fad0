use Rattle.bdd_core.specs.Calls.{Keeps}
use Rattle.settled_worlds.specs.Settled.{AreExact, IsSameLawfully}
use Rattle.settled_worlds.proofs.within.with_exact.Given as goal

-- with some comparisons exact the function is what it was at lawful values
abbrev pub invariant-loop-place : goal.invariant-loop-place
invariant-loop-place l = record {
  keeps : Keeps l.fn.arena l.arena;
  exact : AreExact l.arena l.fn.levels l.exact;
  same : IsSameLawfully l.fn.arena l.arena l.fn.levels l.fn.f l.out;
}
