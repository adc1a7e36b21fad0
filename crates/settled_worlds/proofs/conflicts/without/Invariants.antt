use Rattle.std.proofs.Common.{◌≡◌, ℕ, Bool, false}
use Rattle.bdd_core.specs.Diagram.{IsRef, meaning}
use Rattle.bdd_core.specs.Calls.{Keeps}
use Rattle.settled_worlds.proofs.ConflictLemmas.{HaveFirst}
use Rattle.settled_worlds.proofs.conflicts.without.Given as goal

-- false only where the first literals have their values
abbrev pub invariant-loop-place : goal.invariant-loop-place
invariant-loop-place l = record {
  keeps : Keeps l.fn.arena l.arena;
  is_ref : IsRef l.arena l.out;
  first : (values : ℕ → Bool) → meaning l.arena l.out values ≡ false → HaveFirst l.levels l.literals l.places l.place-index values;
}
