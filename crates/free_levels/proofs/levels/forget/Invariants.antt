use Rattle.std.proofs.Common.{ℕ, Bool, ◌↔◌, drop}
use Rattle.bdd_core.specs.Diagram.{IsRef, meaning}
use Rattle.bdd_core.specs.Calls.{Keeps}
use Rattle.free_levels.specs.Values.{TrueOff}
use Rattle.free_levels.proofs.levels.forget.Given as goal

abbrev pub invariant-loop-level : goal.invariant-loop-level
invariant-loop-level l = record {
  keeps : Keeps l.fn.arena l.arena;
  is_ref : IsRef l.arena l.out;
  same : (values : ℕ → Bool) → TrueOff (meaning l.arena l.out) (drop l.level-index l.levels) values ↔ TrueOff (meaning l.fn.arena l.fn.f) l.levels values;
}
