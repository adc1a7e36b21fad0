use Rattle.std.proofs.Common.{◌≡◌, ℕ, ◌<◌, false, get_or}
use Rattle.bdd_core.specs.Diagram.{IsRef, meaning}
use Rattle.bdd_core.specs.Calls.{Keeps}
use Rattle.free_levels.specs.Keys.{Keys, AreKeys, AreExact}
use Rattle.free_levels.specs.Stages.{is_left, FewerLeft, IsStage}
use Rattle.free_levels.proofs.stages.sweep.Given as goal

abbrev pub invariant-loop-place : goal.invariant-loop-place
invariant-loop-place l = record {
  keeps : Keeps l.fn.arena l.arena;
  is_ref : IsRef l.arena l.out;
  named : l.place-items ≡ l.fn.cell.keys.items;
  fewer : FewerLeft l.fn.left.items l.left.items;
  stage : (all : Keys) → AreKeys all → AreExact l.fn.arena all l.fn.keys → IsStage all (λ level. false) l.fn.left.items l.left.items (meaning l.fn.arena l.fn.f) (meaning l.arena l.out);
  done : (k : ℕ) → k < l.place-index → is_left l.left.items (get_or l.fn.cell.keys.items k 0) ≡ false;
}
