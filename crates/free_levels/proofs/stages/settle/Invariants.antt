use Rattle.std.proofs.Common.{◌≡◌, ℕ, ◌<◌, true, false, length, replicate, All}
use Rattle.bdd_core.specs.Diagram.{IsRef, meaning}
use Rattle.bdd_core.specs.Calls.{Keeps}
use Rattle.free_levels.specs.Keys.{Keys, AreKeys, AreExact, IsCell, levels_of}
use Rattle.free_levels.specs.Stages.{is_left, IsStage}
use Rattle.free_levels.proofs.stages.settle.Given as goal

abbrev pub invariant-loop-cell : goal.invariant-loop-cell
invariant-loop-cell l = record {
  keeps : Keeps l.fn.arena l.arena;
  is_ref : IsRef l.arena l.out;
  len : length l.left.items ≡ length l.fn.keys;
  stage : (all : Keys) → AreKeys all → AreExact l.fn.arena all l.fn.keys → All (IsCell all) l.fn.cells
      → IsStage all (levels_of l.fn.cells) (replicate (length l.fn.keys) true) l.left.items (meaning l.fn.arena l.fn.f) (meaning l.arena l.out);
}

abbrev pub invariant-loop-place : goal.invariant-loop-place
invariant-loop-place l = record {
  keeps : Keeps l.fn.arena l.arena;
  is_ref : IsRef l.arena l.out;
  len : length l.left.items ≡ length l.fn.keys;
  stage : (all : Keys) → AreKeys all → AreExact l.fn.arena all l.fn.keys → All (IsCell all) l.fn.cells
      → IsStage all (levels_of l.fn.cells) (replicate (length l.fn.keys) true) l.left.items (meaning l.fn.arena l.fn.f) (meaning l.arena l.out);
  done : (k : ℕ) → k < l.place → is_left l.left.items k ≡ false;
}
