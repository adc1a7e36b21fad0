use Rattle.std.proofs.Common.{◌≡◌, length}
use Rattle.bdd_core.specs.Calls.{Keeps}
use Rattle.phrase_diagrams.specs.Active.{AreActive}
use Rattle.phrase_diagrams.proofs.states.active_states.Given as goal

abbrev pub invariant-loop-node : goal.invariant-loop-node
invariant-loop-node l = record {
  keeps : Keeps l.fn.arena l.arena;
  many : length l.active.items ≡ l.node;
  each : AreActive l.arena l.layout l.tree l.active.items;
}
