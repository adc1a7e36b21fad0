use Rattle.std.proofs.Common.{take}
use Rattle.std.specs.List.{list_any}
use Rattle.guard_encode.specs.Encoding.{Keeps}
use Rattle.invariants.specs.Told.{TellsOf, active_after}
use Rattle.invariants.proofs.states.any_after.Given as goal

-- where some of the first states is active
abbrev pub invariant-loop-node : goal.invariant-loop-node
invariant-loop-node l = record {
  keeps : Keeps l.fn.encoder l.encoder;
  told : TellsOf l.machine.base.spec l.encoder (λ w. list_any (active_after l.machine l.moves w) (take l.node-index l.nodes)) l.any;
}
