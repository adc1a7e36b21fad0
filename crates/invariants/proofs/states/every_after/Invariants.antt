use Rattle.std.proofs.Common.{take}
use Rattle.std.specs.List.{list_all}
use Rattle.guard_encode.specs.Encoding.{Keeps}
use Rattle.invariants.specs.Told.{TellsOf, active_after}
use Rattle.invariants.proofs.states.every_after.Given as goal

-- where each of the first states is active
abbrev pub invariant-loop-node : goal.invariant-loop-node
invariant-loop-node l = record {
  keeps : Keeps l.fn.encoder l.encoder;
  told : TellsOf l.machine.base.spec l.encoder (λ w. list_all (active_after l.machine l.moves w) (take l.node-index l.nodes)) l.every;
}
