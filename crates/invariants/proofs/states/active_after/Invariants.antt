use Rattle.std.proofs.Common.{take}
use Rattle.std.specs.List.{list_all}
use Rattle.guard_encode.specs.Encoding.{Keeps}
use Rattle.invariants.specs.Told.{TellsOf}
use Rattle.invariants.proofs.StateLemmas.{chosen_after}
use Rattle.invariants.proofs.states.active_after.Given as goal

-- where the first components have their children
abbrev pub invariant-loop-choice : goal.invariant-loop-choice
invariant-loop-choice l = record {
  keeps : Keeps l.fn.encoder l.encoder;
  told : TellsOf l.machine.base.spec l.encoder (λ w. list_all (chosen_after l.machine l.moves w) (take l.choice-index l.around)) l.active;
}
