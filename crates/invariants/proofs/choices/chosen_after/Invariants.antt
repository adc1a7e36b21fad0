use Rattle.std.proofs.Common.{fold, take}
use Rattle.rsml_ground.specs.Choices.{is_chosen}
use Rattle.guard_encode.specs.Encoding.{Keeps}
use Rattle.invariants.specs.Moves.{in_turn}
use Rattle.invariants.specs.Told.{TellsOf}
use Rattle.invariants.proofs.GiftLemmas.{AreLong}
use Rattle.invariants.proofs.choices.chosen_after.Given as goal

-- where it has the child after the first transitions
abbrev pub invariant-loop-number : goal.invariant-loop-number
invariant-loop-number l = record {
  keeps : Keeps l.fn.encoder l.encoder;
  fit : AreLong l.machine l.room.choices;
  told : TellsOf l.machine.base.spec l.encoder (λ w. is_chosen (fold (in_turn l.machine w) w.choices (take l.number-index l.moves)) l.choice) l.chosen;
}
