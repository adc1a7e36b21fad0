use Rattle.std.proofs.Common.{◌≡◌, true, take}
use Rattle.rsml_ground.specs.Choices as spec
use Rattle.rsml_ground.proofs.choices.are_chosen.Given as goal

abbrev pub invariant-loop-choice : goal.invariant-loop-choice
invariant-loop-choice l = spec.are_chosen l.chosen (take l.choice-index l.choices) ≡ true
