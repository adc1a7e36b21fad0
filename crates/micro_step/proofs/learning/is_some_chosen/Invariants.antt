use Rattle.std.proofs.Common.{◌≡◌, false, map, take}
use Rattle.macros.specs.StatePhrases.{some_chosen}
use Rattle.micro_step.proofs.learning.is_some_chosen.Given as goal

abbrev pub invariant-loop-way : goal.invariant-loop-way
invariant-loop-way l = some_chosen l.chosen (map (λ way. way.items) (take l.way-index l.ways)) ≡ false
