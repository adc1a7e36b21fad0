use Rattle.std.proofs.Common.{◌≡◌, flat_map, take}
use Rattle.macros.proofs.state_phrases.joined.Given as goal

abbrev pub invariant-loop-way : goal.invariant-loop-way
invariant-loop-way l = l.choices.items ≡ flat_map (λ c. c.items) (take l.way-index l.ways)
