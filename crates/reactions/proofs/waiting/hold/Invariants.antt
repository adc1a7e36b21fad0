use Rattle.std.proofs.Common.{◌≡◌, take, vec_capacity}
use Rattle.reactions.proofs.waiting.hold.Given as goal

abbrev pub invariant-loop-number : goal.invariant-loop-number
invariant-loop-number l = (l.held.items ≡ take l.number-index l.numbers) × (vec_capacity l.held ≡ vec_capacity l.fn.held)
