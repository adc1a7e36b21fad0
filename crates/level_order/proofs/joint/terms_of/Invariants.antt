use Rattle.std.proofs.Common.{◌≡◌, take}
use Rattle.level_order.proofs.joint.terms_of.Given as goal

-- those so far
abbrev pub invariant-loop-term : goal.invariant-loop-term
invariant-loop-term l = l.copy ≡ take l.term-index l.terms
