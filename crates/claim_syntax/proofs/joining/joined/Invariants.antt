use Rattle.std.proofs.Common.{◌≡◌, length}
use Rattle.std.specs.Vec.Iter.{into_iter_items, into_iter_len}
use Rattle.claim_syntax.specs.Joined.{joined}
use Rattle.claim_syntax.proofs.joining.joined.Given as goal

-- with the claims that are left, it is joined as all claims to the specification
abbrev pub invariant-loop-claim : goal.invariant-loop-claim
invariant-loop-claim l = (joined l.joined (into_iter_items l.claim-iterator) ≡ joined l.fn.specification (into_iter_items l.initial.claim-iterator))
    × (into_iter_len l.claim-iterator ≡ length (into_iter_items l.claim-iterator))
