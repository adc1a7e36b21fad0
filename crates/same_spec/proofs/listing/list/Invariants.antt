use Rattle.guard_encode.specs.Encoding.{Keeps}
use Rattle.same_spec.proofs.listing.list.Given as goal

abbrev pub invariant-loop-place : goal.invariant-loop-place
invariant-loop-place l = Keeps l.fn.encoder l.encoder
