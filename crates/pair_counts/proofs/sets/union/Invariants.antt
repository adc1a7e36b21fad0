use Rattle.std.proofs.Common.{◌≡◌, ℕ, take}
use Rattle.std.specs.List.{list_any}
use Rattle.pair_counts.specs.Bits.{bit}
use Rattle.pair_counts.specs.Has.{has_at}
use Rattle.pair_counts.proofs.sets.union.Given as goal

abbrev pub invariant-loop-place : goal.invariant-loop-place
invariant-loop-place l = (q : ℕ) → bit l.bits q ≡ list_any (λ place. has_at l.sets place q) (take l.place-index l.places)
