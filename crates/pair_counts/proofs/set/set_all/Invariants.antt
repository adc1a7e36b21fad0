use Rattle.std.proofs.Common.{◌≡◌, ◌||◌, ℕ, take}
use Rattle.pair_counts.specs.Bits.{bit}
use Rattle.pair_counts.specs.Has.{has_place}
use Rattle.pair_counts.proofs.set.set_all.Given as goal

abbrev pub invariant-loop-place : goal.invariant-loop-place
invariant-loop-place l = (q : ℕ) → bit l.bits q ≡ (bit l.fn.bits q || has_place (take l.place-index l.places) q)
