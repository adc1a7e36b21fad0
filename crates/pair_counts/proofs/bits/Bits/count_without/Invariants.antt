use Rattle.std.proofs.Common.{◌≡◌, ◌*◌, ◌&&◌, not}
use Rattle.rsml_base.specs.Counting.{shown}
use Rattle.pair_counts.specs.Bits.{bit, one, adds_below}
use Rattle.pair_counts.proofs.bits.Bits.count_without.Given as goal

abbrev pub invariant-loop-place : goal.invariant-loop-place
invariant-loop-place l = l.sum ≡ shown (adds_below (λ q. one (bit l.self q && not (bit l.other q))) (64 * l.place))
