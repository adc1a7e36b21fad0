use Rattle.std.proofs.Common.{◌≡◌, ℕ, length, slice_index, if◌then◌else◌, nat_lt}
use Rattle.std.specs.Int.RustNames.{bit_or}
use Rattle.pair_counts.proofs.bits.join_words.Given as goal

abbrev pub invariant-loop-place : goal.invariant-loop-place
invariant-loop-place l =
    (length l.words.items ≡ length l.fn.words.items)
    × ((i : ℕ) →
    slice_index l.words.items i
    ≡ (if nat_lt i l.place then bit_or (slice_index l.fn.words.items i) (slice_index l.others i) else slice_index l.fn.words.items i))
