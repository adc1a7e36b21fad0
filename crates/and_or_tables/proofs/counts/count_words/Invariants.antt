use Rattle.std.proofs.Common.{◌≡◌, ◌-◌, ◌≤◌, eqb, length, take}
use Rattle.std.specs.List.{count_by}
use Rattle.std.specs.Simd.Lanes.{sum_l}
use Rattle.std.specs.Int.Bits.{bit_and}
use Rattle.and_or_tables.proofs.counts.count_words.Given as goal

-- the lanes have counted the words so far
abbrev pub invariant-loop-at : goal.invariant-loop-at
invariant-loop-at l = record {
  within : l.at ≤ length l.words;
  lanes : length l.sums ≡ 4;
  counted : sum_l l.sums ≡ count_by (λ word. eqb (bit_and word l.care) l.want) (take l.at l.words);
}

abbrev pub decreases-loop-at : goal.decreases-loop-at
decreases-loop-at l = length l.words - l.at
