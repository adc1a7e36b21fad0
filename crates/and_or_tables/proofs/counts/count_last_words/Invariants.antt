use Rattle.std.proofs.Common.{◌≡◌, eqb, take}
use Rattle.std.specs.List.{count_by}
use Rattle.std.specs.Int.Bits.{bit_and}
use Rattle.and_or_tables.proofs.counts.count_last_words.Given as goal

abbrev pub invariant-loop-place : goal.invariant-loop-place
invariant-loop-place l = l.count ≡ count_by (λ word. eqb (bit_and word l.care) l.want) (take l.place l.words)
