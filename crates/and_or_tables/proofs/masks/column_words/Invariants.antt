use Rattle.std.proofs.Common.{◌≡◌, ◌≤◌, length, drop, map}
use Rattle.and_or_tables.specs.Cells.{care_word, want_word}
use Rattle.and_or_tables.proofs.masks.column_words.Given as goal

-- the words of the rows from k on
abbrev pub invariant-loop-k : goal.invariant-loop-k
invariant-loop-k l = record {
  within : l.k ≤ length l.rows;
  cared : l.care ≡ care_word (map (λ row. row.cells) (drop l.k l.rows)) l.place;
  wanted : l.want ≡ want_word (map (λ row. row.cells) (drop l.k l.rows)) l.place;
}

abbrev pub decreases-loop-k : goal.decreases-loop-k
decreases-loop-k l = l.k
