use Rattle.std.proofs.Common.{◌≡◌, map}
use Rattle.rsml_syntax.specs.rules.Tables.{below}
use Rattle.and_or_tables.specs.Cells.{care_word, want_word}
use Rattle.and_or_tables.specs.Shape.{cells_of}
use Rattle.and_or_tables.proofs.masks.MaskTable.build.Given as goal

-- the words of the columns so far
abbrev pub invariant-loop-place : goal.invariant-loop-place
invariant-loop-place l = record {
  cared : l.care.items ≡ map (care_word (cells_of l.table)) (below l.place);
  wanted : l.want.items ≡ map (want_word (cells_of l.table)) (below l.place);
}
