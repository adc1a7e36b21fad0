use Rattle.std.proofs.Common.{◌≡◌, ◌+◌, ◌++◌, List, map, take, length, ℤ}
use Rattle.pair_counts.specs.Blocks.{list_at}
use Rattle.rsml_limits.specs.comparisons.Shown.{shown_cell}
use Rattle.rsml_limits.specs.thresholds.Pairs.{grid}
use Rattle.rsml_limits.specs.thresholds.Tabled.{table_pairs, AreWithin}
use Rattle.rsml_limits.proofs.thresholds.blocks.put_blocks.Given as goal

abbrev pub invariant-loop-cell : goal.invariant-loop-cell
invariant-loop-cell l = record {
  within : AreWithin (length l.cells.keys) (l.list + 1) l.blocks.items;
  pairs : (lists : List (List ℤ)) →
      table_pairs (map shown_cell l.cells.keys) lists l.blocks.items
      ≡ table_pairs (map shown_cell l.fn.cells.keys) lists l.fn.blocks.items ++ grid (map shown_cell (take l.cell-index l.more)) (list_at lists l.list);
}
