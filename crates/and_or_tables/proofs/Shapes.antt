-- A table that was made row by row, each of so many cells.
use Rattle.std.proofs.Common.{◌≡◌, ℕ, ◌<◌, ◌≤◌, List, [], ◌∷◌, length, map, arith}
use Rattle.std.specs.List.{All}
use Rattle.and_or_tables.specs.declared.ground.GroundRow.{GroundRow}
use Rattle.and_or_tables.specs.declared.ground.GroundTable.{GroundTable}
use Rattle.and_or_tables.specs.Shape.{IsTable, cells_of, columns}

columns-even : (w : ℕ) (rows : List GroundRow) → 0 < length rows → All (λ row. length row.cells ≡ w) rows → columns (map (λ row. row.cells) rows) ≡ w
columns-even w [] some even = absurd (omega arith)
columns-even w (row ∷ rows) some even = even 0 row some

pub columns-made : (w : ℕ) (table : GroundTable) → 0 < length table.rows → All (λ row. length row.cells ≡ w) table.rows → columns (cells_of table) ≡ w
columns-made w table some even = columns-even w table.rows some even

pub IsTable-made : (w : ℕ) (table : GroundTable) → 0 < length table.rows → length table.rows ≤ 64 → 0 < w → w ≤ 32
    → All (λ row. length row.cells ≡ w) table.rows → IsTable table
IsTable-made w table some few wide narrow even =
    let is = columns-made w table some even in
    record {
      some_row = some;
      few_rows = few;
      some_column = omega arith;
      few_columns = omega arith;
      even = λ k d within. omega (arith, even k d within);
    }
