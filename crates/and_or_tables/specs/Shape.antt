-- The shape of a table.
use Rattle.std.specs.Prelude.{◌≡◌, ℕ, ◌<◌, ◌≤◌, List, [], ◌∷◌, length, map, All}
use Rattle.rsml_syntax.specs.declared.syntax.Cell.{Cell}
use Rattle.and_or_tables.specs.declared.ground.GroundTable.{GroundTable}

-- the cells of each row
abbrev pub cells_of : GroundTable → List (List Cell)
cells_of table = map (λ row. row.cells) table.rows

-- how many columns there are: the rows have equally many cells
abbrev pub columns : List (List Cell) → ℕ
columns [] = 0
columns (cells ∷ rows) = length cells

-- 1 to 64 rows with 1 to 32 cells each, all as many
pub record IsTable (table : GroundTable) : Type 0 where
  pub some_row : 0 < length table.rows
  pub few_rows : length table.rows ≤ 64
  pub some_column : 0 < columns (cells_of table)
  pub few_columns : columns (cells_of table) ≤ 32
  pub even : All (λ row. length row.cells ≡ columns (cells_of table)) table.rows

-- each phrase of the table has a number below the count
abbrev pub PhrasesBelow : ℕ → GroundTable → Type 0
PhrasesBelow count table = All (λ row. row.phrase < count) table.rows
