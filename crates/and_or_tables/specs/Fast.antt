-- What a fast table is: the ground table of its phrases and its masks' cells.
use Rattle.std.specs.Prelude.{◌≡◌, ℕ, ◌≤◌, List, length}
use Rattle.std.specs.Simd.Lanes.{zip2}
use Rattle.rsml_syntax.specs.declared.syntax.Cell.{Cell}
use Rattle.and_or_tables.specs.declared.fast.FastTable.TheInside.{Inside}
use Rattle.and_or_tables.specs.declared.ground.GroundRow.{GroundRow}
use Rattle.and_or_tables.specs.declared.ground.GroundTable.{GroundTable}

-- a row of each phrase and its cells
abbrev pub rows_with : List ℕ → List (List Cell) → List GroundRow
rows_with phrases rows = zip2 (λ phrase cells. record { phrase = phrase; cells = cells }) phrases rows

-- the table that a fast table was built of
abbrev pub table_of : Inside → GroundTable
table_of f = record { rows = rows_with f.phrases.items f.masks }

-- one phrase for each row
pub record IsPaired (f : Inside) : Type 0 where
  pub paired : length f.phrases.items ≡ length f.masks
  pub few_rows : length f.phrases.items ≤ 64
