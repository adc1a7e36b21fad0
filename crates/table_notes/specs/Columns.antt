-- Single columns of tables.
use Rattle.std.specs.Prelude.{◌≡◌, ℕ, ◌<◌, ◌≤◌, List, length, All}
use Rattle.and_or_tables.specs.declared.ground.GroundRow.{GroundRow}

-- At most 64 rows with one cell each, over the first n phrases.
pub record AreParts (n : ℕ) (rows : List GroundRow) : Type 0 where
  pub few : length rows ≤ 64
  pub single : All (λ row. length row.cells ≡ 1) rows
  pub below : All (λ row. row.phrase < n) rows
