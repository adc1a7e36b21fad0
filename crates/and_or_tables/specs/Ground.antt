-- When a ground table is true: its phrases are numbers, whose truths a list has.
use Rattle.std.specs.Prelude.{ℕ, Bool, false, List, map, slice_index_or}
use Rattle.rsml_syntax.specs.rules.Tables.{TableRow, table_truth}
use Rattle.and_or_tables.specs.declared.ground.GroundRow.{GroundRow}
use Rattle.and_or_tables.specs.declared.ground.GroundTable.{GroundTable}

-- the truth of a phrase
abbrev pub known : List Bool → ℕ → Bool
known truths phrase = slice_index_or truths phrase false

-- a row as the truth of its phrase and its cells
abbrev pub ground_row : List Bool → GroundRow → TableRow
ground_row truths row = (known truths row.phrase, row.cells)

-- some column of the table is true
abbrev pub ground_table : List Bool → GroundTable → Bool
ground_table truths table = table_truth (map (ground_row truths) table.rows)
