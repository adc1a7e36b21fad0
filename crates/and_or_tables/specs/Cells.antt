-- The cells of a table as words: one care word and one want word for each column, one bit for each row.
use Rattle.std.specs.Prelude.{ℕ, ◌==◌, Bool, true, false, List, map, slice_index, slice_index_or, bit_and}
use Rattle.std.specs.Simd.Lanes.{mask_l, zip2}
use Rattle.rsml_syntax.specs.declared.syntax.Cell.{Cell}
use Rattle.rsml_syntax.specs.declared.syntax.Cell.TheVariants as cells
use Rattle.rsml_syntax.specs.rules.Tables.{below}
use Rattle.and_or_tables.specs.Asked.{bit}

-- the cell asks something of its row's phrase
abbrev pub cares : Cell → Bool
cares cells.T = true
cares cells.F = true
cares cells.Dot = false

-- the cell asks that its row's phrase is true
abbrev pub wants : Cell → Bool
wants cells.T = true
wants cells.F = false
wants cells.Dot = false

-- a column's words, for the cells of the rows: bit k is that of row k + 1
abbrev pub care_word : List (List Cell) → ℕ → ℕ
care_word rows place = mask_l (map (λ row. cares (slice_index_or row place cells.Dot)) rows)

abbrev pub want_word : List (List Cell) → ℕ → ℕ
want_word rows place = mask_l (map (λ row. wants (slice_index_or row place cells.Dot)) rows)

-- the column whose words stand at a place is true for the bits
abbrev pub holds : ℕ → List ℕ → List ℕ → ℕ → Bool
holds bits care want place = bit_and bits (slice_index care place) == slice_index want place

-- the cell that a care bit and a want bit spell
abbrev pub spelled_cell : Bool → Bool → Cell
spelled_cell false want = cells.Dot
spelled_cell true true = cells.T
spelled_cell true false = cells.F

-- the cells of row k + 1, spelled by the columns' words
abbrev pub spelled_row : List ℕ → List ℕ → ℕ → List Cell
spelled_row care want k = zip2 (λ c w. spelled_cell (bit c k) (bit w k)) care want

-- the cells of the rows, spelled by the columns' words
abbrev pub spelled : ℕ → List ℕ → List ℕ → List (List Cell)
spelled rows care want = map (spelled_row care want) (below rows)
