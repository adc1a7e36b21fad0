-- When an AND/OR table is true: its rows are given by the truths of their phrases, and their cells.
use Rattle.std.specs.Prelude.{ℕ, zero, suc, Bool, true, not, List, [], ◌∷◌, ◌++◌, length, slice_index_or}
use Rattle.std.specs.List.{list_any, list_all}
use Rattle.rsml_syntax.specs.declared.syntax.Cell.{Cell}
use Rattle.rsml_syntax.specs.declared.syntax.Cell.TheVariants as cells

-- the truth of a row's phrase, and the row's cells
abbrev pub TableRow : Type 0
TableRow = Bool × List Cell

-- a phrase of this truth is as the cell wants it
abbrev pub allows : Cell → Bool → Bool
allows cells.T truth = truth
allows cells.F truth = not truth
allows cells.Dot truth = true

-- The column at a place, counted from 0, is true: each row's phrase is as the row's cell there wants it. S8 gives each row a
-- cell there; one that is missing would be a dot.
abbrev pub column : List TableRow → ℕ → Bool
column rows place = list_all (λ row. allows (slice_index_or row.1 place cells.Dot) row.0) rows

-- how many columns there are: as many as the first row has cells, and by S8 every other row
abbrev pub width : List TableRow → ℕ
width [] = 0
width (row ∷ rows) = length row.1

-- 0 to n - 1
abbrev pub below : ℕ → List ℕ
below zero = []
below (suc n) = below n ++ (n ∷ [])

-- some column is true
abbrev pub table_truth : List TableRow → Bool
table_truth rows = list_any (column rows) (below (width rows))
