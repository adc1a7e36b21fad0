-- A column of a ground table, row by row, and the columns of a table, one by one.
use Rattle.std.proofs.Common.{◌≡◌, ℕ, ◌+◌, ◌<◌, ◌≤◌, suc, zero, Bool, true, false, ◌||◌, List, [], ◌∷◌, length, get_or, map, take, refl, ap, sym, ◌∙◌, arith, add-one, inl, inr}
use Rattle.std.specs.List.{list_any}
use Rattle.std.proofs.lemmas.List.{get_or-map, length-map, map_more}
use Rattle.std.proofs.lemmas.List.Folds.{list_all-append, list_any-append, list_all_at}
use Rattle.std.proofs.lemmas.Bool.{cases_lt}
use Rattle.rsml_syntax.specs.declared.syntax.Cell.TheVariants as cells
use Rattle.rsml_syntax.specs.rules.Tables.{TableRow, allows, column, width, below}
use Rattle.and_or_tables.specs.declared.ground.GroundRow.{GroundRow}
use Rattle.and_or_tables.specs.declared.ground.GroundTable.{GroundTable}
use Rattle.and_or_tables.specs.Ground.{known, ground_row, ground_table}
use Rattle.and_or_tables.specs.Shape.{cells_of, columns}

-- what the column at a place asks of a row
abbrev pub asks : ℕ → TableRow → Bool
asks place row = allows (get_or row.1 place cells.Dot) row.0

-- one row that is not as its cell wants it makes the column false
pub column_stops : (truths : List Bool) (rows : List GroundRow) (place i : ℕ) (row : GroundRow) → i < length rows → row ≡ get_or rows i row
    → allows (get_or row.cells place cells.Dot) (known truths row.phrase) ≡ false
    → column (map (ground_row truths) rows) place ≡ false
column_stops truths rows place i row within is fails =
    list_all_at (asks place) (map (ground_row truths) rows) i (ground_row truths row) (rw (length-map rows (ground_row truths)) within)
    (ap (asks place) (get_or-map (ground_row truths) rows i row (ground_row truths row) within ∙ ap (ground_row truths) (sym is)) ∙ fails)

-- one more row
pub column_more : (truths : List Bool) (rows : List GroundRow) (place i : ℕ) (row : GroundRow) → i < length rows → row ≡ get_or rows i row
    → column (map (ground_row truths) (take i rows)) place ≡ true
    → allows (get_or row.cells place cells.Dot) (known truths row.phrase) ≡ true
    → column (map (ground_row truths) (take (i + 1) rows)) place ≡ true
column_more truths rows place i row within is before here =
    ap (λ rs. column rs place) (map_more (ground_row truths) rows i row within)
    ∙ list_all-append (asks place) (map (ground_row truths) (take i rows)) (ground_row truths (get_or rows i row) ∷ [])
    ∙ rw (before, ← is, here) refl

-- no column so far, and none at the next place
pub none_more : (f : ℕ → Bool) (place : ℕ) → list_any f (below place) ≡ false → f place ≡ false → list_any f (below (place + 1)) ≡ false
none_more f place before here =
    ap (λ n. list_any f (below n)) (add-one place) ∙ list_any-append f (below place) (place ∷ []) ∙ rw (before, here) refl

-- one true place settles the answer
pub some_below : (f : ℕ → Bool) (n place : ℕ) → place < n → f place ≡ true → list_any f (below n) ≡ true
some_below f zero place within here = absurd (omega arith)
some_below f (suc n) place within here =
    list_any-append f (below n) (n ∷ []) ∙ elim (cases_lt place n) [
      | inl less ↦ rw (some_below f n place less here) refl
      | inr more ↦ let same : n ≡ place = omega arith in rw (same, here) (or_true (list_any f (below place)))
    ]
  where
    or_true : (b : Bool) → b || (true || false) ≡ true
    or_true true = refl
    or_true false = refl

-- a ground table has as many columns as its first row has cells
pub width-ground : (truths : List Bool) (rows : List GroundRow) → width (map (ground_row truths) rows) ≡ columns (map (λ row. row.cells) rows)
width-ground truths [] = refl
width-ground truths (row ∷ rows) = refl

-- some column is true
pub true_of_ground : (truths : List Bool) (table : GroundTable) (rows : List GroundRow) (place : ℕ) → rows ≡ table.rows
    → place < columns (cells_of table)
    → column (map (ground_row truths) rows) place ≡ true
    → ground_table truths table ≡ true
true_of_ground truths table rows place is within here =
    some_below (column (map (ground_row truths) table.rows)) (width (map (ground_row truths) table.rows)) place
    (rw (width-ground truths table.rows) within)
    (ap (λ rs. column (map (ground_row truths) rs) place) (sym is) ∙ here)

-- no column is
pub false_of_ground : (truths : List Bool) (table : GroundTable) (rows : List GroundRow) (count place : ℕ) → rows ≡ table.rows
    → count ≡ columns (cells_of table) → place ≤ count → count ≤ place
    → list_any (column (map (ground_row truths) rows)) (below place) ≡ false
    → ground_table truths table ≡ false
false_of_ground truths table rows count place is counted low high none =
    let end : columns (cells_of table) ≡ place = omega arith in
    ap (λ n. list_any (column (map (ground_row truths) table.rows)) (below n)) (width-ground truths table.rows ∙ end)
    ∙ ap (λ rs. list_any (column (map (ground_row truths) rs)) (below place)) (sym is)
    ∙ none
