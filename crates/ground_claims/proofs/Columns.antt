-- Columns of a claim, row by row, and its width.
use Rattle.std.proofs.Common.{◌≡◌, ℕ, ◌+◌, ◌<◌, ◌≤◌, Bool, true, false, ◌&&◌, List, [], ◌∷◌, map, take, length, get_or, Some, None, slice_get, refl, sym, ap, ◌∙◌, subst, arith}
use Rattle.std.specs.List.{list_any, list_all}
use Rattle.std.proofs.lemmas.Option.{same_Some}
use Rattle.std.proofs.lemmas.List.Folds.{list_all-map, list_all_at, list_all_more}
use Rattle.rsml_syntax.specs.declared.syntax.Cell.TheVariants as cells
use Rattle.rsml_syntax.specs.rules.Tables.{TableRow, allows, column, width, below, table_truth}
use Rattle.ground_claims.specs.declared.claim.ClaimRow.{ClaimRow}
use Rattle.and_or_tables.proofs.Columns.{some_below}
use Rattle.ground_claims.specs.declared.claim.GroundClaim.{GroundClaim}
use Rattle.ground_claims.specs.Truths.{phrase_truth, row_truth, claim_truth}

-- what the column at a place asks of a row
abbrev pub asks : (ℕ → Bool) → ℕ → ClaimRow → Bool
asks active place row = allows (get_or row.cells place cells.Dot) (phrase_truth active row.phrase)

-- a column is true where each row is as its cell wants it
pub column_is : (active : ℕ → Bool) (rows : List ClaimRow) (place : ℕ) → column (map (row_truth active) rows) place ≡ list_all (asks active place) rows
column_is active rows place = list_all-map (λ (row : TableRow). allows (get_or row.1 place cells.Dot) row.0) (row_truth active) rows

-- one row that is not makes it false
pub column_stops : (active : ℕ → Bool) (rows : List ClaimRow) (place i : ℕ) (row : ClaimRow) → i < length rows → row ≡ get_or rows i row → asks active place row ≡ false
    → column (map (row_truth active) rows) place ≡ false
column_stops active rows place i row within is fails = column_is active rows place ∙ list_all_at (asks active place) rows i row within (ap (asks active place) (sym is) ∙ fails)

-- one more row that is as its cell wants it
pub column_more : (active : ℕ → Bool) (rows : List ClaimRow) (place i : ℕ) (row : ClaimRow) → i < length rows → row ≡ get_or rows i row
    → column (map (row_truth active) (take i rows)) place ≡ true → asks active place row ≡ true → column (map (row_truth active) (take (i + 1) rows)) place ≡ true
column_more active rows place i row within is before here =
    let front : list_all (asks active place) (take i rows) ≡ true = sym (column_is active (take i rows) place) ∙ before in
    let last : asks active place (get_or rows i row) ≡ true = ap (asks active place) (sym is) ∙ here in
    column_is active (take (i + 1) rows) place ∙ list_all_more (asks active place) rows i row within ∙ (λ j. front j && last j)

-- as many columns as the first row has cells
pub first_width : (active : ℕ → Bool) (rows : List ClaimRow) (row : ClaimRow) → slice_get rows 0 ≡ Some row → width (map (row_truth active) rows) ≡ length row.cells
first_width active [] row e = cc
first_width active (x ∷ rows) row e = ap (λ (y : ClaimRow). length y.cells) (same_Some x row e)

pub no_width : (active : ℕ → Bool) (rows : List ClaimRow) → slice_get rows 0 ≡ None → width (map (row_truth active) rows) ≡ 0
no_width active [] e = refl
no_width active (x ∷ rows) e = cc

-- a true column makes the claim true
pub true_of_columns : (active : ℕ → Bool) (claim : GroundClaim) (rows : List ClaimRow) (count place : ℕ) → rows ≡ claim.rows → count ≡ width (map (row_truth active) rows) → place < count
    → column (map (row_truth active) rows) place ≡ true → claim_truth active claim ≡ true
true_of_columns active claim rows count place is counted below here =
    ap (λ (rs : List ClaimRow). table_truth (map (row_truth active) rs)) (sym is)
    ∙ some_below (column (map (row_truth active) rows)) (width (map (row_truth active) rows)) place (subst (λ n. place < n) counted below) here

-- where no column is true, the claim is not
pub false_of_columns : (active : ℕ → Bool) (claim : GroundClaim) (rows : List ClaimRow) (count place : ℕ) → rows ≡ claim.rows → count ≡ width (map (row_truth active) rows) → place ≤ count → count ≤ place
    → list_any (column (map (row_truth active) rows)) (below place) ≡ false → claim_truth active claim ≡ false
false_of_columns active claim rows count place is counted low high none =
    let end : width (map (row_truth active) rows) ≡ place = omega (arith, counted, low, high) in
    ap (λ (rs : List ClaimRow). table_truth (map (row_truth active) rs)) (sym is) ∙ ap (λ n. list_any (column (map (row_truth active) rows)) (below n)) end ∙ none
