-- Columns and tables, one more row and one more column.
use Rattle.std.proofs.Common.{◌≡◌, ℕ, suc, ◌+◌, ◌<◌, Bool, true, false, ◌&&◌, ◌||◌, List, [], ◌∷◌, map, take, length, get_or, refl, sym, ap, ◌∙◌, arith}
use Rattle.std.specs.List.{list_any, list_all}
use Rattle.std.proofs.lemmas.List.Folds.{list_all_more, list_any-append}
use Rattle.rsml_syntax.specs.declared.syntax.Spec.{Spec}
use Rattle.rsml_syntax.specs.declared.syntax.Cell.{Cell}
use Rattle.rsml_syntax.specs.declared.syntax.Cell.TheVariants as cells
use Rattle.rsml_syntax.specs.declared.world.World.{World}
use Rattle.rsml_syntax.specs.rules.Tables.{allows, column, below, width, table_truth}
use Rattle.ground_claims.specs.declared.claim.ClaimRow.{ClaimRow}
use Rattle.ground_claims.specs.Truths.{phrase_truth, row_truth}
use Rattle.ground_claims.proofs.Columns.{asks, column_is}
use Rattle.guard_encode.specs.Encoding.{Encoding}
use Rattle.invariants.specs.Told.{TellsOf}
use Rattle.invariants.proofs.ToldLemmas.{tells_as}

abbrev pub Actives : Type 0
Actives = World → ℕ → Bool

-- a column of the first rows
abbrev pub front_column : Actives → List ClaimRow → ℕ → ℕ → World → Bool
front_column active rows place n w = column (map (row_truth (active w)) (take n rows)) place

-- the first columns
abbrev pub some_column : Actives → List ClaimRow → ℕ → World → Bool
some_column active rows n w = list_any (column (map (row_truth (active w)) rows)) (below n)

-- one more row
pub row_more : (s : Spec) (e : Encoding) (active : Actives) (rows : List ClaimRow) (place at : ℕ) (row : ClaimRow) (cell : Cell) (r : ℕ) → at < length rows → row ≡ get_or rows at row
    → cell ≡ get_or row.cells place cells.Dot
    → TellsOf s e (λ w. front_column active rows place at w && allows cell (phrase_truth (active w) row.phrase)) r → TellsOf s e (front_column active rows place (at + 1)) r
row_more s e active rows place at row cell r l is here h = tells_as s e _ (front_column active rows place (at + 1)) r (λ w _. by w) h
  where
    by : (w : World) → (front_column active rows place at w && allows cell (phrase_truth (active w) row.phrase)) ≡ front_column active rows place (at + 1) w
    by w =
        (λ i. column_is (active w) (take at rows) place i && allows (here i) (phrase_truth (active w) row.phrase))
        ∙ ap (λ (x : ClaimRow). list_all (asks (active w) place) (take at rows) && asks (active w) place x) is
        ∙ sym (column_is (active w) (take (at + 1) rows) place ∙ list_all_more (asks (active w) place) rows at row l)

-- one more column
pub column_more : (s : Spec) (e : Encoding) (active : Actives) (rows : List ClaimRow) (place r : ℕ)
    → TellsOf s e (λ w. some_column active rows place w || column (map (row_truth (active w)) rows) place) r → TellsOf s e (some_column active rows (place + 1)) r
column_more s e active rows place r h = tells_as s e _ (some_column active rows (place + 1)) r (λ w _. by w) h
  where
    or_none : (b : Bool) → (b || false) ≡ b
    or_none true = refl
    or_none false = refl

    by : (w : World) → (some_column active rows place w || column (map (row_truth (active w)) rows) place) ≡ some_column active rows (place + 1) w
    by w =
        let p = column (map (row_truth (active w)) rows) in
        let next : place + 1 ≡ suc place = omega arith in
        sym (ap (λ n. list_any p (below n)) next
        ∙ list_any-append p (below place) (place ∷ [])
        ∙ ap (λ (b : Bool). list_any p (below place) || b) (or_none (p place)))

-- all columns
pub all_columns : (s : Spec) (e : Encoding) (active : Actives) (rows : List ClaimRow) (n r : ℕ) → ((one : ℕ → Bool) → n ≡ width (map (row_truth one) rows))
    → TellsOf s e (some_column active rows n) r → TellsOf s e (λ w. table_truth (map (row_truth (active w)) rows)) r
all_columns s e active rows n r many h = tells_as s e (some_column active rows n) _ r (λ w _. ap (λ k. list_any (column (map (row_truth (active w)) rows)) (below k)) (many (active w))) h
