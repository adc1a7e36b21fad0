-- The columns of a table joined one after another, while the arena grows.
use Rattle.std.proofs.Common.{◌≡◌, ℕ, ◌+◌, suc, Bool, true, false, ◌||◌, List, [], ◌∷◌, map, refl, sym, ap, ◌∙◌, arith, add-one}
use Rattle.std.specs.List.{All, list_any}
use Rattle.std.proofs.lemmas.List.Folds.{list_any-append}
use Rattle.rsml_syntax.specs.rules.Tables.{column, below}
use Rattle.bdd_core.specs.Diagram.{Diagram, IsRef, meaning}
use Rattle.bdd_core.specs.Calls.{Keeps, Represents}
use Rattle.and_or_tables.specs.declared.ground.GroundRow.{GroundRow}
use Rattle.and_or_tables.specs.declared.ground.GroundTable.{GroundTable}
use Rattle.and_or_tables.specs.Ground.{ground_row, ground_table}
use Rattle.and_or_tables.specs.Shape.{cells_of, columns}
use Rattle.and_or_tables.proofs.Columns.{width-ground}
use Rattle.phrase_diagrams.specs.Diagrams.{truths_at}

-- one column of a table, by the truths of the phrases
abbrev pub one_column : List Bool → List GroundRow → ℕ → Bool
one_column truths rows = column (map (ground_row truths) rows)

-- some of the columns before a place
abbrev pub some_before : List Bool → List GroundRow → ℕ → Bool
some_before truths rows place = list_any (one_column truths rows) (below place)

-- diagrams stand for the same truths in an arena that has grown
truths_stay : (a b : Diagram) (diagrams : List ℕ) (v : ℕ → Bool) → Keeps a b → All (IsRef a) diagrams → truths_at b diagrams v ≡ truths_at a diagrams v
truths_stay a b [] v keeps refs = refl
truths_stay a b (f ∷ diagrams) v keeps refs =
    ap (λ x. x ∷ truths_at b diagrams v) (keeps.meanings_stay f v (refs 0 f (omega arith)))
    ∙ ap (λ xs. meaning a f v ∷ xs) (truths_stay a b diagrams v keeps (λ k d less. refs (suc k) d (omega arith)))

or-last : (b c : Bool) → (b || (c || false)) ≡ (b || c)
or-last b true = refl
or-last b false = refl

-- one more column
before_more : (truths : List Bool) (rows : List GroundRow) (place : ℕ)
    → some_before truths rows (place + 1) ≡ (some_before truths rows place || one_column truths rows place)
before_more truths rows place =
    ap (λ n. list_any (one_column truths rows) (below n)) (add-one place)
    ∙ list_any-append (one_column truths rows) (below place) (place ∷ [])
    ∙ or-last (some_before truths rows place) (one_column truths rows place)

-- A column made and joined to those before it. The arena is first a; then b, where f has those before; then c, where g has
-- the column; then d, where r has both.
pub column_more : (a b c d : Diagram) (diagrams : List ℕ) (rows : List GroundRow) (place f g r : ℕ)
    → All (IsRef a) diagrams → Keeps a b → Keeps b c
    → Represents b (λ v. some_before (truths_at a diagrams v) rows place) f
    → Represents c (λ v. one_column (truths_at b diagrams v) rows place) g
    → Represents d (λ v. meaning c f v || meaning c g v) r
    → Represents d (λ v. some_before (truths_at a diagrams v) rows (place + 1)) r
column_more a b c d diagrams rows place f g r refs ab bc before next both = record {
  is_ref = both.is_ref;
  means = λ v. both.means v
      ∙ ap (λ x. x || meaning c g v) (bc.meanings_stay f v before.is_ref ∙ before.means v)
      ∙ ap (λ x. some_before (truths_at a diagrams v) rows place || x) (next.means v ∙ ap (λ ts. one_column ts rows place) (truths_stay a b diagrams v ab refs))
      ∙ sym (before_more (truths_at a diagrams v) rows place);
}

-- all columns
pub columns_end : (a b : Diagram) (diagrams : List ℕ) (table : GroundTable) (rows : List GroundRow) (place r : ℕ) → rows ≡ table.rows
    → columns (cells_of table) ≡ place → Represents b (λ v. some_before (truths_at a diagrams v) rows place) r
    → Represents b (λ v. ground_table (truths_at a diagrams v) table) r
columns_end a b diagrams table rows place r is end here = record {
  is_ref = here.is_ref;
  means = λ v. here.means v
      ∙ ap (λ xs. some_before (truths_at a diagrams v) xs place) is
      ∙ ap (some_before (truths_at a diagrams v) table.rows) (sym (width-ground (truths_at a diagrams v) table.rows ∙ end));
}
