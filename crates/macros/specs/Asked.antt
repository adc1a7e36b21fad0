-- How a guard is asked.
use Rattle.std.specs.Prelude.{◌≡◌, ℕ, ◌<◌, Bool, true, false, not, List, [], ◌∷◌, map, flat_map, All, Option, Some, None, slice_index_or, if◌then◌else◌}
use Rattle.std.specs.List.{list_any, list_all}
use Rattle.rsml_syntax.specs.declared.syntax.Cell.{Cell}
use Rattle.rsml_syntax.specs.declared.syntax.Cell.TheVariants as cells
use Rattle.rsml_syntax.specs.rules.Tables.{below}
use Rattle.and_or_tables.specs.declared.ground.GroundRow.{GroundRow}
use Rattle.and_or_tables.specs.Ground.{known}
use Rattle.rsml_ground.specs.declared.definitions.GroundGuard.{GroundGuard}
use Rattle.rsml_ground.specs.Truths.{guard_truth}
use Rattle.macros.specs.Guards.{GuardBelow}
use Rattle.macros.specs.declared.asked.Literal.{Literal}
use Rattle.macros.specs.declared.asked.Asked.{Asked}
use Rattle.macros.specs.declared.asked.Asked.TheVariants as asked

-- the phrase of a literal is as it is wanted
abbrev pub literal_truth : List Bool → Literal → Bool
literal_truth truths x = if x.wanted then known truths x.phrase else not (known truths x.phrase)

-- all literals of a column are true
abbrev pub column_truth : List Bool → List Literal → Bool
column_truth truths column = list_all (literal_truth truths) column

-- some column is true
abbrev pub columns_truth : List Bool → List (List Literal) → Bool
columns_truth truths columns = list_any (column_truth truths) columns

-- what a cell wants of a phrase; a dot wants nothing
abbrev pub wants : ℕ → Cell → List Literal
wants phrase cells.T = record { phrase = phrase; wanted = true } ∷ []
wants phrase cells.F = record { phrase = phrase; wanted = false } ∷ []
wants phrase cells.Dot = []

-- what the column at a place wants of the phrases of its rows
abbrev pub column_of : ℕ → List GroundRow → List Literal
column_of place rows = flat_map (λ row. wants row.phrase (slice_index_or row.cells place cells.Dot)) rows

-- what each of the first columns wants
abbrev pub columns_of : ℕ → List GroundRow → List (List Literal)
columns_of count rows = map (λ place. column_of place rows) (below count)

-- each literal is of a phrase below the count
abbrev pub ColumnBelow : ℕ → List Literal → Type 0
ColumnBelow count column = All (λ x. x.phrase < count) column

-- the truth of a guard by how it is asked
abbrev pub asked_truth : List Bool → Asked → Bool
asked_truth truths (asked.Single x) = literal_truth truths x
asked_truth truths (asked.Columns columns) = columns_truth truths (map (λ c. c.items) columns.items)
asked_truth truths (asked.Masks guard) = guard_truth truths guard

-- its columns, where it is asked column by column
abbrev pub columns_in : Asked → Option (List (List Literal))
columns_in (asked.Single x) = None
columns_in (asked.Columns columns) = Some (map (λ c. c.items) columns.items)
columns_in (asked.Masks guard) = None

-- both are asked column by column, and their columns are the same
abbrev pub HaveSameColumns : Asked → Asked → Type 0
HaveSameColumns a b = (columns : List (List Literal)) × (columns_in a ≡ Some columns) × (columns_in b ≡ Some columns)

-- it asks phrases below the count alone
abbrev pub AskedBelow : ℕ → Asked → Type 0
AskedBelow count (asked.Single x) = x.phrase < count
AskedBelow count (asked.Columns columns) = All (λ c. ColumnBelow count c.items) columns.items
AskedBelow count (asked.Masks guard) = GuardBelow count guard

-- A guard is asked so: it is true exactly where it is by how it is asked, and phrases below the count alone are asked.
pub record AsksFor (count : ℕ) (guard : GroundGuard) (a : Asked) : Type 0 where
  pub right : (truths : List Bool) → asked_truth truths a ≡ guard_truth truths guard
  pub below : AskedBelow count a
