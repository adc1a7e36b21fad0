-- Tables of one column.
use Rattle.std.proofs.Common.{◌≡◌, ℕ, ◌+◌, ◌<◌, ◌≤◌, List, [], ◌∷◌, ◌++◌, length, false, true≢false, refl, sym, length-append, arith}
use Rattle.std.specs.List.{All}
use Rattle.std.specs.Prelude.{IsTrue}
use Rattle.std.proofs.lemmas.List.Elements.{All-nil, All-push}
use Rattle.and_or_tables.specs.declared.ground.GroundRow.{GroundRow}
use Rattle.and_or_tables.specs.declared.ground.GroundTable.{GroundTable}
use Rattle.and_or_tables.proofs.Shapes.{IsTable-made}
use Rattle.rsml_ground.specs.Rests.{TableFits}
use Rattle.table_notes.specs.Columns.{AreParts}

abbrev IsSingle : GroundRow → Type 0
IsSingle row = length row.cells ≡ 1

abbrev IsBelow : ℕ → GroundRow → Type 0
IsBelow n row = row.phrase < n

pub no_parts : (n : ℕ) → AreParts n []
no_parts n = record {
  few = omega arith;
  single = All-nil IsSingle;
  below = All-nil (IsBelow n);
}

pub part_more : (n : ℕ) (rows : List GroundRow) (row : GroundRow) → AreParts n rows → length rows < 64 → length row.cells ≡ 1 → row.phrase < n → AreParts n (rows ++ row ∷ [])
part_more n rows row are few single below = record {
  few = rw length-append (omega (arith, few));
  single = All-push IsSingle rows row are.single single;
  below = All-push (IsBelow n) rows row are.below below;
}

pub parts_fit : (n : ℕ) (table : GroundTable) → AreParts n table.rows → 0 < length table.rows → TableFits n table
parts_fit n table are some = record {
  shape = IsTable-made 1 table some are.few (omega arith) (omega arith) are.single;
  below = are.below;
}

pub some_part : (rows : List GroundRow) → (rows ≡ [] → IsTrue false) → 0 < length rows
some_part [] other = absurd (true≢false (sym (other refl)))
some_part (row ∷ rows) other = omega arith
