-- Blocks: a number, with each number of a list.
use Rattle.std.specs.Prelude.{ℕ, Bool, false, ◌&&◌, ◌==◌, List, [], ◌++◌, map, flat_map, filter, slice_get, unwrap_or, ℤ, int_lt, int_le}
use Rattle.std.specs.List.{list_any}
use Rattle.std.specs.Option.{option_map_or}
use Rattle.std.specs.Ordering.{int_eq}
use Rattle.pair_counts.specs.declared.blocks.Block.{Block}
use Rattle.pair_counts.specs.declared.blocks.Range.{Range}

-- the list at a place; none there is empty
abbrev pub list_at : {A : Type 0} → List (List A) → ℕ → List A
list_at lists place = unwrap_or (slice_get lists place) []

-- PAIRS OF A TABLE

-- the pairs of a column: each number of its list, and then that of the column
abbrev pub column : List (List ℕ) → Block → List (ℕ × ℕ)
column lists l = map (λ n. (n, l.fixed)) (list_at lists l.list)

-- the pairs of a row: its number, and then each of its list
abbrev pub row : List (List ℕ) → Block → List (ℕ × ℕ)
row lists l = map (λ n. (l.fixed, n)) (list_at lists l.list)

-- the pairs of columns and of rows
abbrev pub pairs : List (List ℕ) → List Block → List Block → List (ℕ × ℕ)
pairs lists columns rows = flat_map (column lists) columns ++ flat_map (row lists) rows

abbrev pub same_pair : ℕ × ℕ → ℕ × ℕ → Bool
same_pair a b = a.0 == b.0 && a.1 == b.1

-- whether rows have a pair
abbrev pub is_in_rows : List (List ℕ) → List Block → ℕ × ℕ → Bool
is_in_rows lists rows p = list_any (same_pair p) (flat_map (row lists) rows)

-- ENTRIES WITHIN RANGES

-- above the low end of the range at a place, and at most its high end
abbrev pub is_within : List Range → ℕ → ℤ → Bool
is_within ranges place n = option_map_or (λ r. int_lt r.low n && int_le n r.high) (slice_get ranges place) false

-- the entries of a block: its number, with each of its list that is within its range
abbrev pub entries : List Range → List (List ℤ) → Block → List (ℕ × ℤ)
entries ranges lists l = map (λ n. (l.fixed, n)) (filter (is_within ranges l.fixed) (list_at lists l.list))

abbrev pub same_entry : ℕ × ℤ → ℕ × ℤ → Bool
same_entry a b = a.0 == b.0 && int_eq a.1 b.1
