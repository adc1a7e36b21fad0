-- What a mask table's words say of the cells that they spell.
use Rattle.std.proofs.Common.{◌≡◌, ℕ, ◌<◌, ◌≤◌, ◌^◌, suc, zero, Bool, List, [], ◌∷◌, length, get_or, map, drop, refl, ap, sym, ◌∙◌, arith}
use Rattle.std.specs.List.{All, count_by, list_any}
use Rattle.std.specs.Simd.Lanes.{mask_l}
use Rattle.std.proofs.lemmas.List.{length-map, length-drop, get_or-map}
use Rattle.std.proofs.lemmas.Simd.{length-zip2, mask_l-lt}
use Rattle.std.proofs.Math.Nat.{pow-le-pow_right}
use Rattle.rsml_syntax.specs.declared.syntax.Cell.{Cell}
use Rattle.rsml_syntax.specs.declared.syntax.Cell.TheVariants as cells
use Rattle.rsml_syntax.specs.rules.Tables.{column, width, below, table_truth}
use Rattle.and_or_tables.specs.declared.ground.GroundRow.{GroundRow}
use Rattle.and_or_tables.specs.declared.ground.GroundTable.{GroundTable}
use Rattle.and_or_tables.specs.declared.masks.MaskTable.TheInside.{Inside}
use Rattle.and_or_tables.specs.Asked.{asked}
use Rattle.and_or_tables.specs.Cells.{care_word, want_word, holds, spelled_row, spelled}
use Rattle.and_or_tables.specs.Masks.{IsMasked, spelled_by}
use Rattle.and_or_tables.specs.Shape.{IsTable, cells_of, columns}
use Rattle.and_or_tables.proofs.Bits.{below-suc, asked-cons, words-column}
use Rattle.and_or_tables.proofs.Spelling.{length-below, get_or-places, any-places, spelled-words}

-- ---- room for one more bit

pub mask_room : (bits : List Bool) → length bits ≤ 63 → mask_l bits < 9223372036854775808
mask_room bits few =
    let most : 2 ^ length bits ≤ 2 ^ 63 = pow-le-pow_right {n = 2} (omega arith) few in
    omega (arith, mask_l-lt bits, most)

-- the same of a column's word, where some row is still to come
pub word_room : (ask : Cell → Bool) (rows : List GroundRow) (place k : ℕ) → length rows ≤ 64 → 0 < k
    → mask_l (map (λ row. ask (get_or row place cells.Dot)) (map (λ row. row.cells) (drop k rows))) < 9223372036854775808
word_room ask rows place k few some =
    let rest : List (List Cell) = map (λ row. row.cells) (drop k rows) in
    let asks : List Cell → Bool = λ row. ask (get_or row place cells.Dot) in
    mask_room (map asks rest)
    (omega (arith, length-map rest asks, length-map {A = GroundRow} (drop k rows) (λ row. row.cells), length-drop k rows))

-- ---- the shape

pub width-asked : (word : ℕ) (rows : List (List Cell)) → width (asked word rows) ≡ columns rows
width-asked word [] = refl
width-asked word (row ∷ rows) = ap width (asked-cons word row rows)

pub columns-spelled : (rows : ℕ) (care want : List ℕ) → 0 < rows → length care ≡ length want → columns (spelled rows care want) ≡ length care
columns-spelled zero care want some same = absurd (omega arith)
columns-spelled (suc n) care want some same =
    ap (λ ks. columns (map (spelled_row care want) ks)) (below-suc n) ∙ length-zip2 _ care want same

-- ---- a mask table, seen as the cells of its rows

as_long : (m : Inside) → IsMasked m → length m.care.items ≡ length m.want.items
as_long m is =
    sym (ap length is.want ∙ length-map (below (length m.care.items)) (want_word (spelled_by m)) ∙ length-below (length m.care.items))

-- one word for each column
pub columns-seen : (m : Inside) → IsMasked m → (rows : List (List Cell)) → spelled_by m ≡ rows
    → (care : List ℕ) → care ≡ m.care.items → columns rows ≡ length care
columns-seen m is rows seen care c =
    ap columns (sym seen) ∙ columns-spelled m.rows m.care.items m.want.items is.some_row (as_long m is) ∙ ap length (sym c)

pub same_lengths : (m : Inside) → IsMasked m → (care want : List ℕ) → care ≡ m.care.items → want ≡ m.want.items → length care ≡ length want
same_lengths m is care want c w = ap length c ∙ as_long m is ∙ ap length (sym w)

holds-inside : (m : Inside) → IsMasked m → (word k : ℕ) → k < length m.care.items
    → holds word m.care.items m.want.items k ≡ column (asked word (spelled_by m)) k
holds-inside m is word k within =
    let rows = spelled_by m in
    let n = length m.care.items in
    ap (λ c. holds word (c ∷ []) (get_or m.want.items k 0 ∷ []) 0) (ap (λ xs. get_or xs k 0) is.care ∙ get_or-places (care_word rows) n k 0 within)
    ∙ ap (λ w. holds word (care_word rows k ∷ []) (w ∷ []) 0) (ap (λ xs. get_or xs k 0) is.want ∙ get_or-places (want_word rows) n k 0 within)
    ∙ words-column word rows k

-- a column's words hold where the column is true
pub holds-seen : (m : Inside) → IsMasked m → (rows : List (List Cell)) → spelled_by m ≡ rows
    → (care want : List ℕ) → care ≡ m.care.items → want ≡ m.want.items
    → (word k : ℕ) → k < length care → holds word care want k ≡ column (asked word rows) k
holds-seen m is rows seen care want c w word k within =
    let less : k < length m.care.items = rw (← c) within in
    ap (λ xs. holds word xs want k) c
    ∙ ap (λ xs. holds word m.care.items xs k) w
    ∙ holds-inside m is word k less
    ∙ ap (λ rs. column (asked word rs) k) seen

pub any-seen : (m : Inside) → IsMasked m → (rows : List (List Cell)) → spelled_by m ≡ rows
    → (care want : List ℕ) → care ≡ m.care.items → want ≡ m.want.items
    → (word : ℕ) → list_any (holds word care want) (below (length care)) ≡ table_truth (asked word rows)
any-seen m is rows seen care want c w word =
    any-places (holds word care want) (column (asked word rows)) (length care) (holds-seen m is rows seen care want c w word)
    ∙ ap (λ n. list_any (column (asked word rows)) (below n)) (sym (width-asked word rows ∙ columns-seen m is rows seen care c))

-- of many words, as many
pub count-seen : (m : Inside) → IsMasked m → (rows : List (List Cell)) → spelled_by m ≡ rows
    → (care want : List ℕ) → care ≡ m.care.items → want ≡ m.want.items
    → (words : List ℕ) (k : ℕ) → k < length care
    → count_by (λ word. holds word care want k) words ≡ count_by (λ word. column (asked word rows) k) words
count-seen m is rows seen care want c w words k within =
    let same : (λ (word : ℕ). holds word care want k) ≡ (λ word. column (asked word rows) k) = λ i word. holds-seen m is rows seen care want c w word k within i in
    ap (λ p. count_by p words) same

-- ---- the words of a ground table

even_cells : (table : GroundTable) → IsTable table → All (λ row. length row ≡ columns (cells_of table)) (cells_of table)
even_cells table is k d within =
    let cells_in : GroundRow → List Cell = λ row. row.cells in
    let none : GroundRow = record { phrase = 0; cells = [] } in
    let less : k < length table.rows = omega (arith, length-map table.rows cells_in) in
    ap length (get_or-map cells_in table.rows k none d less) ∙ is.even k none less

pub spelled-made : (table : GroundTable) (m : Inside) (w : ℕ) → IsTable table → m.rows ≡ length table.rows → w ≡ columns (cells_of table)
    → m.care.items ≡ map (care_word (cells_of table)) (below w) → m.want.items ≡ map (want_word (cells_of table)) (below w)
    → spelled_by m ≡ cells_of table
spelled-made table m w is rows wide care want =
    let all = cells_of table in
    let count : m.rows ≡ length all = rows ∙ sym (length-map table.rows (λ row. row.cells)) in
    ap (λ n. spelled n m.care.items m.want.items) count
    ∙ ap (λ xs. spelled (length all) xs m.want.items) (care ∙ ap (λ n. map (care_word all) (below n)) wide)
    ∙ ap (λ xs. spelled (length all) (map (care_word all) (below (columns all))) xs) (want ∙ ap (λ n. map (want_word all) (below n)) wide)
    ∙ spelled-words all (columns all) (even_cells table is)

pub IsMasked-made : (table : GroundTable) (m : Inside) (w : ℕ) → IsTable table → m.rows ≡ length table.rows → w ≡ columns (cells_of table)
    → m.care.items ≡ map (care_word (cells_of table)) (below w) → m.want.items ≡ map (want_word (cells_of table)) (below w)
    → IsMasked m
IsMasked-made table m w is rows wide care want =
    let same : cells_of table ≡ spelled_by m = sym (spelled-made table m w is rows wide care want) in
    let long : w ≡ length m.care.items = sym (ap length care ∙ length-map (below w) (care_word (cells_of table)) ∙ length-below w) in
    record {
      some_row = omega (arith, rows, is.some_row);
      care = care ∙ ap (λ rs. map (care_word rs) (below w)) same ∙ ap (λ n. map (care_word (spelled_by m)) (below n)) long;
      want = want ∙ ap (λ rs. map (want_word rs) (below w)) same ∙ ap (λ n. map (want_word (spelled_by m)) (below n)) long;
    }
