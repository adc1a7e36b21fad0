-- A table of phrases and masks, asked with the truths of its phrases.
use Rattle.std.proofs.Common.{◌≡◌, ℕ, ◌<◌, ◌≤◌, Bool, false, List, [], ◌∷◌, length, get_or, map, drop, refl, ap, sym, ◌∙◌, arith}
use Rattle.std.specs.List.{All, zip}
use Rattle.std.specs.Simd.Lanes.{mask_l}
use Rattle.std.proofs.lemmas.List.{length-map, length-drop}
use Rattle.std.proofs.lemmas.Simd.{get_or-zip2, length-zip2}
use Rattle.rsml_syntax.specs.declared.syntax.Cell.{Cell}
use Rattle.rsml_syntax.specs.rules.Tables.{below, table_truth}
use Rattle.and_or_tables.specs.declared.fast.FastTable.TheInside.{Inside}
use Rattle.and_or_tables.specs.declared.ground.GroundRow.{GroundRow}
use Rattle.and_or_tables.specs.declared.ground.GroundTable.{GroundTable}
use Rattle.and_or_tables.specs.Asked.{bit, asked}
use Rattle.and_or_tables.specs.Fast.{IsPaired, rows_with, table_of}
use Rattle.and_or_tables.specs.Ground.{known, ground_row, ground_table}
use Rattle.and_or_tables.specs.Shape.{cells_of}
use Rattle.and_or_tables.proofs.Masked.{mask_room}
use Rattle.and_or_tables.proofs.Spelling.{map-places, items-places, bit-mask}

-- the rows of a table, taken apart and put together
pub rows_with-parts : (rows : List GroundRow) → rows_with (map (λ row. row.phrase) rows) (map (λ row. row.cells) rows) ≡ rows
rows_with-parts [] = refl
rows_with-parts (row ∷ rows) = ap (λ rs. row ∷ rs) (rows_with-parts rows)

-- the phrases of the rows of a table that is put together
pub phrases_of_rows : (phrases : List ℕ) (rows : List (List Cell)) → length phrases ≡ length rows → map (λ row. row.phrase) (rows_with phrases rows) ≡ phrases
phrases_of_rows [] [] paired = refl
phrases_of_rows (p ∷ ps) (r ∷ rs) paired = ap (λ (ns : List ℕ). p ∷ ns) (phrases_of_rows ps rs (omega (arith, paired)))
phrases_of_rows [] (r ∷ rs) paired = refl
phrases_of_rows (p ∷ ps) [] paired = absurd (omega (arith, paired))

-- the phrases of the rows are below the count
pub phrases_below : (phrases : List ℕ) (rows : List (List Cell)) (count : ℕ) → length phrases ≡ length rows
    → All (λ row. row.phrase < count) (rows_with phrases rows)
    → All (λ phrase. phrase < count) phrases
phrases_below phrases rows count paired all k d within =
    let row : ℕ → List Cell → GroundRow = λ phrase cells. record { phrase = phrase; cells = cells } in
    let is = get_or-zip2 row phrases rows k d [] (row d []) within (omega arith) in
    let here = all k (row d []) (omega (arith, length-zip2 row phrases rows paired)) in
    rw is at here

-- the truths of the phrases as bits are those of the rows
pub asked-gathered : (truths : List Bool) (phrases : List ℕ) (rows : List (List Cell)) → length phrases ≡ length rows
    → asked (mask_l (map (known truths) phrases)) rows ≡ map (ground_row truths) (rows_with phrases rows)
asked-gathered truths phrases rows paired =
    let bits : List Bool = map (known truths) phrases in
    let long : length bits ≡ length rows = length-map phrases (known truths) ∙ paired in
    ap (λ bs. zip bs rows)
    (map-places (bit (mask_l bits)) (λ k. get_or bits k false) (length rows) (λ k _. bit-mask bits k)
    ∙ ap (λ n. map (λ k. get_or bits k false) (below n)) (sym long)
    ∙ items-places bits false)
    ∙ rows_of phrases rows
  where
    rows_of : (ps : List ℕ) (rs : List (List Cell)) → zip (map (known truths) ps) rs ≡ map (ground_row truths) (rows_with ps rs)
    rows_of [] rs = refl
    rows_of (p ∷ ps) [] = refl
    rows_of (p ∷ ps) (r ∷ rs) = ap (λ xs. (known truths p, r) ∷ xs) (rows_of ps rs)

-- room for one more truth
pub gathered_room : (truths : List Bool) (phrases : List ℕ) (k : ℕ) → length phrases ≤ 64 → 0 < k → mask_l (map (known truths) (drop k phrases)) < 9223372036854775808
gathered_room truths phrases k few some =
    mask_room (map (known truths) (drop k phrases)) (omega (arith, length-map (drop k phrases) (known truths), length-drop k phrases))

-- ---- a fast table, seen as the table that it was built of

pub table_again : (table : GroundTable) (phrases : List ℕ) (masks : List (List Cell)) → phrases ≡ map (λ row. row.phrase) table.rows → masks ≡ cells_of table
    → rows_with phrases masks ≡ table.rows
table_again table phrases masks p m =
    ap (λ ps. rows_with ps masks) p ∙ ap (rows_with (map (λ row. row.phrase) table.rows)) m ∙ rows_with-parts table.rows

pub truth-seen : (f : Inside) → IsPaired f → (table : GroundTable) → table_of f ≡ table → (truths : List Bool) (phrases : List ℕ) (bits : ℕ)
    → phrases ≡ f.phrases.items → bits ≡ mask_l (map (known truths) phrases)
    → table_truth (asked bits f.masks) ≡ ground_table truths table
truth-seen f is table seen truths phrases bits p b =
    ap (λ n. table_truth (asked n f.masks)) (b ∙ ap (λ ps. mask_l (map (known truths) ps)) p)
    ∙ ap table_truth (asked-gathered truths f.phrases.items f.masks is.paired)
    ∙ ap (ground_table truths) seen
