-- How a guard is asked is what it says.
use Rattle.std.proofs.Common.{◌≡◌, ℕ, suc, ◌<◌, Bool, true, false, not, ◌&&◌, ◌||◌, List, [], ◌∷◌, map, length, get_or, slice_index_or, Option, Some, is_some, unwrap_or, refl, sym, ap, ◌∙◌, subst, nat_eq, true≢false, arith}
use Rattle.std.specs.Cmp.{first_so, second_so}
use Rattle.std.specs.Cmp.Lexicographic.{pointwise}
use Rattle.std.specs.List.{list_any, All}
use Rattle.std.proofs.lemmas.List.Folds.{list_all-append}
use Rattle.std.proofs.lemmas.List.Elements.{All-cons, All-append, All-map}
use Rattle.rsml_syntax.specs.declared.syntax.Cell.{Cell}
use Rattle.rsml_syntax.specs.declared.syntax.Cell.TheVariants as cells
use Rattle.rsml_syntax.specs.rules.Tables.{allows, column, below}
use Rattle.and_or_tables.specs.declared.ground.GroundRow.{GroundRow}
use Rattle.and_or_tables.specs.declared.ground.GroundTable.{GroundTable}
use Rattle.and_or_tables.specs.Ground.{known, ground_row, ground_table}
use Rattle.and_or_tables.specs.Shape.{PhrasesBelow, cells_of, columns}
use Rattle.and_or_tables.proofs.Columns.{width-ground}
use Rattle.macros.specs.declared.asked.Literal.{Literal}
use Rattle.macros.specs.contracts.asked.LiteralPartialEq.TheImpl as literal_eq
use Rattle.rsml_meaning.proofs.Same.{nat_same, nat_itself}
use Rattle.macros.specs.declared.asked.Asked.{Asked}
use Rattle.macros.specs.declared.asked.Asked.TheVariants as asked
use Rattle.macros.specs.Asked.{literal_truth, column_truth, columns_truth, asked_truth, wants, column_of, columns_of, columns_in, ColumnBelow, HaveSameColumns}

-- The truths of columns.

and_true : (b : Bool) → (b && true) ≡ b
and_true true = refl
and_true false = refl

wanted_is : (truths : List Bool) (phrase : ℕ) (cell : Cell) → column_truth truths (wants phrase cell) ≡ allows cell (known truths phrase)
wanted_is truths phrase cells.T = and_true (known truths phrase)
wanted_is truths phrase cells.F = and_true (not (known truths phrase))
wanted_is truths phrase cells.Dot = refl

column_is : (truths : List Bool) (place : ℕ) (rows : List GroundRow) → column_truth truths (column_of place rows) ≡ column (map (ground_row truths) rows) place
column_is truths place [] = refl
column_is truths place (row ∷ rows) =
    let cell = slice_index_or row.cells place cells.Dot in
    list_all-append (literal_truth truths) (wants row.phrase cell) (column_of place rows)
    ∙ (λ i. wanted_is truths row.phrase cell i && column_is truths place rows i)

some_is : (truths : List Bool) (rows : List GroundRow) (places : List ℕ) → columns_truth truths (map (λ place. column_of place rows) places) ≡ list_any (column (map (ground_row truths) rows)) places
some_is truths rows [] = refl
some_is truths rows (place ∷ places) = λ i. column_is truths place rows i || some_is truths rows places i

-- the truth of a table is that of its columns
pub table_is : (truths : List Bool) (table : GroundTable) (rows : List GroundRow) (count : ℕ) (lists : List (List Literal)) → rows ≡ table.rows → count ≡ columns (cells_of table) → lists ≡ columns_of count rows
    → columns_truth truths lists ≡ ground_table truths table
table_is truths table rows count lists same many is =
    ap (columns_truth truths) is
    ∙ some_is truths rows (below count)
    ∙ ap (λ (rs : List GroundRow). list_any (column (map (ground_row truths) rs)) (below count)) same
    ∙ ap (λ (n : ℕ). list_any (column (map (ground_row truths) table.rows)) (below n)) (many ∙ sym (width-ground truths table.rows))

-- The phrases of columns.

wants_below : (count phrase : ℕ) (cell : Cell) → phrase < count → ColumnBelow count (wants phrase cell)
wants_below count phrase cells.T l = All-cons (λ (x : Literal). x.phrase < count) _ [] l (λ k d m. absurd (omega (arith, m)))
wants_below count phrase cells.F l = All-cons (λ (x : Literal). x.phrase < count) _ [] l (λ k d m. absurd (omega (arith, m)))
wants_below count phrase cells.Dot l = λ k d m. absurd (omega (arith, m))

column_below : (count place : ℕ) (rows : List GroundRow) → All (λ row. row.phrase < count) rows → ColumnBelow count (column_of place rows)
column_below count place [] h = λ k d m. absurd (omega (arith, m))
column_below count place (row ∷ rows) h =
    All-append (λ (x : Literal). x.phrase < count) (wants row.phrase (slice_index_or row.cells place cells.Dot)) (column_of place rows)
    (wants_below count row.phrase (slice_index_or row.cells place cells.Dot) (h 0 row (omega arith)))
    (column_below count place rows (λ k d m. h (suc k) d (omega (arith, m))))

-- each column names phrases of the rows
pub columns_below : (count n : ℕ) (rows : List GroundRow) → All (λ row. row.phrase < count) rows → All (ColumnBelow count) (columns_of n rows)
columns_below count n rows h = All-map (ColumnBelow count) (λ place. column_of place rows) (below n) (λ k d m. column_below count (slice_index_or (below n) k d) rows h)

unmapped : {A B : Type 0} (P : B → Type 0) (f : A → B) (xs : List A) → All P (map f xs) → All (λ x. P (f x)) xs
unmapped P f [] h = λ k d m. absurd (omega (arith, m))
unmapped P f (x ∷ xs) h = All-cons (λ y. P (f y)) x xs (h 0 (f x) (omega arith)) (unmapped P f xs (λ k d m. h (suc k) d (omega (arith, m))))

pub table_below : {A : Type 0} (count n : ℕ) (table : GroundTable) (rows : List GroundRow) (f : A → List Literal) (lists : List A) → rows ≡ table.rows → map f lists ≡ columns_of n rows
    → PhrasesBelow count table → All (λ c. ColumnBelow count (f c)) lists
table_below count n table rows f lists same is below =
    unmapped (ColumnBelow count) f lists
    (subst (All (ColumnBelow count)) (sym is) (columns_below count n rows (subst (All (λ (row : GroundRow). row.phrase < count)) (sym same) below)))

-- the first row has a cell for each column
pub first_many : (table : GroundTable) (rows : List GroundRow) (row : GroundRow) → 0 < length table.rows → rows ≡ table.rows → length (get_or rows 0 row).cells ≡ columns (cells_of table)
first_many table rows row some same = ap (λ (rs : List GroundRow). length (get_or rs 0 row).cells) same ∙ by table.rows some
  where
    by : (rs : List GroundRow) → 0 < length rs → length (get_or rs 0 row).cells ≡ columns (map (λ r. r.cells) rs)
    by [] l = absurd (omega (arith, l))
    by (r ∷ rs) l = refl

-- Columns that are compared as equal are the same.

abbrev equal_literals : Literal → Literal → Bool
equal_literals x y = (literal_eq.ghosts).eq x y

new_literal : ℕ → Bool → Literal
new_literal phrase wanted = record { phrase = phrase; wanted = wanted }

literal_same : (x y : Literal) → equal_literals x y ≡ true → x ≡ y
unfolding new_literal
literal_same x y h = by x.phrase y.phrase x.wanted y.wanted h
  where
    by : (p q : ℕ) (a b : Bool) → equal_literals (record { phrase = p; wanted = a }) (record { phrase = q; wanted = b }) ≡ true → new_literal p a ≡ new_literal q b
    by p q true true h = ap (λ (n : ℕ). new_literal n true) (nat_same p q (first_so (nat_eq p q) true h))
    by p q false false h = ap (λ (n : ℕ). new_literal n false) (nat_same p q (first_so (nat_eq p q) true h))
    by p q true false h = absurd (true≢false (sym (second_so (nat_eq p q) false h)))
    by p q false true h = absurd (true≢false (sym (second_so (nat_eq p q) false h)))

column_same : (xs ys : List Literal) → pointwise equal_literals xs ys ≡ true → xs ≡ ys
column_same [] [] h = refl
column_same (x ∷ xs) (y ∷ ys) h = λ i. literal_same x y (first_so (equal_literals x y) (pointwise equal_literals xs ys) h) i ∷ column_same xs ys (second_so (equal_literals x y) (pointwise equal_literals xs ys) h) i
column_same [] (y ∷ ys) h = absurd (true≢false (sym h))
column_same (x ∷ xs) [] h = absurd (true≢false (sym h))

pub columns_same : {A : Type 0} (f : A → List Literal) (xs ys : List A) → pointwise (λ x y. pointwise equal_literals (f x) (f y)) xs ys ≡ true → map f xs ≡ map f ys
columns_same f [] [] h = refl
columns_same f (x ∷ xs) (y ∷ ys) h =
    let rest = pointwise (λ v w. pointwise equal_literals (f v) (f w)) xs ys in
    λ i. column_same (f x) (f y) (first_so (pointwise equal_literals (f x) (f y)) rest h) i ∷ columns_same f xs ys (second_so (pointwise equal_literals (f x) (f y)) rest h) i
columns_same f [] (y ∷ ys) h = absurd (true≢false (sym h))
columns_same f (x ∷ xs) [] h = absurd (true≢false (sym h))

-- Columns that are the same are compared as equal.

literal_itself : (x : Literal) → equal_literals x x ≡ true
literal_itself x = by x.phrase x.wanted
  where
    by : (p : ℕ) (a : Bool) → equal_literals (record { phrase = p; wanted = a }) (record { phrase = p; wanted = a }) ≡ true
    by p true = ap (λ (b : Bool). b && true) (nat_itself p)
    by p false = ap (λ (b : Bool). b && true) (nat_itself p)

all_themselves : {A : Type 0} (E : A → A → Bool) → ((x : A) → E x x ≡ true) → (xs : List A) → pointwise E xs xs ≡ true
all_themselves E itself [] = refl
all_themselves E itself (x ∷ xs) = λ i. itself x i && all_themselves E itself xs i

of_mapped : {A : Type 0} (E : List Literal → List Literal → Bool) (f : A → List Literal) (xs ys : List A) → pointwise (λ x y. E (f x) (f y)) xs ys ≡ pointwise E (map f xs) (map f ys)
of_mapped E f [] [] = refl
of_mapped E f [] (y ∷ ys) = refl
of_mapped E f (x ∷ xs) [] = refl
of_mapped E f (x ∷ xs) (y ∷ ys) = ap (λ (b : Bool). E (f x) (f y) && b) (of_mapped E f xs ys)

pub same_columns : {A : Type 0} (f : A → List Literal) (xs ys : List A) → map f xs ≡ map f ys → pointwise (λ x y. pointwise equal_literals (f x) (f y)) xs ys ≡ true
same_columns f xs ys same =
    of_mapped (pointwise equal_literals) f xs ys
    ∙ ap (λ (lists : List (List Literal)). pointwise (pointwise equal_literals) lists (map f ys)) same
    ∙ all_themselves (pointwise equal_literals) (all_themselves equal_literals literal_itself) (map f ys)

-- Guards that have the same columns are true together.

pub same_list : (xs ys : List (List Literal)) → Some xs ≡ Some ys → xs ≡ ys
same_list xs ys same = ap (λ (o : Option (List (List Literal))). unwrap_or o []) same

truth_of_columns : (truths : List Bool) (a : Asked) (columns : List (List Literal)) → columns_in a ≡ Some columns → asked_truth truths a ≡ columns_truth truths columns
truth_of_columns truths (asked.Columns lists) columns same = ap (columns_truth truths) (same_list (map (λ c. c.items) lists.items) columns same)
truth_of_columns truths (asked.Single x) columns same = absurd (true≢false (sym (ap is_some same)))
truth_of_columns truths (asked.Masks guard) columns same = absurd (true≢false (sym (ap is_some same)))

pub truths_same : (truths : List Bool) (a b : Asked) → HaveSameColumns a b → asked_truth truths a ≡ asked_truth truths b
truths_same truths a b h = truth_of_columns truths a h.0 h.1 ∙ sym (truth_of_columns truths b h.0 h.2)

-- One literal alone.

or_false : (b : Bool) → (b || false) ≡ b
or_false true = refl
or_false false = refl

-- the truth of columns with one literal alone
pub single_is : (truths : List Bool) (x : Literal) (columns : List (List Literal)) → columns ≡ (x ∷ []) ∷ [] → literal_truth truths x ≡ columns_truth truths columns
single_is truths x columns is =
    sym (ap (columns_truth truths) is ∙ or_false (literal_truth truths x && true) ∙ and_true (literal_truth truths x))

-- it is below where each of the columns is
pub single_below : {A : Type 0} (count : ℕ) (x : Literal) (f : A → List Literal) (lists : List A) → map f lists ≡ (x ∷ []) ∷ [] → All (λ c. ColumnBelow count (f c)) lists → x.phrase < count
single_below count x f lists is all =
    (subst (All (ColumnBelow count)) is (All-map (ColumnBelow count) f lists all)) 0 (x ∷ []) (omega arith) 0 x (omega arith)
