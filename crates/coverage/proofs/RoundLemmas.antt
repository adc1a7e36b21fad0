-- One round more, by what reacts in it.
use Rattle.std.proofs.Common.{◌≡◌, ℕ, ◌+◌, ◌&&◌, Bool, true, false, cond, List, [], ◌∷◌, ◌++◌, map, length, get_or, zip, count_by, slice_index_or, refl, sym, ap, ◌∙◌, arith}
use Rattle.std.specs.Prelude.{if◌then◌else◌}
use Rattle.std.specs.Simd.Lanes.{mask_l}
use Rattle.std.proofs.lemmas.List.{length-map}
use Rattle.std.proofs.lemmas.List.Sums.{sum_by_push}
use Rattle.rsml_syntax.specs.declared.syntax.Cell.{Cell}
use Rattle.rsml_syntax.specs.declared.syntax.Guard.{Guard}
use Rattle.rsml_syntax.specs.declared.syntax.Guard.TheVariants as guards
use Rattle.rsml_syntax.specs.declared.syntax.Row.{Row}
use Rattle.rsml_syntax.specs.declared.syntax.Spec.{Spec}
use Rattle.rsml_syntax.specs.limits.Comparisons.{Indices}
use Rattle.rsml_syntax.specs.rules.Tables.{TableRow, column, below}
use Rattle.rsml_meaning.specs.Truth.{View, phrase, row_truth, view}
use Rattle.rsml_meaning.specs.Steps.{Round}
use Rattle.and_or_tables.specs.Asked.{bit, asked}
use Rattle.and_or_tables.proofs.Spelling.{bit-mask, map-places, items-places, get_or-places, length-below}
use Rattle.micro_step.specs.Rows.{guard_rows, bits_of}
use Rattle.coverage.specs.Coverage.{Reacting, Covered, reacts, shows, rows_of, cells_in, columns_in, covered}
use Rattle.coverage.specs.Counters.{one_more}

-- Rows.

-- a table that is asked with the bits of truths has these truths
asked_truths : (truths : List Bool) (cells : List (List Cell)) → length truths ≡ length cells → asked (bits_of truths) cells ≡ zip truths cells
asked_truths truths cells long =
    ap (λ bs. zip bs cells)
    (map-places (bit (mask_l truths)) (λ k. get_or truths k false) (length cells) (λ k _. bit-mask truths k)
    ∙ ap (λ n. map (λ k. get_or truths k false) (below n)) (sym long)
    ∙ items-places truths false)

as_many : (v : View) (r : Indices) (g : Guard) → length (guard_rows v r g) ≡ length (cells_in g)
as_many v r guards.Always = refl
as_many v r (guards.Table rows) = length-map rows (λ (row : Row). phrase v r row.phrase) ∙ sym (length-map rows (λ (row : Row). row.cells))

side_by_side : (v : View) (r : Indices) (g : Guard) → zip (guard_rows v r g) (cells_in g) ≡ rows_of v r g
side_by_side v r guards.Always = refl
side_by_side v r (guards.Table rows) = by rows
  where
    by : (rows : List Row) → zip (map (λ (row : Row). phrase v r row.phrase) rows) (map (λ (row : Row). row.cells) rows) ≡ map (row_truth v r) rows
    by [] = refl
    by (row ∷ rows) = ap (λ (rest : List TableRow). row_truth v r row ∷ rest) (by rows)

-- the bits of the truths of a table's rows, beside its cells, are its rows
rows_are : (v : View) (r : Indices) (g : Guard) → asked (bits_of (guard_rows v r g)) (cells_in g) ≡ rows_of v r g
rows_are v r g = asked_truths (guard_rows v r g) (cells_in g) (as_many v r g) ∙ side_by_side v r g

-- Rounds.

-- what a list of counts is after 1 more at some places
added : (f g : ℕ → ℕ) (n : ℕ) (more : ℕ → Bool) → ((place : ℕ) → f place + (if more place then 1 else 0) ≡ g place)
    → map (λ place. slice_index_or (map f (below n)) place 0 + (if more place then 1 else 0)) (below (length (map f (below n)))) ≡ map g (below n)
added f g n more h =
    ap (λ m. map (λ place. slice_index_or (map f (below n)) place 0 + (if more place then 1 else 0)) (below m)) (length-map (below n) f ∙ length-below n)
    ∙ map-places (λ place. slice_index_or (map f (below n)) place 0 + (if more place then 1 else 0)) g n
    (λ place l. ap (λ (k : ℕ). k + (if more place then 1 else 0)) (get_or-places f n place 0 l) ∙ h place)

one_round : (p : Round → Bool) (rs : List Round) (r : Round) (b : Bool) → p r ≡ b → count_by p rs + (if b then 1 else 0) ≡ count_by p (rs ++ r ∷ [])
one_round p rs r b e = ap (λ (c : Bool). count_by p rs + (if c then 1 else 0)) (sym e) ∙ sym (sum_by_push (λ x. cond (p x) 1 0) rs r)

-- of its parts
abbrev made : ℕ → List ℕ → Covered
made count columns = record { count = count; columns = columns }

-- where it reacts, it is counted, and so is each column that is true
pub covered_more : (s : Spec) (rs : List Round) (r : Round) (x : Reacting) → reacts s x r ≡ true
    → one_more (bits_of (guard_rows (view s r.world) x.indices x.guard)) (cells_in x.guard) (covered s rs x) ≡ covered s (rs ++ r ∷ []) x
covered_more s rs r x h =
    let v = view s r.world in
    let bits = bits_of (guard_rows v x.indices x.guard) in
    let is : (place : ℕ) → shows s x place r ≡ column (asked bits (cells_in x.guard)) place =
    λ place. ap (λ (b : Bool). b && column (rows_of v x.indices x.guard) place) h
    ∙ ap (λ (rows : List TableRow). column rows place) (sym (rows_are v x.indices x.guard)) in
    let columns = added (λ place. count_by (shows s x place) rs) (λ place. count_by (shows s x place) (rs ++ r ∷ [])) (columns_in x.guard) (column (asked bits (cells_in x.guard)))
    (λ place. one_round (shows s x place) rs r (column (asked bits (cells_in x.guard)) place) (is place)) in
    let count = one_round (reacts s x) rs r true h in
    λ i. made (count i) (columns i)

-- where it does not react, nothing is counted
pub covered_same : (s : Spec) (rs : List Round) (r : Round) (x : Reacting) → reacts s x r ≡ false → covered s rs x ≡ covered s (rs ++ r ∷ []) x
covered_same s rs r x h =
    let none : (n : ℕ) → n ≡ n + 0 = λ n. omega arith in
    let count = none (count_by (reacts s x) rs) ∙ one_round (reacts s x) rs r false h in
    let columns = map-places (λ place. count_by (shows s x place) rs) (λ place. count_by (shows s x place) (rs ++ r ∷ [])) (columns_in x.guard)
    (λ place l. none (count_by (shows s x place) rs) ∙ one_round (shows s x place) rs r false (ap (λ (b : Bool). b && column (rows_of (view s r.world) x.indices x.guard) place) h)) in
    λ i. made (count i) (columns i)
