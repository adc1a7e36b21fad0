-- The cells that the words of a table's columns spell.
use Rattle.std.proofs.Common.{◌≡◌, ℕ, ◌<◌, suc, zero, Bool, true, false, ◌||◌, cond, eqb, List, [], ◌∷◌, ◌++◌, length, get_or, map, refl, ap, sym, ◌∙◌, arith, inl, inr}
use Rattle.std.specs.List.{list_any, All}
use Rattle.std.specs.Simd.Lanes.{mask_l}
use Rattle.std.proofs.lemmas.List.{length-map, length-append, get_or-map, get_or_at, get_or_append_left, ext_get_or}
use Rattle.std.proofs.lemmas.List.Folds.{list_any-append}
use Rattle.std.proofs.lemmas.Bool.{cases_lt}
use Rattle.std.proofs.lemmas.Simd.{map-map, zip2-map, bit_mask_l}
use Rattle.rsml_syntax.specs.declared.syntax.Cell.{Cell}
use Rattle.rsml_syntax.specs.declared.syntax.Cell.TheVariants as cells
use Rattle.rsml_syntax.specs.rules.Tables.{below}
use Rattle.and_or_tables.specs.Asked.{bit}
use Rattle.and_or_tables.specs.Cells.{cares, wants, care_word, want_word, spelled_cell, spelled_row, spelled}
use Rattle.and_or_tables.proofs.Bits.{below-suc}

pub length-below : (n : ℕ) → length (below n) ≡ n
length-below zero = refl
length-below (suc n) = omega (arith, length-append (below n) (n ∷ []), length-below n)

pub get_or-below : (n k : ℕ) → k < n → get_or (below n) k 0 ≡ k
get_or-below zero k within = absurd (omega arith)
get_or-below (suc n) k within =
    elim (cases_lt k n) [
      | inl less ↦ get_or_append_left (below n) (n ∷ []) 0 k (rw (length-below n) less) ∙ get_or-below n k less
      | inr more ↦
          let last : k ≡ n = omega arith in
          ap (λ i. get_or (below n ++ (n ∷ [])) i 0) last ∙ get_or_at (below n) n [] 0 n (length-below n) ∙ sym last
    ]

-- a function of the places, at a place
pub get_or-places : {A : Type 0} (f : ℕ → A) (n k : ℕ) (d : A) → k < n → get_or (map f (below n)) k d ≡ f k
get_or-places f n k d within = get_or-map f (below n) k 0 d (rw (length-below n) within) ∙ ap f (get_or-below n k within)

-- the items of a list, by their places
pub items-places : {A : Type 0} (xs : List A) (d : A) → map (λ k. get_or xs k d) (below (length xs)) ≡ xs
items-places [] d = refl
items-places (x ∷ xs) d =
    ap (map (λ k. get_or (x ∷ xs) k d)) (below-suc (length xs))
    ∙ ap (λ ys. x ∷ ys) (map-map (λ k. get_or (x ∷ xs) k d) suc (below (length xs)) ∙ items-places xs d)

-- functions that agree on the places
pub map-places : {A : Type 0} (f g : ℕ → A) (n : ℕ) → ((k : ℕ) → k < n → f k ≡ g k) → map f (below n) ≡ map g (below n)
map-places f g n same =
    ext_get_or (f 0) (map f (below n)) (map g (below n)) (length-map (below n) f ∙ sym (length-map (below n) g))
    (λ k within. let less : k < n = omega (arith, length-map (below n) f, length-below n) in get_or-places f n k (f 0) less ∙ same k less ∙ sym (get_or-places g n k (f 0) less))

pub any-places : (f g : ℕ → Bool) (n : ℕ) → ((k : ℕ) → k < n → f k ≡ g k) → list_any f (below n) ≡ list_any g (below n)
any-places f g zero same = refl
any-places f g (suc n) same =
    list_any-append f (below n) (n ∷ [])
    ∙ ap (λ b. b || (f n || false)) (any-places f g n (λ k within. same k (omega arith)))
    ∙ ap (λ b. list_any g (below n) || (b || false)) (same n (omega arith))
    ∙ sym (list_any-append g (below n) (n ∷ []))

-- bit k of a word is item k of the list that it was made of
pub bit-mask : (bits : List Bool) (k : ℕ) → bit (mask_l bits) k ≡ get_or bits k false
bit-mask bits k = ap (λ n. eqb n 1) (bit_mask_l bits k) ∙ digit (get_or bits k false)
  where
    digit : (b : Bool) → eqb (cond b 1 0) 1 ≡ b
    digit true = refl
    digit false = refl

cell_again : (cell : Cell) → spelled_cell (cares cell) (wants cell) ≡ cell
cell_again cells.T = refl
cell_again cells.F = refl
cell_again cells.Dot = refl

-- bit k of a column's words is of the cell in row k + 1
bit-word : (ask : Cell → Bool) (rows : List (List Cell)) (place k : ℕ) → k < length rows
    → bit (mask_l (map (λ row. ask (get_or row place cells.Dot)) rows)) k ≡ ask (get_or (get_or rows k []) place cells.Dot)
bit-word ask rows place k within =
    let asks : List Cell → Bool = λ row. ask (get_or row place cells.Dot) in
    bit-mask (map asks rows) k ∙ get_or-map asks rows k [] false within

-- one row, spelled by the words of all columns
row_again : (rows : List (List Cell)) (w k : ℕ) → k < length rows → length (get_or rows k []) ≡ w
    → spelled_row (map (care_word rows) (below w)) (map (want_word rows) (below w)) k ≡ get_or rows k []
row_again rows w k within long =
    let row = get_or rows k [] in
    let spell : ℕ → ℕ → Cell = λ c m. spelled_cell (bit c k) (bit m k) in
    zip2-map spell (care_word rows) (want_word rows) (below w)
    ∙ map-places (λ p. spell (care_word rows p) (want_word rows p)) (λ p. get_or row p cells.Dot) w
    (λ p _. ap (λ c. spelled_cell c (bit (want_word rows p) k)) (bit-word cares rows p k within) ∙ ap (spelled_cell (cares (get_or row p cells.Dot))) (bit-word wants rows p k within) ∙ cell_again (get_or row p cells.Dot))
    ∙ ap (λ n. map (λ p. get_or row p cells.Dot) (below n)) (sym long)
    ∙ items-places row cells.Dot

-- the words of a table spell its cells
pub spelled-words : (rows : List (List Cell)) (w : ℕ) → All (λ row. length row ≡ w) rows
    → spelled (length rows) (map (care_word rows) (below w)) (map (want_word rows) (below w)) ≡ rows
spelled-words rows w even =
    let care = map (care_word rows) (below w) in
    let want = map (want_word rows) (below w) in
    let long : length (spelled (length rows) care want) ≡ length rows = length-map (below (length rows)) (spelled_row care want) ∙ length-below (length rows) in
    ext_get_or [] (spelled (length rows) care want) rows long
    (λ k within. let less : k < length rows = omega arith in get_or-places (spelled_row care want) (length rows) k [] less ∙ row_again rows w k less (even k [] less))
