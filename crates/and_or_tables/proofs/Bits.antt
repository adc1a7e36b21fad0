-- A column is true for the bits of a word exactly where the word's bits under its care word are its want word.
use Rattle.std.proofs.Common.{◌≡◌, Decides, ℕ, ◌+◌, ◌*◌, ◌/◌, ◌%◌, suc, zero, Bool, true, false, ◌&&◌, cond, eqb, List, [], ◌∷◌, ◌++◌, length, get_or, map, min, refl, ap, sym, ◌∙◌, arith}
use Rattle.std.specs.List.{zip}
use Rattle.std.specs.Simd.Lanes.{mask_l}
use Rattle.std.proofs.lemmas.List.{map-append}
use Rattle.std.proofs.lemmas.Nat.Bits.{bit_at-suc, bit_at_lowest}
use Rattle.std.proofs.lemmas.Simd.{map-map}
use Rattle.std.proofs.lemmas.Bool.Decides.{Decides-eqb, same_from_decides, nat_tests}
use lib.Bits.{bit_and, and_step, and_zero_r}
use Rattle.rsml_syntax.specs.declared.syntax.Cell.{Cell}
use Rattle.rsml_syntax.specs.declared.syntax.Cell.TheVariants as cells
use Rattle.rsml_syntax.specs.rules.Tables.{allows, column, below}
use Rattle.and_or_tables.specs.Asked.{bit, asked}
use Rattle.and_or_tables.specs.Cells.{cares, wants, care_word, want_word}

-- the bits of a word, from the lowest on, are as the cells of a column want them
abbrev pub fits : ℕ → List Cell → Bool
fits word [] = true
fits word (cell ∷ column) = allows cell (bit word 0) && fits (word / 2) column

-- 0 to n, from the first on
pub below-suc : (n : ℕ) → below (suc n) ≡ 0 ∷ map suc (below n)
below-suc zero = refl
below-suc (suc n) = ap (λ ns. ns ++ (suc n ∷ [])) (below-suc n) ∙ ap (λ ns. 0 ∷ ns) (sym (map-append suc (below n) (n ∷ [])))

pub bit-suc : (word k : ℕ) → bit word (suc k) ≡ bit (word / 2) k
bit-suc word k = ap (λ b. eqb b 1) (bit_at-suc word k)

-- the first row has the lowest bit, the others the next ones
pub asked-cons : (word : ℕ) (row : List Cell) (rows : List (List Cell)) → asked word (row ∷ rows) ≡ (bit word 0, row) ∷ asked (word / 2) rows
asked-cons word row rows =
    ap (λ ns. zip (map (bit word) ns) (row ∷ rows)) (below-suc (length rows))
    ∙ ap (λ bs. (bit word 0, row) ∷ zip bs rows) (map-map (bit word) suc (below (length rows)) ∙ ap (λ f. map f (below (length rows))) (λ i k. bit-suc word k i))

-- a column of a table asked with a word
pub column-asked : (word : ℕ) (rows : List (List Cell)) (place : ℕ) → column (asked word rows) place ≡ fits word (map (λ row. get_or row place cells.Dot) rows)
column-asked word [] place = refl
column-asked word (row ∷ rows) place =
    ap (λ rs. column rs place) (asked-cons word row rows)
    ∙ ap (λ b. allows (get_or row place cells.Dot) (bit word 0) && b) (column-asked (word / 2) rows place)

-- two tests of equations that follow from each other
same_test : (a b c d : ℕ) → (a ≡ b → c ≡ d) → (c ≡ d → a ≡ b) → eqb a b ≡ eqb c d
same_test a b c d there back = same_from_decides (eqb a b) (eqb c d) (Decides-eqb a b) (both (eqb c d) (Decides-eqb c d))
  where
    both : (r : Bool) → Decides r (c ≡ d) → Decides r (a ≡ b)
    both r h = (λ e. back (h.0 e), λ e. h.1 (there e))

-- the lowest bit under a mask apart from the others
low_bit : (word : ℕ) (b : Bool) (m : ℕ) → bit_and word (cond b 1 0 + 2 * m) ≡ bit_and (word / 2) m * 2 + min (word % 2) (cond b 1 0)
low_bit word b m =
    let half : (cond b 1 0 + 2 * m) / 2 ≡ m = elim b as (λ v. (cond v 1 0 + 2 * m) / 2 ≡ m) [ true ↦ omega arith | false ↦ omega arith ] in
    let rest : (cond b 1 0 + 2 * m) % 2 ≡ cond b 1 0 = elim b as (λ v. (cond v 1 0 + 2 * m) % 2 ≡ cond v 1 0) [ true ↦ omega arith | false ↦ omega arith ] in
    and_step word (cond b 1 0 + 2 * m) ∙ ap (λ n. bit_and (word / 2) n * 2 + min (word % 2) ((cond b 1 0 + 2 * m) % 2)) half ∙ ap (λ n. bit_and (word / 2) m * 2 + min (word % 2) n) rest

-- one cell, with the words of the others
one_cell : (cell : Cell) (word a b : ℕ) → eqb (a * 2 + min (word % 2) (cond (cares cell) 1 0)) (cond (wants cell) 1 0 + 2 * b) ≡ (allows cell (eqb (word % 2) 1) && eqb a b)
one_cell cells.T word a b = grind (arith, nat_tests)
one_cell cells.F word a b = grind (arith, nat_tests)
one_cell cells.Dot word a b = same_test (a * 2 + min (word % 2) 0) (0 + 2 * b) a b (λ e. omega arith) (λ e. omega arith)

-- a column by its words
pub masks-fits : (word : ℕ) (column : List Cell) → eqb (bit_and word (mask_l (map cares column))) (mask_l (map wants column)) ≡ fits word column
masks-fits word [] = ap (λ n. eqb n 0) (and_zero_r word)
masks-fits word (cell ∷ column) =
    ap (λ n. eqb n (cond (wants cell) 1 0 + 2 * mask_l (map wants column))) (low_bit word (cares cell) (mask_l (map cares column)))
    ∙ one_cell cell word (bit_and (word / 2) (mask_l (map cares column))) (mask_l (map wants column))
    ∙ ap (λ n. allows cell (eqb n 1) && eqb (bit_and (word / 2) (mask_l (map cares column))) (mask_l (map wants column))) (sym (bit_at_lowest word))
    ∙ ap (λ b. allows cell (bit word 0) && b) (masks-fits (word / 2) column)

-- the words of a table's column
pub words-column : (word : ℕ) (rows : List (List Cell)) (place : ℕ) → eqb (bit_and word (care_word rows place)) (want_word rows place) ≡ column (asked word rows) place
words-column word rows place =
    let cell : List Cell → Cell = λ row. get_or row place cells.Dot in
    ap (λ n. eqb (bit_and word n) (want_word rows place)) (ap mask_l (sym (map-map cares cell rows)))
    ∙ ap (λ n. eqb (bit_and word (mask_l (map cares (map cell rows)))) n) (ap mask_l (sym (map-map wants cell rows)))
    ∙ masks-fits word (map cell rows)
    ∙ sym (column-asked word rows place)
