-- Texts that are put together of lines and words, and cut again.
use Rattle.std.proofs.Common.{◌≡◌, ℕ, suc, ◌+◌, ◌*◌, ◌≤◌, Bool, true, false, not, ◌==◌, List, [], ◌∷◌, ◌++◌, length, refl, sym, ap, ◌∙◌, append_assoc, length-append, arith, Some}
use Rattle.std.specs.Cmp.{first_so, second_so}
use Rattle.std.specs.List.{list_all}
use Rattle.rsml_meaning.specs.Words.{Each}
use Rattle.rsml_meaning.specs.EventLines.{Bytes, pieces, before_close}
use Rattle.rsml_meaning.specs.EventFiles.{Line, without_empty_last, placed_from, without_return}
use Rattle.demonstrating.specs.Events.{whole}

-- no byte parts the text
abbrev pub is_unparted : (ℕ → Bool) → Bytes → Bool
is_unparted parts text = list_all (λ c. not (parts c)) text

not_is : (b : Bool) → not b ≡ true → b ≡ false
not_is true h = sym h
not_is false h = refl

pub one_piece : (parts : ℕ → Bool) (text : Bytes) → is_unparted parts text ≡ true → pieces parts text ≡ text ∷ []
one_piece parts [] h = refl
one_piece parts (c ∷ cs) h =
    let others = one_piece parts cs (second_so (not (parts c)) (is_unparted parts cs) h) in
    rw (not_is (parts c) (first_so (not (parts c)) (is_unparted parts cs) h), others) refl

-- a piece, a byte that parts, and what is left
pub next_piece : (parts : ℕ → Bool) (text : Bytes) (c : ℕ) (rest : Bytes) → is_unparted parts text ≡ true → parts c ≡ true
    → pieces parts (text ++ (c ∷ rest)) ≡ text ∷ pieces parts rest
next_piece parts [] c rest h k = rw k refl
next_piece parts (d ∷ ds) c rest h k =
    let others = next_piece parts ds c rest (second_so (not (parts d)) (is_unparted parts ds) h) k in
    rw (not_is (parts d) (first_so (not (parts d)) (is_unparted parts ds) h), others) refl

-- Lines.

abbrev pub is_feed : ℕ → Bool
is_feed c = c == 10

pieces_whole : (ls : List Bytes) → list_all (is_unparted is_feed) ls ≡ true → pieces is_feed (whole ls) ≡ ls ++ ([] ∷ [])
pieces_whole [] h = refl
pieces_whole (l ∷ ls) h =
    ap (pieces is_feed) (append_assoc l (10 ∷ []) (whole ls))
    ∙ next_piece is_feed l 10 (whole ls) (first_so (is_unparted is_feed l) (list_all (is_unparted is_feed) ls) h) refl
    ∙ ap (λ ps. l ∷ ps) (pieces_whole ls (second_so (is_unparted is_feed l) (list_all (is_unparted is_feed) ls) h))

last_off : (ls : List Bytes) → without_empty_last (ls ++ ([] ∷ [])) ≡ ls
last_off [] = refl
last_off ([] ∷ []) = refl
last_off ((c ∷ cs) ∷ []) = refl
last_off ([] ∷ l ∷ ls) = ap (λ xs. [] ∷ xs) (last_off (l ∷ ls))
last_off ((c ∷ cs) ∷ l ∷ ls) = ap (λ xs. (c ∷ cs) ∷ xs) (last_off (l ∷ ls))

-- the lines of a text of lines are these
pub lines_again : (ls : List Bytes) → list_all (is_unparted is_feed) ls ≡ true → without_empty_last (pieces is_feed (whole ls)) ≡ ls
lines_again ls h = ap without_empty_last (pieces_whole ls h) ∙ last_off ls

pub each_placed : (P : Line → Type 0) (ls : List Bytes) (number start : ℕ)
    → Each (λ l. (number start : ℕ) → P (record { number = number; start = start; bytes = l })) ls → Each P (placed_from number start ls)
each_placed P [] number start h = tt
each_placed P (l ∷ ls) number start h = (h.0 number start, each_placed P ls (suc number) (start + length l + 1) h.1)

pub whole_length : (n : ℕ) (ls : List Bytes) → Each (λ l. length l + 1 ≤ n) ls → length (whole ls) ≤ n * length ls
whole_length n [] h = omega arith
whole_length n (l ∷ ls) h =
    let others = whole_length n ls h.1 in
    let here = h.0 in
    let joined = length-append (l ++ (10 ∷ [])) (whole ls) in
    let line = length-append l (10 ∷ []) in
    omega (arith, others, here, joined, line)

-- a line without a return is as it is
pub no_return : (cs : Bytes) → list_all (λ c. not (c == 13)) cs ≡ true → without_return cs ≡ cs
no_return [] h = refl
no_return (c ∷ []) h = rw (not_is (c == 13) (first_so (not (c == 13)) true h)) refl
no_return (c ∷ d ∷ cs) h = ap (λ xs. c ∷ xs) (no_return (d ∷ cs) (second_so (not (c == 13)) (list_all (λ c. not (c == 13)) (d ∷ cs)) h))

-- what stands before a bracket at the end
pub closed : (cs : Bytes) → before_close (cs ++ (93 ∷ [])) ≡ Some cs
closed [] = refl
closed (c ∷ []) = refl
closed (c ∷ d ∷ cs) = rw (closed (d ∷ cs)) refl
