-- Bits of words: one put in, and those of two words together.
use Rattle.std.proofs.Common.{nat_lt, ◌≡◌, ℕ, zero, suc, ◌+◌, ◌-◌, ◌*◌, ◌/◌, ◌%◌, ◌^◌, ◌<◌, ◌≤◌, ◌==◌, ◌&&◌, ◌||◌, Bool, true, false, if◌then◌else◌, min, max, List, [], ◌∷◌, length, get_or, set, refl, sym, ap, ◌∙◌, ⊎_elim, arith}
use Rattle.std.specs.Int.{bit_at}
use Rattle.std.specs.Int.RustNames.{bit_and, bit_or}
use Rattle.std.specs.List.{list_all}
use Rattle.std.proofs.lemmas.Bool.{ltb-false, eqb-true, ne_eqb, cases_eq, cases_lt}
use Rattle.std.proofs.lemmas.List.{get_or-set_same, get_or-set_other, get_or_past}
use Rattle.std.specs.Cmp.{nat_eq_equiv, first_so, second_so}
use Rattle.std.proofs.lemmas.Nat.Bits.{bit_at-zero, bit_at-trailing_zeros, bit_at_or, bit_at_and, bit_at-lt, bit_at_set_same, bit_at_set_other, bit_at_above, same_from_bits}
use Rattle.std.proofs.lemmas.Nat.{shr-shr, shr_le}
use lib.Count.{count_trailing_zeros}
use mir.Syntax.{w64}

-- whether a place is in the set
abbrev pub bit : List ℕ → ℕ → Bool
bit words place = bit_at (get_or words (place / 64) 0) (place % 64) == 1

either_digit : (a b : ℕ) → a < 2 → b < 2 → (max a b == 1) ≡ (a == 1 || b == 1)
either_digit zero zero h k = refl
either_digit zero (suc b) h k = ap (λ n. n == 1) max_right
  where
    max_right : max 0 (suc b) ≡ suc b
    max_right = omega arith
either_digit (suc a) b h k =
    let e : suc a ≡ 1 = omega arith in
    ap (λ n. max n b == 1) e ∙ ap (λ n. n == 1) (largest b k) ∙ sym (ap (λ n. n == 1 || b == 1) e)
  where
    largest : (b : ℕ) → b < 2 → max 1 b ≡ 1
    largest b k = omega arith

both_digit : (a b : ℕ) → a < 2 → b < 2 → (min a b == 1) ≡ (a == 1 && b == 1)
both_digit zero b h k = let e : min 0 b ≡ 0 = omega arith in ap (λ n. n == 1) e
both_digit (suc a) b h k =
    let e : suc a ≡ 1 = omega arith in
    ap (λ n. min n b == 1) e ∙ ap (λ n. n == 1) (least b k) ∙ sym (ap (λ n. n == 1 && b == 1) e)
  where
    least : (b : ℕ) → b < 2 → min 1 b ≡ b
    least b k = omega arith

pub or_is : (words others joined : List ℕ) → ((place : ℕ) → get_or joined place 0 ≡ bit_or (get_or words place 0) (get_or others place 0)) →
    (q : ℕ) → bit joined q ≡ (bit words q || bit others q)
or_is words others joined h q =
    let a = get_or words (q / 64) 0 in
    let b = get_or others (q / 64) 0 in
    ap (λ w. bit_at w (q % 64) == 1) (h (q / 64))
    ∙ ap (λ d. d == 1) (bit_at_or a b (q % 64))
    ∙ either_digit (bit_at a (q % 64)) (bit_at b (q % 64)) (bit_at-lt a (q % 64)) (bit_at-lt b (q % 64))

pub and_is : (words others joined : List ℕ) → ((place : ℕ) → get_or joined place 0 ≡ bit_and (get_or words place 0) (get_or others place 0)) →
    (q : ℕ) → bit joined q ≡ (bit words q && bit others q)
and_is words others joined h q =
    let a = get_or words (q / 64) 0 in
    let b = get_or others (q / 64) 0 in
    ap (λ w. bit_at w (q % 64) == 1) (h (q / 64))
    ∙ ap (λ d. d == 1) (bit_at_and a b (q % 64))
    ∙ both_digit (bit_at a (q % 64)) (bit_at b (q % 64)) (bit_at-lt a (q % 64)) (bit_at-lt b (q % 64))

-- one more place
pub put_is : (words : List ℕ) (place word : ℕ) → place / 64 < length words → word ≡ get_or words (place / 64) 0 → (q : ℕ) →
    bit (set words (place / 64) (bit_or word (1 * 2 ^ (place % 64) % 18446744073709551616))) q ≡ (bit words q || place == q)
put_is words place word h is q = ⊎_elim same_word other_word (cases_eq (q / 64) (place / 64))
  where
    more : ℕ
    more = bit_or word (1 * 2 ^ (place % 64) % 18446744073709551616)

    or_true : (b : Bool) → (b || true) ≡ true
    or_true true = refl
    or_true false = refl

    or_false : (b : Bool) → (b || false) ≡ b
    or_false true = refl
    or_false false = refl

    apart : (place ≡ q → ⊥) → bit words q ≡ (bit words q || place == q)
    apart ne = sym (or_false (bit words q)) ∙ ap (λ b. bit words q || b) (sym (ne_eqb place q ne))

    same_place : q / 64 ≡ place / 64 → q % 64 ≡ place % 64 → bit_at more (q % 64) == 1 ≡ (bit words q || place == q)
    same_place e f =
        let one_place : place ≡ q = omega arith in
        ap (λ k. bit_at more k == 1) f
        ∙ ap (λ d. d == 1) (bit_at_set_same w64 word (place % 64) (omega arith))
        ∙ sym (or_true (bit words q))
        ∙ ap (λ b. bit words q || b) (sym (nat_eq_equiv.refl place) ∙ ap (λ n. place == n) one_place)

    other_place : q / 64 ≡ place / 64 → (q % 64 ≡ place % 64 → ⊥) → bit_at more (q % 64) == 1 ≡ (bit words q || place == q)
    other_place e ne =
        ap (λ d. d == 1) (bit_at_set_other w64 word (place % 64) (omega arith) (q % 64) ne)
        ∙ ap (λ w. bit_at w (q % 64) == 1) (is ∙ ap (λ i. get_or words i 0) (sym e))
        ∙ apart (λ p. ne (ap (λ n. n % 64) (sym p)))

    same_word : q / 64 ≡ place / 64 → bit (set words (place / 64) more) q ≡ (bit words q || place == q)
    same_word e =
        ap (λ i. bit_at (get_or (set words (place / 64) more) i 0) (q % 64) == 1) e
        ∙ ap (λ w. bit_at w (q % 64) == 1) (get_or-set_same words (place / 64) more 0 h)
        ∙ ⊎_elim (same_place e) (other_place e) (cases_eq (q % 64) (place % 64))

    other_word : (q / 64 ≡ place / 64 → ⊥) → bit (set words (place / 64) more) q ≡ (bit words q || place == q)
    other_word ne = ap (λ w. bit_at w (q % 64) == 1) (get_or-set_other words (place / 64) (q / 64) more 0 ne) ∙ apart (λ p. ne (ap (λ n. n / 64) (sym p)))

-- no places
zero_word : (ws : List ℕ) (i : ℕ) → list_all (λ w. w == 0) ws ≡ true → get_or ws i 0 ≡ 0
zero_word [] zero h = refl
zero_word [] (suc i) h = refl
zero_word (w ∷ ws) zero h = eqb-true w 0 (first_so (w == 0) (list_all (λ v. v == 0) ws) h)
zero_word (w ∷ ws) (suc i) h = zero_word ws i (second_so (w == 0) (list_all (λ v. v == 0) ws) h)

pub none_of_zero : (word : ℕ) (k : ℕ) → word ≡ 0 → (bit_at word k == 1) ≡ false
none_of_zero word k h = ap (λ w. bit_at w k == 1) h ∙ ap (λ d. d == 1) (bit_at-zero k)

pub none_is : (ws : List ℕ) → list_all (λ w. w == 0) ws ≡ true → (q : ℕ) → bit ws q ≡ false
none_is ws h q = none_of_zero (get_or ws (q / 64) 0) (q % 64) (zero_word ws (q / 64) h)

-- Words within others.

digit : (n : ℕ) → n < 2 → (n == 1) ≡ true → n ≡ 1
digit zero h k = cc
digit (suc n) h k = omega (arith, h)

implied : (a b : ℕ) → a < 2 → b < 2 → max a b ≡ b → (a == 1) ≡ true → (b == 1) ≡ true
implied a b h k e f = let one = digit a h f in let two : b ≡ 1 = omega (arith, one, e, h, k) in ap (λ n. n == 1) two

pub within_is : (words others : List ℕ) → ((place : ℕ) → bit_or (get_or words place 0) (get_or others place 0) ≡ get_or others place 0) →
    (q : ℕ) → bit words q ≡ true → bit others q ≡ true
within_is words others h q k =
    let a = get_or words (q / 64) 0 in
    let b = get_or others (q / 64) 0 in
    implied (bit_at a (q % 64)) (bit_at b (q % 64)) (bit_at-lt a (q % 64)) (bit_at-lt b (q % 64))
    (sym (bit_at_or a b (q % 64)) ∙ ap (λ w. bit_at w (q % 64)) (h (q / 64))) k

greatest : (a b : ℕ) → a < 2 → b < 2 → ((a == 1) ≡ true → (b == 1) ≡ true) → max a b ≡ b
greatest zero b h k f = omega arith
greatest (suc a) b h k f = let e : suc a ≡ 1 = omega arith in let two = digit b k (f (ap (λ n. n == 1) e)) in omega (arith, e, two)

-- where a set is within another, so is each word
pub word_within : (words others : List ℕ) → ((q : ℕ) → bit words q ≡ true → bit others q ≡ true) → (place : ℕ) → get_or words place 0 < 2 ^ 64 → get_or others place 0 < 2 ^ 64
    → bit_or (get_or words place 0) (get_or others place 0) ≡ get_or others place 0
word_within words others h place small smaller = same_from_bits (bit_or a b) b (λ i. bit_at_or a b i ∙ ⊎_elim (low i) (high i) (cases_lt i 64))
  where
    a : ℕ
    a = get_or words place 0

    b : ℕ
    b = get_or others place 0

    low : (i : ℕ) → i < 64 → max (bit_at a i) (bit_at b i) ≡ bit_at b i
    low i l =
        let e : (64 * place + i) / 64 ≡ place = omega arith in
        let f : (64 * place + i) % 64 ≡ i = omega arith in
        greatest (bit_at a i) (bit_at b i) (bit_at-lt a i) (bit_at-lt b i)
        (λ k. (λ j. bit_at (get_or others (sym e j) 0) (sym f j) == 1) ∙ h (64 * place + i) ((λ j. bit_at (get_or words (e j) 0) (f j) == 1) ∙ k))

    high : (i : ℕ) → 64 ≤ i → max (bit_at a i) (bit_at b i) ≡ bit_at b i
    high i l = let e = bit_at_above a 64 i small l in omega (arith, e)

-- all 16 words are done
pub all_or : (words others joined : List ℕ) (n : ℕ) → length words ≡ 16 → length others ≡ 16 → 16 ≤ n
    → ((i : ℕ) → get_or joined i 0 ≡ (if nat_lt i n then bit_or (get_or words i 0) (get_or others i 0) else get_or words i 0))
    → (q : ℕ) → bit joined q ≡ (bit words q || bit others q)
all_or words others joined n long same done h = or_is words others joined (λ i. h i ∙ by i (nat_lt i n) refl)
  where
    by : (i : ℕ) (b : Bool) → nat_lt i n ≡ b → (if b then bit_or (get_or words i 0) (get_or others i 0) else get_or words i 0) ≡ bit_or (get_or words i 0) (get_or others i 0)
    by i true e = refl
    by i false e =
        let past : n ≤ i = ltb-false i n e in
        get_or_past words i 0 (omega (arith, past, long, done))
        ∙ sym ((λ j. bit_or (get_or_past words i 0 (omega (arith, past, long, done)) j) (get_or_past others i 0 (omega (arith, past, same, done)) j)) ∙ refl)

pub all_and : (words others joined : List ℕ) (n : ℕ) → length words ≡ 16 → length others ≡ 16 → 16 ≤ n
    → ((i : ℕ) → get_or joined i 0 ≡ (if nat_lt i n then bit_and (get_or words i 0) (get_or others i 0) else get_or words i 0))
    → (q : ℕ) → bit joined q ≡ (bit words q && bit others q)
all_and words others joined n long same done h = and_is words others joined (λ i. h i ∙ by i (nat_lt i n) refl)
  where
    by : (i : ℕ) (b : Bool) → nat_lt i n ≡ b → (if b then bit_and (get_or words i 0) (get_or others i 0) else get_or words i 0) ≡ bit_and (get_or words i 0) (get_or others i 0)
    by i true e = refl
    by i false e =
        let past : n ≤ i = ltb-false i n e in
        get_or_past words i 0 (omega (arith, past, long, done))
        ∙ sym ((λ j. bit_and (get_or_past words i 0 (omega (arith, past, long, done)) j) (get_or_past others i 0 (omega (arith, past, same, done)) j)) ∙ refl)

-- each of the 16 words is within
pub all_within : (words others : List ℕ) (n : ℕ) → length words ≡ 16 → length others ≡ 16 → 16 ≤ n
    → ((i : ℕ) → i < n → bit_or (get_or words i 0) (get_or others i 0) ≡ get_or others i 0) → (q : ℕ) → bit words q ≡ true → bit others q ≡ true
all_within words others n long same done h = within_is words others (λ i. ⊎_elim (λ l. h i l) (past i) (cases_lt i n))
  where
    past : (i : ℕ) → n ≤ i → bit_or (get_or words i 0) (get_or others i 0) ≡ get_or others i 0
    past i l =
        (λ j. bit_or (get_or_past words i 0 (omega (arith, l, long, done)) j) (get_or_past others i 0 (omega (arith, l, same, done)) j))
        ∙ sym (get_or_past others i 0 (omega (arith, l, same, done)))

-- no event is past the words
pub none_past : (words : List ℕ) (q : ℕ) → length words ≡ 16 → 1024 ≤ q → bit words q ≡ false
none_past words q long l = none_of_zero (get_or words (q / 64) 0) (q % 64) (get_or_past words (q / 64) 0 (omega (arith, long, l)))

-- the bits of a word behind a place
bit_behind : (word place i : ℕ) → bit_at (word / 2 ^ place) i ≡ bit_at word (place + i)
bit_behind word place i = ap (λ x. x % 2) (shr-shr word place i)

-- the event at a place behind another in its word
in_word : (words : List ℕ) (at i : ℕ) → at % 64 + i < 64 → bit words (at + i) ≡ (bit_at (get_or words (at / 64) 0 / 2 ^ (at % 64)) i == 1)
in_word words at i fits =
    let one : (at + i) / 64 ≡ at / 64 = omega (arith, fits) in
    let two : (at + i) % 64 ≡ at % 64 + i = omega (arith, fits) in
    ap (λ k. bit_at (get_or words k 0) ((at + i) % 64) == 1) one
    ∙ ap (λ k. bit_at (get_or words (at / 64) 0) k == 1) two
    ∙ ap (λ d. d == 1) (sym (bit_behind (get_or words (at / 64) 0) (at % 64) i))

-- a number in the word of another is so many places behind it
none_between : (words : List ℕ) (at many : ℕ) → ((i : ℕ) → i < many → bit_at (get_or words (at / 64) 0 / 2 ^ (at % 64)) i ≡ 0) → at % 64 + many ≤ 64
    → (q : ℕ) → at ≤ q → q < at + many → bit words q ≡ false
none_between words at many none fits q l m =
    let e : at + (q - at) ≡ q = omega arith in
    ap (bit words) (sym e)
    ∙ in_word words at (q - at) (omega arith)
    ∙ ap (λ d. d == 1) (none (q - at) (omega arith))

-- the lowest 1 of a word behind a place is the least event there
pub least_in_word : (words : List ℕ) (at : ℕ) → get_or words (at / 64) 0 < 2 ^ 64 → 0 < get_or words (at / 64) 0 / 2 ^ (at % 64)
    → (at % 64 + count_trailing_zeros 64 (get_or words (at / 64) 0 / 2 ^ (at % 64)) < 64)
    × (bit words (at + count_trailing_zeros 64 (get_or words (at / 64) 0 / 2 ^ (at % 64))) ≡ true)
    × ((q : ℕ) → at ≤ q → q < at + count_trailing_zeros 64 (get_or words (at / 64) 0 / 2 ^ (at % 64)) → bit words q ≡ false)
least_in_word words at small some = (within, in_word words at zeros within ∙ ap (λ d. d == 1) (lowest.1), none_between words at zeros (lowest.2) (omega (arith, within)))
  where
    word : ℕ
    word = get_or words (at / 64) 0

    rest : ℕ
    rest = word / 2 ^ (at % 64)

    zeros : ℕ
    zeros = count_trailing_zeros 64 rest

    lowest : (zeros < 64) × (bit_at rest zeros ≡ 1) × ((i : ℕ) → i < zeros → bit_at rest i ≡ 0)
    lowest = bit_at-trailing_zeros w64 rest some (omega (arith, small, shr_le word (at % 64)))

    within : at % 64 + zeros < 64
    within = ⊎_elim (λ l. l) (λ past. absurd (omega (arith, bit_at_above word 64 (at % 64 + zeros) small past, sym (bit_behind word (at % 64) zeros) ∙ lowest.1))) (cases_lt (at % 64 + zeros) 64)

-- a word that is empty behind a place has no event there
pub none_behind : (words : List ℕ) (at : ℕ) → get_or words (at / 64) 0 / 2 ^ (at % 64) ≡ 0 → (q : ℕ) → at ≤ q → q < (at / 64 + 1) * 64 → bit words q ≡ false
none_behind words at e q l m =
    none_between words at (64 - at % 64) (λ i _. ap (λ w. bit_at w i) e ∙ bit_at-zero i) (omega arith) q l (omega (arith, m))
