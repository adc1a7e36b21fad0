-- Bits of words: one put in, those of two words together, and how many there are.
use Rattle.std.proofs.Common.{add-suc, nat_lt, ◌≡◌, ℕ, zero, suc, ◌+◌, ◌-◌, ◌*◌, ◌/◌, ◌%◌, ◌^◌, ◌<◌, ◌≤◌, ◌==◌, ◌&&◌, ◌||◌, not, Bool, true, false, if◌then◌else◌, min, max, List, length, get_or, set, refl, sym, ap, ◌∙◌, ⊎_elim, arith}
use Rattle.std.specs.Int.{bit_at, bit_not}
use Rattle.std.specs.Int.RustNames.{bit_and, bit_or, count_ones}
use Rattle.std.proofs.lemmas.Bool.{ltb-false, ne_eqb, cases_eq}
use Rattle.std.proofs.lemmas.List.{get_or-set_same, get_or-set_other, get_or_past}
use Rattle.std.specs.Cmp.{nat_eq_equiv}
use Rattle.std.proofs.lemmas.Nat.Bits.{bit_at_lowest, bit_at-suc, bit_at-zero, bit_at_or, bit_at_and, bit_at_not, bit_at-lt, bit_at_set_same, bit_at_set_other, same_from_bits}
use Rattle.std.proofs.lemmas.Nat.{and_le_l}
use Rattle.std.proofs.Math.Nat.{pow-suc}
use mir.Syntax.{w64}
use lib.Count.{ones_step, ones-le}
use Rattle.rsml_base.specs.Counting.{shown}
use Rattle.pair_counts.specs.Bits.{bit, one, adds_below}

-- BITS OF A WORD

either_digit : (a b : ℕ) → a < 2 → b < 2 → (max a b == 1) ≡ (a == 1 || b == 1)
either_digit zero zero h k = refl
either_digit zero (suc b) h k = ap (λ n. n == 1) max_right
  where
    max_right : max 0 (suc b) ≡ suc b
    max_right = omega arith
either_digit (suc a) b h k =
    let e : suc a ≡ 1 = omega arith in
    ap (λ n. max n b == 1) e ∙ ap (λ n. n == 1) (largest b k) ∙ sym (ap (λ n. n == 1 || b == 1) e)
  where
    largest : (b : ℕ) → b < 2 → max 1 b ≡ 1
    largest b k = omega arith

pub bit_or_is : (words others joined : List ℕ) → ((place : ℕ) → get_or joined place 0 ≡ bit_or (get_or words place 0) (get_or others place 0)) →
    (q : ℕ) → bit joined q ≡ (bit words q || bit others q)
bit_or_is words others joined h q =
    let a = get_or words (q / 64) 0 in
    let b = get_or others (q / 64) 0 in
    ap (λ w. bit_at w (q % 64) == 1) (h (q / 64))
    ∙ ap (λ d. d == 1) (bit_at_or a b (q % 64))
    ∙ either_digit (bit_at a (q % 64)) (bit_at b (q % 64)) (bit_at-lt a (q % 64)) (bit_at-lt b (q % 64))

or_zero : (a : ℕ) → bit_or a 0 ≡ a
or_zero a = same_from_bits (bit_or a 0) a (λ i. bit_at_or a 0 i ∙ ap (λ n. max (bit_at a i) n) (bit_at-zero i) ∙ least (bit_at a i))
  where
    least : (n : ℕ) → max n 0 ≡ n
    least n = omega arith

-- all words that there are in the others
pub joined_all : (others : List ℕ) (a i n : ℕ) → length others ≤ n → (if nat_lt i n then bit_or a (get_or others i 0) else a) ≡ bit_or a (get_or others i 0)
joined_all others a i n h = by (nat_lt i n) refl
  where
    by : (b : Bool) → nat_lt i n ≡ b → (if b then bit_or a (get_or others i 0) else a) ≡ bit_or a (get_or others i 0)
    by true e = refl
    by false e = sym (ap (λ b. bit_or a b) (get_or_past others i 0 (omega (arith, ltb-false i n e))) ∙ or_zero a)

-- one more place
pub bit_set : (words : List ℕ) (place word : ℕ) → place / 64 < length words → word ≡ get_or words (place / 64) 0 → (q : ℕ) →
    bit (set words (place / 64) (bit_or word (1 * 2 ^ (place % 64) % 18446744073709551616))) q ≡ (bit words q || place == q)
bit_set words place word h is q = ⊎_elim same_word other_word (cases_eq (q / 64) (place / 64))
  where
    more : ℕ
    more = bit_or word (1 * 2 ^ (place % 64) % 18446744073709551616)

    or_true : (b : Bool) → (b || true) ≡ true
    or_true true = refl
    or_true false = refl

    or_false : (b : Bool) → (b || false) ≡ b
    or_false true = refl
    or_false false = refl

    apart : (place ≡ q → ⊥) → bit words q ≡ (bit words q || place == q)
    apart ne = sym (or_false (bit words q)) ∙ ap (λ b. bit words q || b) (sym (ne_eqb place q ne))

    same_place : q / 64 ≡ place / 64 → q % 64 ≡ place % 64 → bit_at more (q % 64) == 1 ≡ (bit words q || place == q)
    same_place e f =
        let one_place : place ≡ q = omega arith in
        ap (λ k. bit_at more k == 1) f
        ∙ ap (λ d. d == 1) (bit_at_set_same w64 word (place % 64) (omega arith))
        ∙ sym (or_true (bit words q))
        ∙ ap (λ b. bit words q || b) (sym (nat_eq_equiv.refl place) ∙ ap (λ n. place == n) one_place)

    other_place : q / 64 ≡ place / 64 → (q % 64 ≡ place % 64 → ⊥) → bit_at more (q % 64) == 1 ≡ (bit words q || place == q)
    other_place e ne =
        ap (λ d. d == 1) (bit_at_set_other w64 word (place % 64) (omega arith) (q % 64) ne)
        ∙ ap (λ w. bit_at w (q % 64) == 1) (is ∙ ap (λ i. get_or words i 0) (sym e))
        ∙ apart (λ p. ne (ap (λ n. n % 64) (sym p)))

    same_word : q / 64 ≡ place / 64 → bit (set words (place / 64) more) q ≡ (bit words q || place == q)
    same_word e =
        ap (λ i. bit_at (get_or (set words (place / 64) more) i 0) (q % 64) == 1) e
        ∙ ap (λ w. bit_at w (q % 64) == 1) (get_or-set_same words (place / 64) more 0 h)
        ∙ ⊎_elim (same_place e) (other_place e) (cases_eq (q % 64) (place % 64))

    other_word : (q / 64 ≡ place / 64 → ⊥) → bit (set words (place / 64) more) q ≡ (bit words q || place == q)
    other_word ne = ap (λ w. bit_at w (q % 64) == 1) (get_or-set_other words (place / 64) (q / 64) more 0 ne) ∙ apart (λ p. ne (ap (λ n. n / 64) (sym p)))

-- SUMS OVER THE NUMBERS BELOW

pub below_append : (f : ℕ → ℕ) (n k : ℕ) → adds_below f (n + k) ≡ adds_below f n + adds_below (λ i. f (n + i)) k
below_append f n zero = ap (adds_below f) (plus_zero n) ∙ sym (plus_zero (adds_below f n))
  where
    plus_zero : (m : ℕ) → m + 0 ≡ m
    plus_zero m = omega arith
below_append f n (suc k) = ap (adds_below f) (add-suc n k) ∙ omega (arith, below_append f n k)

pub below_first : (f : ℕ → ℕ) (n : ℕ) → adds_below f (suc n) ≡ f 0 + adds_below (λ i. f (suc i)) n
below_first f zero = omega arith
below_first f (suc n) = omega (arith, below_first f n)

pub below_same : (f g : ℕ → ℕ) (n : ℕ) → ((i : ℕ) → i < n → f i ≡ g i) → adds_below f n ≡ adds_below g n
below_same f g zero h = refl
below_same f g (suc n) h = omega (arith, below_same f g n (λ i l. h i (omega arith)), h n (omega arith))

-- HOW MANY

ones_below : (k n : ℕ) → n < 2 ^ k → count_ones n ≡ adds_below (λ i. bit_at n i) k
ones_below zero n h = omega (arith, ones-le 0 n h)
ones_below (suc k) n h =
    let half : n / 2 < 2 ^ k = omega (arith, pow-suc 2 k) in
    omega (
      arith,
      ones_step n,
      ones_below k (n / 2) half,
      below_first (λ i. bit_at n i) k,
      bit_at_lowest n,
      below_same (λ i. bit_at n (suc i)) (λ i. bit_at (n / 2) i) k (λ i l. bit_at-suc n i),
    )

-- a digit that the other word does not have
rest_digit : (a b : ℕ) → a < 2 → b < 2 → min a (1 - b) ≡ one (a == 1 && not (b == 1))
rest_digit zero b h k = omega arith
rest_digit (suc a) zero h k = let e : suc a ≡ 1 = omega arith in ap (λ n. min n 1) e ∙ sym (ap (λ n. one (n == 1 && true)) e)
rest_digit (suc a) (suc b) h k =
    let e : suc a ≡ 1 = omega arith in
    let f : suc b ≡ 1 = omega arith in
    (λ i. min (e i) (1 - f i)) ∙ sym (λ i. one (e i == 1 && not (f i == 1)))

rest_ones : (a b : ℕ) → a < 2 ^ 64 → b < 2 ^ 64 → count_ones (bit_and a (bit_not w64 b)) ≡ adds_below (λ i. one (bit_at a i == 1 && not (bit_at b i == 1))) 64
rest_ones a b h k =
    ones_below 64 (bit_and a (bit_not w64 b)) (omega (arith, and_le_l a (bit_not w64 b)))
    ∙ below_same (λ i. bit_at (bit_and a (bit_not w64 b)) i) (λ i. one (bit_at a i == 1 && not (bit_at b i == 1))) 64
    (λ i l.
    bit_at_and a (bit_not w64 b) i
    ∙ ap (λ d. min (bit_at a i) d) (bit_at_not w64 b i k l)
    ∙ rest_digit (bit_at a i) (bit_at b i) (bit_at-lt a i) (bit_at-lt b i))

in_word : (words : List ℕ) (place i : ℕ) → i < 64 → bit words (64 * place + i) ≡ (bit_at (get_or words place 0) i == 1)
in_word words place i h =
    let e : (64 * place + i) / 64 ≡ place = omega arith in
    let f : (64 * place + i) % 64 ≡ i = omega arith in
    λ j. bit_at (get_or words (e j) 0) (f j) == 1

module _ (words others : List ℕ) where
  abbrev pub alone : ℕ → ℕ
  alone q = one (bit words q && not (bit others q))

  -- one more word is counted
  pub count_turn : (place sum next : ℕ) → get_or words place 0 < 2 ^ 64 → get_or others place 0 < 2 ^ 64 → sum ≡ shown (adds_below alone (64 * place)) →
      next ≡ shown (sum + count_ones (bit_and (get_or words place 0) (bit_not w64 (get_or others place 0)))) → next ≡ shown (adds_below alone (64 * (place + 1)))
  count_turn place sum next h k before added =
      let a = get_or words place 0 in
      let b = get_or others place 0 in
      let word : adds_below (λ i. alone (64 * place + i)) 64 ≡ count_ones (bit_and a (bit_not w64 b)) =
      below_same (λ i. alone (64 * place + i)) (λ i. one (bit_at a i == 1 && not (bit_at b i == 1))) 64
      (λ i l. (λ j. one (in_word words place i l j && not (in_word others place i l j))))
      ∙ sym (rest_ones a b h k) in
      let more : 64 * (place + 1) ≡ 64 * place + 64 = omega arith in
      omega (arith, ap (adds_below alone) more, below_append alone (64 * place) 64, word)
