-- How many numbers sets have, by the lists that they stand for.
use Rattle.std.proofs.Common.{◌≡◌, ℕ, zero, suc, ◌+◌, ◌*◌, ◌/◌, ◌%◌, ◌≤◌, ◌==◌, ◌||◌, ◌&&◌, not, Bool, true, false, cond, List, [], ◌∷◌, length, filter, flat_map, slice_get, Option, Some, None, refl, sym, ap, subst, ◌∙◌, arith, true≢false}
use Rattle.std.specs.Cmp.{IsEquivalence}
use Rattle.std.specs.Int.{bit_at}
use Rattle.std.specs.List.{list_any, IsDistinct}
use Rattle.std.specs.Option.{option_map_or}
use Rattle.std.proofs.lemmas.List.{get_or_past}
use Rattle.std.proofs.lemmas.Map.Steps.{list_any_congr}
use Rattle.std.proofs.lemmas.Nat.Bits.{bit_at-zero}
use Rattle.rsml_base.specs.Counting.{distinct}
use Rattle.pair_counts.specs.Bits.{bit, one, adds_below}
use Rattle.pair_counts.specs.Blocks.{list_at}
use Rattle.pair_counts.specs.Sets.{Sets, is_among, passes_at, is_in, joined_at, IsWhole}
use Rattle.pair_counts.proofs.BitLemmas.{alone, below_append, below_first, below_same}
use Rattle.pair_counts.proofs.Grouping.{many_keys}
use Rattle.pair_counts.proofs.OnceLemmas.{any_once, any_flat, any_filter, distinct_filter, distinct_once}
use Rattle.pair_counts.proofs.Sums.{filter_first}

below_zero : (f : ℕ → ℕ) (n : ℕ) → ((i : ℕ) → f i ≡ 0) → adds_below f n ≡ 0
below_zero f zero h = refl
below_zero f (suc n) h = omega (arith, below_zero f n h, h n)

-- the numbers that pass, by their places
filter_below : {A : Type 0} (test : A → Bool) (numbers : List A) (n : ℕ) → length numbers ≤ n → adds_below (λ q. one (passes_at test numbers q)) n ≡ length (filter test numbers)
filter_below test [] n h = below_zero (λ q. one (passes_at test [] q)) n (λ i. refl)
filter_below test (x ∷ xs) zero h = absurd (omega arith)
filter_below test (x ∷ xs) (suc n) h =
    omega (
      arith,
      below_first (λ q. one (passes_at test (x ∷ xs) q)) n,
      filter_below test xs n (omega arith),
      filter_first test x xs,
    )

past_words : (words : List ℕ) (q : ℕ) → 64 * length words ≤ q → bit words q ≡ false
past_words words q h =
    ap (λ w. bit_at w (q % 64) == 1) (get_or_past words (q / 64) 0 (omega arith))
    ∙ ap (λ d. d == 1) (bit_at-zero (q % 64))

in_some : {A : Type 0} (test : List A → Bool) (lists : List (List A)) (p : ℕ) → test [] ≡ false → test (list_at lists p) ≡ true → list_any test lists ≡ true
in_some test [] p h t = absurd (true≢false (sym t ∙ h))
in_some test (l ∷ lists) zero h t = ap (λ b. b || list_any test lists) t
in_some test (l ∷ lists) (suc p) h t = ap (λ b. test l || b) (in_some test lists p h t) ∙ or_true (test l)
  where
    or_true : (b : Bool) → (b || true) ≡ true
    or_true true = refl
    or_true false = refl

pub filter_true : {A : Type 0} (xs : List A) → filter (λ n. true) xs ≡ xs
filter_true [] = refl
filter_true (x ∷ xs) = ap (λ ys. x ∷ ys) (filter_true xs)

-- what does not fail passes
pub filter_not_not : {A : Type 0} (test : A → Bool) (xs : List A) → filter (λ n. not (not (test n))) xs ≡ filter test xs
filter_not_not test [] = refl
filter_not_not test (x ∷ xs) = λ i. cond (twice (test x) i) (x ∷ filter_not_not test xs i) (filter_not_not test xs i)
  where
    twice : (b : Bool) → not (not b) ≡ b
    twice true = refl
    twice false = refl

module _ {A : Type 0} (eq : A → A → Bool) (laws : IsEquivalence eq) where
  pub among_alike : (xs : List A) (a b : A) → eq a b ≡ true → is_among eq xs a ≡ is_among eq xs b
  among_alike xs a b e = list_any_congr laws a b xs e

  -- the numbers of a set that do not pass, by their places
  pub count_failing : (numbers xs : List A) (test : A → Bool) (a : List ℕ) → ((x y : A) → eq x y ≡ true → test x ≡ test y) → IsDistinct eq numbers →
      ((n : A) → is_among eq xs n ≡ true → is_among eq numbers n ≡ true) → ((q : ℕ) → bit a q ≡ is_in eq numbers xs q) →
      adds_below (λ q. one (bit a q && not (passes_at test numbers q))) (64 * length a) ≡ length (distinct eq (filter (λ n. not (test n)) xs))
  count_failing numbers xs test a alike differ whole of_a =
      let all = 64 * length a in
      let past : adds_below (λ i. failing (all + i)) (length numbers) ≡ 0 =
      below_zero (λ i. failing (all + i)) (length numbers) (λ i. ap (λ t. one (t && not (passes_at test numbers (all + i)))) (past_words a (all + i) (omega arith))) in
      let longer : adds_below failing all ≡ adds_below failing (all + length numbers) = omega (arith, below_append failing all (length numbers), past) in
      longer
      ∙ below_same failing (λ q. one (passes_at both numbers q)) (all + length numbers)
      (λ q l. (λ j. one (of_a q j && not (passes_at test numbers q))) ∙ ap one (by (slice_get numbers q)))
      ∙ filter_below both numbers (all + length numbers) (omega arith)
      ∙ many_keys eq laws (filter both numbers) (filter rest xs) (distinct_filter eq both numbers differ)
      (λ q.
      any_filter eq laws both (λ x y e. (λ j. among_alike xs x y e j && not (alike x y e j))) q numbers
      ∙ within q (is_among eq xs q) refl
      ∙ sym (any_filter eq laws rest (λ x y e. ap not (alike x y e)) q xs))
    where
      failing : ℕ → ℕ
      failing q = one (bit a q && not (passes_at test numbers q))

      rest : A → Bool
      rest n = not (test n)

      both : A → Bool
      both n = is_among eq xs n && not (test n)

      by : (o : Option A) → (option_map_or (is_among eq xs) o false && not (option_map_or test o false)) ≡ option_map_or both o false
      by None = refl
      by (Some n) = refl

      within : (q : A) (t : Bool) → is_among eq xs q ≡ t → (is_among eq numbers q && (is_among eq xs q && not (test q))) ≡ (is_among eq xs q && not (test q))
      within q true e = ap (λ n. n && (is_among eq xs q && not (test q))) (whole q e)
      within q false e = (λ j. is_among eq numbers q && (e j && not (test q))) ∙ none (is_among eq numbers q) ∙ sym (λ j. e j && not (test q))
        where
          none : (n : Bool) → (n && false) ≡ false
          none true = refl
          none false = refl

  -- the numbers of one set whose places are not in another, which has those of the numbers that pass
  pub count_is : (numbers xs : List A) (test : A → Bool) (a b : List ℕ) → ((x y : A) → eq x y ≡ true → test x ≡ test y) → IsDistinct eq numbers →
      ((n : A) → is_among eq xs n ≡ true → is_among eq numbers n ≡ true) →
      ((q : ℕ) → bit a q ≡ is_in eq numbers xs q) → ((q : ℕ) → bit b q ≡ passes_at test numbers q) →
      adds_below (alone a b) (64 * length a) ≡ length (distinct eq (filter (λ n. not (test n)) xs))
  count_is numbers xs test a b alike differ whole of_a of_b =
      below_same (alone a b) (λ q. one (bit a q && not (passes_at test numbers q))) (64 * length a) (λ q l. ap (λ t. one (bit a q && not t)) (of_b q))
      ∙ count_failing numbers xs test a alike differ whole of_a

  -- WHAT ALL LISTS HAVE

  in_joined_some : (lists : List (List A)) (places : List ℕ) (n : A) → is_among eq (flat_map (list_at lists) places) n ≡ true → is_among eq (flat_map (λ l. l) lists) n ≡ true
  in_joined_some lists places n h =
      any_flat (eq n) (λ l. l) lists
      ∙ some places (sym (any_flat (eq n) (list_at lists) places) ∙ h)
    where
      some : (ps : List ℕ) → list_any (λ p. is_among eq (list_at lists p) n) ps ≡ true → list_any (λ l. is_among eq l n) lists ≡ true
      some [] k = absurd (true≢false (sym k))
      some (p ∷ ps) k = by (is_among eq (list_at lists p) n) refl k (some ps)
        where
          by : (b : Bool) → is_among eq (list_at lists p) n ≡ b → (b || list_any (λ p. is_among eq (list_at lists p) n) ps) ≡ true →
              (list_any (λ p. is_among eq (list_at lists p) n) ps ≡ true → list_any (λ l. is_among eq l n) lists ≡ true) → list_any (λ l. is_among eq l n) lists ≡ true
          by true e k rest = in_some (λ l. is_among eq l n) lists p refl e
          by false e k rest = rest k

  pub whole_has : (sets : Sets A) (places : List ℕ) → IsWhole eq sets → (n : A) → is_among eq (joined_at sets places) n ≡ true → is_among eq sets.numbers n ≡ true
  whole_has sets places whole n h =
      ap (λ ns. is_among eq ns n) whole
      ∙ any_once eq (eq n) (λ a b e. laws.symm n a ∙ list_any_one a b e ∙ laws.symm b n) (flat_map (λ l. l) sets.lists)
      ∙ in_joined_some sets.lists places n h
    where
      list_any_one : (a b : A) → eq a b ≡ true → eq a n ≡ eq b n
      list_any_one a b e = one_of (eq a n) (eq b n) (among_alike (n ∷ []) a b e)
        where
          one_of : (s t : Bool) → (s || false) ≡ (t || false) → s ≡ t
          one_of true true h = refl
          one_of true false h = h
          one_of false true h = h
          one_of false false h = refl

  pub whole_differs : (sets : Sets A) → IsWhole eq sets → IsDistinct eq sets.numbers
  whole_differs sets whole = subst (IsDistinct eq) (sym whole) (distinct_once eq laws (flat_map (λ l. l) sets.lists))

  -- against no places
  pub none_in_none : (numbers : List A) (q : ℕ) → is_in eq numbers [] q ≡ false
  none_in_none numbers q = by (slice_get numbers q)
    where
      by : (o : Option A) → option_map_or (is_among eq []) o false ≡ false
      by None = refl
      by (Some n) = refl
