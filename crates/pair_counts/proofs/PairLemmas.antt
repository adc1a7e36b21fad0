-- The pairs of rows, and those of columns that no row has, by their groups.
use Rattle.std.proofs.Common.{◌≡◌, ℕ, ◌+◌, ◌<◌, ◌≤◌, ◌==◌, Bool, true, false, not, ◌&&◌, ◌||◌, nat_eq, List, [], ◌∷◌, ◌++◌, map, filter, flat_map, length, refl, sym, ap, ◌∙◌, ⊎_elim, true≢false}
use Rattle.std.specs.Cmp.{IsEquivalence, and_equiv, on_equiv, nat_eq_equiv}
use Rattle.std.specs.List.{list_any, IsDistinct}
use Rattle.std.proofs.lemmas.Bool.{cases_lt}
use Rattle.std.proofs.lemmas.List.Folds.{list_any-append}
use Rattle.std.proofs.lemmas.Bool.{eqb-true}
use Rattle.rsml_base.specs.Counting.{adds, distinct}
use Rattle.pair_counts.specs.declared.blocks.Block.{Block}
use Rattle.pair_counts.specs.Grouped.{places_of, places_at}
use Rattle.pair_counts.specs.Blocks.{list_at, row, column, pairs, same_pair, is_in_rows}
use Rattle.pair_counts.specs.Sets.{is_among}
use Rattle.pair_counts.proofs.Grouping.{many_alike, many_beside}
use Rattle.pair_counts.proofs.GroupLemmas.{any_of_blocks, many_in_groups, many_passing}
use Rattle.pair_counts.proofs.InverseLemmas.{list_past}
use Rattle.pair_counts.proofs.OnceLemmas.{there, any_flat}

pair_equiv : IsEquivalence same_pair
pair_equiv = and_equiv (on_equiv (λ (p : ℕ × ℕ). p.0) nat_eq_equiv) (on_equiv (λ (p : ℕ × ℕ). p.1) nat_eq_equiv)

or_either : (a b : Bool) → (a || b) ≡ (b || a)
or_either true true = refl
or_either true false = refl
or_either false true = refl
or_either false false = refl

and_either : (a b : Bool) → (a && b) ≡ (b && a)
and_either true true = refl
and_either true false = refl
and_either false true = refl
and_either false false = refl

-- A NUMBER THAT TWO LISTS HAVE

both_ways : (a b : Bool) → (a ≡ true → b ≡ true) → (b ≡ true → a ≡ true) → a ≡ b
both_ways true b h k = sym (h refl)
both_ways false true h k = k refl
both_ways false false h k = refl

found : (test : ℕ → Bool) (xs : List ℕ) → list_any test xs ≡ true → (x : ℕ) × (is_among nat_eq xs x ≡ true) × (test x ≡ true)
found test [] h = absurd (true≢false (sym h))
found test (x ∷ xs) h = by (test x) refl h (found test xs)
  where
    or_true : (b : Bool) → (b || true) ≡ true
    or_true true = refl
    or_true false = refl

    by : (b : Bool) → test x ≡ b → (b || list_any test xs) ≡ true → (list_any test xs ≡ true → (y : ℕ) × (is_among nat_eq xs y ≡ true) × (test y ≡ true)) →
        (y : ℕ) × (is_among nat_eq (x ∷ xs) y ≡ true) × (test y ≡ true)
    by true e k rest = (x, ap (λ b. b || is_among nat_eq xs x) (nat_eq_equiv.refl x), e)
    by false e k rest = let r = rest k in (r.0, ap (λ b. nat_eq r.0 x || b) r.1 ∙ or_true (nat_eq r.0 x), r.2)

-- one that is in both is found from either side
meet : (s t : ℕ → Bool) (xs ys : List ℕ) → ((p : ℕ) → is_among nat_eq xs p ≡ t p) → ((p : ℕ) → t p ≡ true → is_among nat_eq ys p ≡ s p) → list_any s xs ≡ list_any t ys
meet s t xs ys of_xs of_ys = both_ways (list_any s xs) (list_any t ys) from_xs from_ys
  where
    from_xs : list_any s xs ≡ true → list_any t ys ≡ true
    from_xs h = let r = found s xs h in let passes = sym (of_xs r.0) ∙ r.1 in there nat_eq t (λ a b e. ap t (eqb-true a b e)) ys r.0 (of_ys r.0 passes ∙ r.2) passes

    from_ys : list_any t ys ≡ true → list_any s xs ≡ true
    from_ys h = let r = found t ys h in there nat_eq s (λ a b e. ap s (eqb-true a b e)) xs r.0 (of_xs r.0 ∙ r.2) (sym (of_ys r.0 r.2) ∙ r.1)

-- COLUMNS AND ROWS BY THEIR GROUPS

-- whether rows have a pair, by the lists of its first number
in_rows_is : (lists : List (List ℕ)) (rows : List Block) (n c : ℕ) → is_in_rows lists rows (n, c) ≡ is_among nat_eq (flat_map (list_at lists) (places_of rows n)) c
in_rows_is lists rows n c = any_of_blocks nat_eq same_pair (λ a b. (a, b)) (λ a c b d. refl) (λ a place. list_at lists place) rows n c

-- the pairs of rows
pub rows_counted : (lists : List (List ℕ)) (rows : List Block) (groups : List (ℕ × List ℕ)) →
    IsDistinct nat_eq (map (λ g. g.0) groups) → ((n : ℕ) → places_at groups n ≡ places_of rows n) →
    length (distinct same_pair (flat_map (row lists) rows)) ≡ adds (λ g. length (distinct nat_eq (flat_map (list_at lists) g.1))) groups
rows_counted lists rows groups differ have =
    many_in_groups nat_eq same_pair (λ a b. (a, b)) (λ a c b d. refl) (λ p. p.0) (λ p. p.1) (λ q. refl) (λ a place. list_at lists place) rows groups differ have pair_equiv

-- all pairs: those of rows, and those of columns that are no pairs of rows
pub pairs_counted : (lists : List (List ℕ)) (columns rows : List Block) →
    length (distinct same_pair (flat_map (row lists) rows)) + length (distinct same_pair (filter (λ p. not (is_in_rows lists rows p)) (flat_map (column lists) columns)))
    ≡ length (distinct same_pair (pairs lists columns rows))
pairs_counted lists columns rows =
    let of_columns = flat_map (column lists) columns in
    let of_rows = flat_map (row lists) rows in
    sym (many_beside same_pair pair_equiv of_rows of_columns)
    ∙ many_alike same_pair pair_equiv (of_rows ++ of_columns) (of_columns ++ of_rows)
    (λ q.
    list_any-append (same_pair q) of_rows of_columns
    ∙ or_either (list_any (same_pair q) of_rows) (list_any (same_pair q) of_columns)
    ∙ sym (list_any-append (same_pair q) of_columns of_rows))

module _ (lists : List (List ℕ)) (rows : List Block) (named : List (List ℕ)) (lists_with : List (ℕ × List ℕ))
    (named_are : (place n : ℕ) → place < length lists → is_among nat_eq (list_at named place) n ≡ is_among nat_eq (places_of rows n) place)
    (with_are : (c place : ℕ) → is_among nat_eq (places_at lists_with c) place ≡ is_among nat_eq (list_at lists place) c) where
  -- a row has a pair just where it names a list with the second number
  named_is : (n c : ℕ) → is_in_rows lists rows (n, c) ≡ is_among nat_eq (flat_map (list_at named) (places_at lists_with c)) n
  named_is n c =
      in_rows_is lists rows n c
      ∙ any_flat (nat_eq c) (list_at lists) (places_of rows n)
      ∙ sym (meet (λ p. is_among nat_eq (list_at named p) n) (λ p. is_among nat_eq (list_at lists p) c) (places_at lists_with c) (places_of rows n) (with_are c) named_by)
      ∙ sym (any_flat (nat_eq n) (list_at named) (places_at lists_with c))
    where
      named_by : (p : ℕ) → is_among nat_eq (list_at lists p) c ≡ true → is_among nat_eq (places_of rows n) p ≡ is_among nat_eq (list_at named p) n
      named_by p h = ⊎_elim
          (λ (l : p < length lists). sym (named_are p n l))
          (λ (l : length lists ≤ p). absurd (true≢false (sym h ∙ ap (λ ns. is_among nat_eq ns c) (list_past lists p l))))
          (cases_lt p (length lists))

  -- the pairs of columns that are no pairs of rows
  pub columns_counted : (columns : List Block) (groups : List (ℕ × List ℕ)) →
      IsDistinct nat_eq (map (λ g. g.0) groups) → ((n : ℕ) → places_at groups n ≡ places_of columns n) →
      length (distinct same_pair (filter (λ p. not (is_in_rows lists rows p)) (flat_map (column lists) columns)))
      ≡ adds (λ g. length (distinct nat_eq (filter (λ n. not (is_among nat_eq (flat_map (list_at named) (places_at lists_with g.0)) n)) (flat_map (list_at lists) g.1)))) groups
  columns_counted columns groups differ have =
      many_passing nat_eq same_pair (λ a b. (b, a)) (λ a c b d. and_either (b == d) (a == c)) (λ p. p.1) (λ p. p.0) (λ q. refl) (λ a place. list_at lists place) columns groups
      differ have pair_equiv (λ p. not (is_in_rows lists rows p))
      ∙ (λ i. adds (λ g. length (distinct nat_eq (filter (λ n. not (named_is n g.0 i)) (flat_map (list_at lists) g.1)))) groups)
