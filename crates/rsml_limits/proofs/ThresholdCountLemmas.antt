-- Entries of blocks count as the thresholds that they stand for.
use Rattle.std.proofs.Common.{◌≡◌, ℕ, ◌<◌, ◌==◌, Bool, true, false, cond, ◌&&◌, ◌||◌, List, [], ◌∷◌, ◌++◌, map, filter, length, Option, None, Some, if◌then◌else◌, refl, sym, ap, subst, ◌∙◌, arith, inl, inr, ℤ, pos}
use Rattle.std.specs.Prelude.{flat_map, slice_get, int_lt, int_le}
use Rattle.std.specs.List.{list_any, All, AllByRecursion, IsDistinct}
use Rattle.std.specs.Option.{option_map, option_map_or}
use Rattle.std.specs.Ordering.{int_eq}
use Rattle.std.proofs.Math.Bool.{and_comm}
use Rattle.std.proofs.lemmas.Bool.{cases_lt, eq-eqb}
use Rattle.std.proofs.lemmas.Int.{ints}
use Rattle.std.proofs.lemmas.List.{length-map, map-append}
use Rattle.std.proofs.lemmas.List.Elements.{All-head, All-tail, All-map, All-append, All-nil, filter-append, filter_agree, recursion_from_All}
use Rattle.std.proofs.lemmas.Map.Keys.{IsDistinct-cons, IsDistinct-head, IsDistinct-tail, apart_from_distinct}
use Rattle.std.proofs.lemmas.Option.{slice_get-map, slice_get-get_or}
use Rattle.std.proofs.lemmas.Simd.{map-map}
use Rattle.pair_counts.specs.declared.blocks.Block.{Block}
use Rattle.pair_counts.specs.declared.blocks.Range.{Range}
use Rattle.pair_counts.specs.Blocks.{list_at, is_within, entries, same_entry}
use Rattle.rsml_syntax.specs.text.Names.{Name}
use Rattle.rsml_syntax.specs.rules.Globals.{Globals, Known, meaning}
use Rattle.rsml_syntax.specs.limits.Limits.{distinct}
use Rattle.rsml_syntax.specs.limits.Comparisons.{InputCell, same_cell}
use Rattle.rsml_syntax.specs.limits.Thresholds.{Threshold, same_threshold, is_inner, ends}
use Rattle.rsml_limits.specs.declared.comparisons.input_cell.InputCell as rust
use Rattle.rsml_limits.specs.contracts.comparisons.input_cell.InputCellPartialEq.TheImpl as cell_eq
use Rattle.rsml_limits.proofs.EqualityLemmas.{cell_alike}
use Rattle.rsml_limits.specs.comparisons.Shown.{shown_cell}
use Rattle.rsml_limits.specs.thresholds.Pairs.{has_inner}
use Rattle.rsml_limits.specs.thresholds.Tabled.{input_ends, cell_at, block_pairs, table_pairs, AreWithin}
use Rattle.rsml_limits.proofs.MemberLemmas.{cell_equiv}

-- items that are seen through a function which tells apart those of the list
module _ {A B : Type 0} (eq : A → A → Bool) (same : B → B → Bool) (f : A → B) (P : A → Type 0) (alike : (a b : A) → P a → P b → same (f a) (f b) ≡ eq a b) where
  any_alike : (x : A) → P x → (ys : List A) → AllByRecursion P ys → list_any (same (f x)) (map f ys) ≡ list_any (eq x) ys
  any_alike x p [] h = refl
  any_alike x p (y ∷ ys) h = λ i. alike x y p h.0 i || any_alike x p ys h.1 i

  many_alike : (xs : List A) → AllByRecursion P xs → length (distinct same (map f xs)) ≡ length (distinct eq xs)
  many_alike [] h = refl
  many_alike (x ∷ xs) h =
      ap (λ t. length (if t then distinct same (map f xs) else f x ∷ distinct same (map f xs))) (any_alike x h.0 xs h.1)
      ∙ by (list_any (eq x) xs) (many_alike xs h.1)
    where
      by : (t : Bool) → length (distinct same (map f xs)) ≡ length (distinct eq xs) →
          length (if t then distinct same (map f xs) else f x ∷ distinct same (map f xs)) ≡ length (if t then distinct eq xs else x ∷ distinct eq xs)
      by true rest = rest
      by false rest = omega (arith, rest)

-- PLACES OF CELLS

apart_mapped : (k : rust.InputCell) (ks : List rust.InputCell) → AllByRecursion (λ y. (cell_eq.ghosts).eq k y ≡ false) ks →
    AllByRecursion (λ y. same_cell (shown_cell k) y ≡ false) (map shown_cell ks)
apart_mapped k [] h = tt
apart_mapped k (x ∷ xs) h = (sym (cell_alike k x) ∙ h.0, apart_mapped k xs h.1)

distinct_mapped : (ks : List rust.InputCell) → IsDistinct (cell_eq.ghosts).eq ks → IsDistinct same_cell (map shown_cell ks)
unfolding IsDistinct
distinct_mapped [] h = tt
distinct_mapped (k ∷ ks) h =
    IsDistinct-cons same_cell (shown_cell k) (map shown_cell ks) (apart_mapped k ks (IsDistinct-head (cell_eq.ghosts).eq k ks h))
    (distinct_mapped ks (IsDistinct-tail (cell_eq.ghosts).eq k ks h))

-- different places have different cells
place_alike : (cells : List InputCell) → IsDistinct same_cell cells → (i j : ℕ) → i < length cells → j < length cells → same_cell (cell_at cells i) (cell_at cells j) ≡ (i == j)
place_alike cells differ i j h k = elim (cases_lt i j) [ inl less ↦ below i j k less | inr least ↦ elim (cases_lt j i) [ inl less ↦ above less | inr most ↦ here (omega (arith, least, most)) ] ]
  where
    apart : (i j : ℕ) → i < j → (i == j) ≡ false
    apart i j h = grind (arith)

    below : (i j : ℕ) → j < length cells → i < j → same_cell (cell_at cells i) (cell_at cells j) ≡ (i == j)
    below i j k less = apart_from_distinct same_cell cells i j _ differ less k ∙ sym (apart i j less)

    above : j < i → same_cell (cell_at cells i) (cell_at cells j) ≡ (i == j)
    above less = cell_equiv.symm (cell_at cells i) (cell_at cells j) ∙ apart_from_distinct same_cell cells j i _ differ less h ∙ sym (grind arith)

    here : i ≡ j → same_cell (cell_at cells i) (cell_at cells j) ≡ (i == j)
    here e = subst (λ m. same_cell (cell_at cells i) (cell_at cells m) ≡ (i == m)) e (cell_equiv.refl (cell_at cells i) ∙ sym (eq-eqb i i refl))

-- RANGES OF CELLS

none_between : (n : ℤ) → (int_lt (pos 0) n && int_le n (pos 0)) ≡ false
none_between n = grind (arith, ints)

abbrev is_between : ℤ → ℤ × ℤ → Bool
is_between n e = int_lt e.0 n && int_le n e.1

between_inner : (g : Globals) (input : Name) (n : ℤ) → is_between n (input_ends g input) ≡ is_inner g input n
between_inner g input n = by (meaning g input)
  where
    by : (k : Option Known) → is_between n (option_map_or (ends g) k (pos 0, pos 0)) ≡ option_map_or (λ k. int_lt (ends g k).0 n && int_le n (ends g k).1) k false
    by None = none_between n
    by (Some k) = refl

within_inner : (g : Globals) (ranges : List Range) (cells : List InputCell) (i : ℕ) (n : ℤ) → map (λ r. (r.low, r.high)) ranges ≡ map (λ c. input_ends g c.input) cells → i < length cells →
    is_within ranges i n ≡ is_inner g (cell_at cells i).input n
within_inner g ranges cells i n tied h =
    by (slice_get ranges i)
    ∙ ap (λ o. option_map_or (is_between n) o false) (sym (slice_get-map (λ (r : Range). (r.low, r.high)) ranges i) ∙ ap (λ es. slice_get es i) tied ∙ slice_get-map (λ (c : InputCell). input_ends g c.input) cells i)
    ∙ ap (λ o. option_map_or (is_between n) (option_map (λ (c : InputCell). input_ends g c.input) o) false) (slice_get-get_or cells i _ h)
    ∙ between_inner g (cell_at cells i).input n
  where
    by : (o : Option Range) → option_map_or (λ (r : Range). int_lt r.low n && int_le n r.high) o false ≡ option_map_or (is_between n) (option_map (λ (r : Range). (r.low, r.high)) o) false
    by None = refl
    by (Some r) = refl

-- ENTRIES AS PAIRS

abbrev decoded : List InputCell → ℕ × ℤ → Threshold
decoded cells e = (cell_at cells e.0, e.1)

pub filter_pairs : (g : Globals) (c : InputCell) (ns : List ℤ) → filter (has_inner g) (map (λ n. (c, n)) ns) ≡ map (λ n. (c, n)) (filter (is_inner g c.input) ns)
filter_pairs g c [] = refl
filter_pairs g c (n ∷ ns) = by (is_inner g c.input n) (filter_pairs g c ns)
  where
    by : (t : Bool) → filter (has_inner g) (map (λ m. (c, m)) ns) ≡ map (λ m. (c, m)) (filter (is_inner g c.input) ns) →
        cond t ((c, n) ∷ filter (has_inner g) (map (λ m. (c, m)) ns)) (filter (has_inner g) (map (λ m. (c, m)) ns))
        ≡ map (λ m. (c, m)) (cond t (n ∷ filter (is_inner g c.input) ns) (filter (is_inner g c.input) ns))
    by true rest = ap (λ ts. (c, n) ∷ ts) rest
    by false rest = rest

module _ (g : Globals) (ranges : List Range) (cells : List InputCell) (tied : map (λ r. (r.low, r.high)) ranges ≡ map (λ c. input_ends g c.input) cells) (lists : List (List ℤ)) where
  block_decoded : (l : Block) → l.fixed < length cells → filter (has_inner g) (block_pairs cells lists l) ≡ map (decoded cells) (entries ranges lists l)
  block_decoded l h =
      let c = cell_at cells l.fixed in
      let ns = list_at lists l.list in
      filter_pairs g c ns
      ∙ ap (map (λ n. (c, n))) (sym (filter_agree (is_within ranges l.fixed) (is_inner g c.input) (λ n. within_inner g ranges cells l.fixed n tied h) ns))
      ∙ sym (map-map (decoded cells) (λ n. (l.fixed, n)) (filter (is_within ranges l.fixed) ns))

  table_decoded : (n : ℕ) (blocks : List Block) → AreWithin (length cells) n blocks → filter (has_inner g) (table_pairs cells lists blocks) ≡ map (decoded cells) (flat_map (entries ranges lists) blocks)
  table_decoded n [] h = refl
  table_decoded n (l ∷ ls) h =
      let head = All-head (λ (d : Block). (d.fixed < length cells) × (d.list < n)) l ls h in
      let tail = All-tail (λ (d : Block). (d.fixed < length cells) × (d.list < n)) l ls h in
      filter-append (has_inner g) (block_pairs cells lists l) (table_pairs cells lists ls)
      ∙ (λ i. block_decoded l head.0 i ++ table_decoded n ls tail i)
      ∙ sym (map-append (decoded cells) (entries ranges lists l) (flat_map (entries ranges lists) ls))

  within_entries : (n : ℕ) (blocks : List Block) → AreWithin (length cells) n blocks → All (λ (e : ℕ × ℤ). e.0 < length cells) (flat_map (entries ranges lists) blocks)
  within_entries n [] h = All-nil (λ (e : ℕ × ℤ). e.0 < length cells)
  within_entries n (l ∷ ls) h =
      let head = All-head (λ (d : Block). (d.fixed < length cells) × (d.list < n)) l ls h in
      let tail = All-tail (λ (d : Block). (d.fixed < length cells) × (d.list < n)) l ls h in
      let ns = filter (is_within ranges l.fixed) (list_at lists l.list) in
      All-append (λ (e : ℕ × ℤ). e.0 < length cells) (entries ranges lists l) (flat_map (entries ranges lists) ls)
      (All-map (λ (e : ℕ × ℤ). e.0 < length cells) (λ m. (l.fixed, m)) ns (λ k d lt. head.0))
      (within_entries n ls tail)

  count_same : IsDistinct same_cell cells → (n : ℕ) (blocks : List Block) → AreWithin (length cells) n blocks →
      length (distinct same_entry (flat_map (entries ranges lists) blocks)) ≡ length (distinct same_threshold (filter (has_inner g) (table_pairs cells lists blocks)))
  count_same differ n blocks h =
      let es = flat_map (entries ranges lists) blocks in
      sym
      (ap (λ ts. length (distinct same_threshold ts)) (table_decoded n blocks h)
      ∙ many_alike same_entry same_threshold (decoded cells) (λ e. e.0 < length cells) alike es (recursion_from_All (λ (e : ℕ × ℤ). e.0 < length cells) es (within_entries n blocks h)))
    where
      alike : (a b : ℕ × ℤ) → a.0 < length cells → b.0 < length cells → same_threshold (decoded cells a) (decoded cells b) ≡ same_entry a b
      alike a b h k = ap (λ t. int_eq a.1 b.1 && t) (place_alike cells differ a.0 b.0 h k) ∙ and_comm (int_eq a.1 b.1) (a.0 == b.0)

pub count_table : (g : Globals) (ranges : List Range) (keys : List rust.InputCell) (lists : List (List ℤ)) (blocks : List Block) → IsDistinct (cell_eq.ghosts).eq keys →
    map (λ r. (r.low, r.high)) ranges ≡ map (λ c. input_ends g c.input.now) keys → AreWithin (length keys) (length lists) blocks →
    length (distinct same_entry (flat_map (entries ranges lists) blocks)) ≡ length (distinct same_threshold (filter (has_inner g) (table_pairs (map shown_cell keys) lists blocks)))
count_table g ranges keys lists blocks differ tied h =
    count_same g ranges (map shown_cell keys) (tied ∙ sym (map-map (λ (c : InputCell). input_ends g c.input) shown_cell keys)) lists (distinct_mapped keys differ) (length lists) blocks
    (subst (λ n. AreWithin n (length lists) blocks) (sym (length-map keys shown_cell)) h)
