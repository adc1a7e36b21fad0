-- AskBlocks that stand for asks have as many pairs as the asks have keys.
use Rattle.std.proofs.Common.{◌≡◌, ℕ, Bool, true, false, cond, not, ◌||◌, List, [], ◌∷◌, ◌++◌, map, filter, length, refl, sym, ap, subst, ◌∙◌, true≢false}
use Rattle.std.specs.Prelude.{flat_map}
use Rattle.std.specs.List.{list_any, AllByRecursion, AllZip, IsDistinct}
use Rattle.std.specs.Option.{unwrap_or}
use Rattle.std.proofs.lemmas.List.Elements.{filter-append, filter_passes, recursion_from_All}
use Rattle.std.proofs.lemmas.List.Folds.{list_any-append}
use Rattle.std.proofs.lemmas.Slice.Zip.{all_zipped_more}
use Rattle.rsml_syntax.specs.rules.Globals.{Globals}
use Rattle.rsml_syntax.specs.limits.Limits.{distinct}
use Rattle.rsml_syntax.specs.limits.Thresholds.{keys, same_key}
use Rattle.rsml_limits.specs.comparisons.Asks.{Ask, left_sums, ask_comparisons}
use Rattle.rsml_limits.proofs.EquivalenceLemmas.{key_equiv}
use Rattle.pair_counts.specs.declared.blocks.Block.{Block}
use Rattle.pair_counts.specs.Blocks.{list_at, column, row, pairs, same_pair}
use Rattle.pair_counts.proofs.Grouping.{many_alike}
use Rattle.rsml_limits.specs.keys.Classes.{class_of, linear}
use Rattle.rsml_limits.specs.keys.Numbered.{order_of, swaps, Numbered, same_ordered, Grows, IsBlock}
use Rattle.rsml_limits.proofs.KeyLemmas.{ask_keys, column_keys, row_keys, all_keys}
use Rattle.rsml_limits.proofs.NumberLemmas.{list_stays}
use Rattle.rsml_limits.proofs.KeyPairLemmas.{IsPair, many_alike_pairs, column_stands, row_stands}

-- the asks that are columns, and those that are rows
abbrev pub columns_of : List Ask → List Ask
columns_of = filter (λ a. not (swaps a.relation))

abbrev pub rows_of : List Ask → List Ask
rows_of = filter (λ a. swaps a.relation)

-- AskBlocks that stand for asks, each kind in turn.
pub record AreBlocks (g : Globals) (n : Numbered) (asks : List Ask) (columns rows : List Block) : Type 0 where
  pub of_columns : AllZip (IsBlock g n) (columns_of asks) columns
  pub of_rows : AllZip (IsBlock g n) (rows_of asks) rows

-- ONE MORE LINE

blocks_stay : (g : Globals) (old new : Numbered) → Grows old new → (asks : List Ask) (blocks : List Block) → AllZip (IsBlock g old) asks blocks → AllZip (IsBlock g new) asks blocks
blocks_stay g old new grows [] [] h = tt
blocks_stay g old new grows [] (l ∷ ls) h = absurd h
blocks_stay g old new grows (a ∷ rest) [] h = absurd h
blocks_stay g old new grows (a ∷ rest) (l ∷ ls) h =
    let is = h.0 in
    let stays = list_stays old new l.list (order_of a.relation) (linear (class_of a.right) (left_sums g a.left)) grows is.list in
    (record { fixed = grows.sums l.fixed _ is.fixed; list = stays }, blocks_stay g old new grows rest ls h.1)

filter_one : {A : Type 0} (test : A → Bool) (xs : List A) (x : A) (b : Bool) → test x ≡ b → filter test (xs ++ x ∷ []) ≡ filter test xs ++ cond b (x ∷ []) []
filter_one test xs x b h = filter-append test xs (x ∷ []) ∙ ap (λ t. filter test xs ++ cond t (x ∷ []) []) h

append_none : {A : Type 0} (xs : List A) → xs ++ [] ≡ xs
append_none [] = refl
append_none (x ∷ xs) = ap (λ ys. x ∷ ys) (append_none xs)

module _ (g : Globals) (old new : Numbered) (grows : Grows old new) (asks : List Ask) (columns rows : List Block) (before : AreBlocks g old asks columns rows)
    (a : Ask) (block : Block) (is : IsBlock g new a block) where
  pub column_turn : swaps a.relation ≡ false → AreBlocks g new (asks ++ a ∷ []) (columns ++ block ∷ []) rows
  column_turn h = record {
    of_columns = subst (λ some. AllZip (IsBlock g new) some (columns ++ block ∷ [])) (sym (filter_one (λ (a : Ask). not (swaps a.relation)) asks a true (ap not h)))
        (all_zipped_more (IsBlock g new) (columns_of asks) columns a block (blocks_stay g old new grows (columns_of asks) columns before.of_columns) is);
    of_rows = subst (λ some. AllZip (IsBlock g new) some rows) (sym (filter_one (λ (a : Ask). swaps a.relation) asks a false h ∙ append_none (rows_of asks)))
        (blocks_stay g old new grows (rows_of asks) rows before.of_rows);
  }

  pub row_turn : swaps a.relation ≡ true → AreBlocks g new (asks ++ a ∷ []) columns (rows ++ block ∷ [])
  row_turn h = record {
    of_columns = subst (λ some. AllZip (IsBlock g new) some columns) (sym (filter_one (λ (a : Ask). not (swaps a.relation)) asks a false (ap not h) ∙ append_none (columns_of asks)))
        (blocks_stay g old new grows (columns_of asks) columns before.of_columns);
    of_rows = subst (λ some. AllZip (IsBlock g new) some (rows ++ block ∷ [])) (sym (filter_one (λ (a : Ask). swaps a.relation) asks a true h))
        (all_zipped_more (IsBlock g new) (rows_of asks) rows a block (blocks_stay g old new grows (rows_of asks) rows before.of_rows) is);
  }

-- THE PAIRS OF LINES

zip_append : {A B : Type 0} (R : A → B → Type 0) (xs : List A) (ys : List B) (zs : List A) (ws : List B) → AllZip R xs ys → AllZip R zs ws → AllZip R (xs ++ zs) (ys ++ ws)
zip_append R [] [] zs ws h k = k
zip_append R [] (y ∷ ys) zs ws h k = absurd h
zip_append R (x ∷ xs) [] zs ws h k = absurd h
zip_append R (x ∷ xs) (y ∷ ys) zs ws h k = (h.0, zip_append R xs ys zs ws h.1 k)

module _ (g : Globals) (n : Numbered) where
  column_pairs : (a : Ask) (l : Block) → IsBlock g n a l → not (swaps a.relation) ≡ true → AllZip (IsPair n.sums) (ask_keys g a) (column n.lists l)
  column_pairs a l is h =
      let here : list_at n.lists l.list ≡ is.list.numbers = ap (λ o. unwrap_or o []) is.list.at in
      subst (λ ns. AllZip (IsPair n.sums) (ask_keys g a) (map (λ n. (n, l.fixed)) ns)) (sym here)
      (subst (λ ks. AllZip (IsPair n.sums) ks (map (λ n. (n, l.fixed)) is.list.numbers)) (sym (column_keys g a (unswapped (swaps a.relation) h)))
      (column_stands n.sums is.list.numbers l.fixed (order_of a.relation) (linear (class_of a.right) (left_sums g a.left)) a.right is.list.are is.fixed))
    where
      unswapped : (b : Bool) → not b ≡ true → b ≡ false
      unswapped true h = absurd (true≢false (sym h))
      unswapped false h = refl

  row_pairs : (a : Ask) (l : Block) → IsBlock g n a l → swaps a.relation ≡ true → AllZip (IsPair n.sums) (ask_keys g a) (row n.lists l)
  row_pairs a l is h =
      let here : list_at n.lists l.list ≡ is.list.numbers = ap (λ o. unwrap_or o []) is.list.at in
      subst (λ ns. AllZip (IsPair n.sums) (ask_keys g a) (map (λ n. (l.fixed, n)) ns)) (sym here)
      (subst (λ ks. AllZip (IsPair n.sums) ks (map (λ n. (l.fixed, n)) is.list.numbers)) (sym (row_keys g a h))
      (row_stands n.sums is.list.numbers l.fixed (order_of a.relation) (linear (class_of a.right) (left_sums g a.left)) a.right is.list.are is.fixed))

  each_block : (Is : Ask → Type 0) (of_block : Block → List (ℕ × ℕ)) → ((a : Ask) (l : Block) → IsBlock g n a l → Is a → AllZip (IsPair n.sums) (ask_keys g a) (of_block l)) →
      (asks : List Ask) (blocks : List Block) → AllZip (IsBlock g n) asks blocks → AllByRecursion Is asks → AllZip (IsPair n.sums) (flat_map (ask_keys g) asks) (flat_map of_block blocks)
  each_block Is of_block stands [] [] h k = tt
  each_block Is of_block stands [] (l ∷ ls) h k = absurd h
  each_block Is of_block stands (a ∷ rest) [] h k = absurd h
  each_block Is of_block stands (a ∷ rest) (l ∷ ls) h k =
      zip_append (IsPair n.sums) (ask_keys g a) (of_block l) (flat_map (ask_keys g) rest) (flat_map of_block ls) (stands a l h.0 k.0) (each_block Is of_block stands rest ls h.1 k.1)

  all_pairs : (asks : List Ask) (columns rows : List Block) → AreBlocks g n asks columns rows →
      AllZip (IsPair n.sums) (flat_map (ask_keys g) (columns_of asks) ++ flat_map (ask_keys g) (rows_of asks)) (pairs n.lists columns rows)
  all_pairs asks columns rows are =
      zip_append (IsPair n.sums) (flat_map (ask_keys g) (columns_of asks)) (flat_map (column n.lists) columns) (flat_map (ask_keys g) (rows_of asks)) (flat_map (row n.lists) rows)
      (each_block (λ a. not (swaps a.relation) ≡ true) (column n.lists) column_pairs (columns_of asks) columns are.of_columns
      (recursion_from_All (λ (a : Ask). not (swaps a.relation) ≡ true) (columns_of asks) (filter_passes (λ (a : Ask). not (swaps a.relation)) asks)))
      (each_block (λ a. swaps a.relation ≡ true) (row n.lists) row_pairs (rows_of asks) rows are.of_rows
      (recursion_from_All (λ (a : Ask). swaps a.relation ≡ true) (rows_of asks) (filter_passes (λ (a : Ask). swaps a.relation) asks)))

-- columns and rows together have the members of all
either_kind : {A B : Type 0} (kind : A → Bool) (f : A → List B) (test : B → Bool) (xs : List A) →
    list_any test (flat_map f (filter (λ x. not (kind x)) xs) ++ flat_map f (filter kind xs)) ≡ list_any test (flat_map f xs)
either_kind kind f test [] = refl
either_kind {A = A} kind f test (x ∷ xs) =
    by (kind x)
    ∙ ap (λ b. list_any test (f x) || b) (sym (list_any-append test (flat_map f others) (flat_map f these)) ∙ either_kind kind f test xs)
    ∙ sym (list_any-append test (f x) (flat_map f xs))
  where
    others : List A
    others = filter (λ x. not (kind x)) xs

    these : List A
    these = filter kind xs

    first : (a b c : Bool) → ((a || b) || c) ≡ (a || (b || c))
    first true b c = refl
    first false b c = refl

    second : (a b c : Bool) → (b || (a || c)) ≡ (a || (b || c))
    second true true c = refl
    second true false c = refl
    second false b c = refl

    by : (t : Bool) → list_any test (flat_map f (cond (not t) (x ∷ others) others) ++ flat_map f (cond t (x ∷ these) these))
        ≡ (list_any test (f x) || (list_any test (flat_map f others) || list_any test (flat_map f these)))
    by true =
        list_any-append test (flat_map f others) (f x ++ flat_map f these)
        ∙ ap (λ b. list_any test (flat_map f others) || b) (list_any-append test (f x) (flat_map f these))
        ∙ second (list_any test (f x)) (list_any test (flat_map f others)) (list_any test (flat_map f these))
    by false =
        list_any-append test (f x ++ flat_map f others) (flat_map f these)
        ∙ ap (λ b. b || list_any test (flat_map f these)) (list_any-append test (f x) (flat_map f others))
        ∙ first (list_any test (f x)) (list_any test (flat_map f others)) (list_any test (flat_map f these))

pub many_in_blocks : (g : Globals) (n : Numbered) (asks : List Ask) (columns rows : List Block) → IsDistinct same_ordered n.sums → AreBlocks g n asks columns rows →
    length (distinct same_pair (pairs n.lists columns rows)) ≡ length (distinct same_key (flat_map keys (flat_map (ask_comparisons g) asks)))
many_in_blocks g n asks columns rows differ are =
    many_alike_pairs n.sums differ (flat_map (ask_keys g) (columns_of asks) ++ flat_map (ask_keys g) (rows_of asks)) (pairs n.lists columns rows) (all_pairs g n asks columns rows are)
    ∙ many_alike same_key key_equiv (flat_map (ask_keys g) (columns_of asks) ++ flat_map (ask_keys g) (rows_of asks)) (flat_map (ask_keys g) asks)
    (λ k. either_kind (λ (a : Ask). swaps a.relation) (ask_keys g) (same_key k) asks)
    ∙ ap (λ ks. length (distinct same_key ks)) (sym (all_keys g asks))

-- NO LINE YET

pub none_differ : IsDistinct same_ordered []
unfolding IsDistinct
none_differ = tt

pub no_blocks : (g : Globals) (n : Numbered) (columns rows : List Block) → columns ≡ [] → rows ≡ [] → AreBlocks g n [] columns rows
no_blocks g n columns rows h k = record {
  of_columns = subst (AllZip (IsBlock g n) []) (sym h) tt;
  of_rows = subst (AllZip (IsBlock g n) []) (sym k) tt;
}

pub lines_seen : (g : Globals) (n : Numbered) (asks more : List Ask) (columns down rows across : List Block) → more ≡ asks → down ≡ columns → across ≡ rows →
    AreBlocks g n asks columns rows → AreBlocks g n more down across
lines_seen g n asks more columns down rows across e h k are = subst (λ T. T) (λ i. AreBlocks g n (sym e i) (sym h i) (sym k i)) are
