-- Blocks of cells that have their least numbers.
use Rattle.std.proofs.Common.{◌≡◌, ℕ, zero, suc, ◌+◌, ◌-◌, ◌<◌, ◌≤◌, Bool, ◌&&◌, true, false, List, [], ◌∷◌, ◌++◌, map, take, drop, length, get_or, Some, refl, sym, ap, ◌∙◌, subst, true≢false, slice_get, slice_index_or, int_le, pos, ◌<ℤ◌, ℤ, IsTrue, arith}
use Rattle.std.specs.Bool.{⊤}
use Rattle.std.specs.Cmp.{first_so, second_so}
use Rattle.std.specs.Cmp.Lexicographic.{pointwise, slice_cmp}
use Rattle.std.specs.Ordering.{MatchOrdering, ordering_then, int_cmp}
use Rattle.std.specs.declared.cmp.Ordering.{Ordering}
use Rattle.std.specs.declared.cmp.Ordering.TheVariants.{Less, Equal, Greater}
use Rattle.std.proofs.Math.Seq.{take-add}
use Rattle.std.proofs.lemmas.Cmp.{int_ranked}
use Rattle.std.proofs.lemmas.Int.{ints}
use Rattle.std.proofs.lemmas.List.{ext_get_or, get_or-take, get_or-drop, get_or-map, length-take-le, length-drop, length-map, map-append, take_more}
use Rattle.std.proofs.lemmas.Option.{get_or_from_slice_get}
use Rattle.rsml_syntax.specs.declared.syntax.Spec.{Spec}
use Rattle.rsml_syntax.specs.declared.world.World.{World}
use Rattle.rsml_meaning.specs.Cells.{InputCell, cells}
use Rattle.state_tree.proofs.Lists.{within_get}
use Rattle.guard_encode.specs.declared.reading.ReadParts.{ReadParts}
use Rattle.group_verdicts.specs.Narrowing.{IsOfNone, Narrows, IsLow, AreLeast, lows}
use Rattle.group_verdicts.proofs.LowSteps.{unmarked}
use Rattle.group_verdicts.proofs.Narrowed.{fixed_both}
use Rattle.group_verdicts.proofs.Parts.{fits, cells_are, many_cells, cmp_append}

-- Lists.

-- an item of a block
block_at : {A : Type 0} (xs : List A) (from many k : ℕ) (d : A) → k < many → get_or (take many (drop from xs)) k d ≡ get_or xs (from + k) d
block_at xs from many k d less = get_or-take many (drop from xs) k d less ∙ get_or-drop from xs k d

-- how many items a block has
block_length : {A : Type 0} (xs : List A) (from many : ℕ) → from + many ≤ length xs → length (take many (drop from xs)) ≡ many
block_length xs from many within = length-take-le many (drop from xs) (let l = length-drop from xs in omega (arith, l, within))

-- what passes beside each other still does in a block
pass_taken : {A B : Type 0} (t : A → B → Bool) (many : ℕ) (xs : List A) (ys : List B) → pointwise t xs ys ≡ true
    → pointwise t (take many xs) (take many ys) ≡ true
pass_taken t zero xs ys h = refl
pass_taken t (suc many) [] [] h = refl
pass_taken t (suc many) [] (y ∷ ys) h = absurd (true≢false (sym h))
pass_taken t (suc many) (x ∷ xs) [] h = absurd (true≢false (sym h))
pass_taken t (suc many) (x ∷ xs) (y ∷ ys) h =
    λ i. first_so (t x y) (pointwise t xs ys) h i && pass_taken t many xs ys (second_so (t x y) (pointwise t xs ys) h) i

pass_dropped : {A B : Type 0} (t : A → B → Bool) (from : ℕ) (xs : List A) (ys : List B) → pointwise t xs ys ≡ true
    → pointwise t (drop from xs) (drop from ys) ≡ true
pass_dropped t zero xs ys h = h
pass_dropped t (suc from) [] [] h = refl
pass_dropped t (suc from) [] (y ∷ ys) h = absurd (true≢false (sym h))
pass_dropped t (suc from) (x ∷ xs) [] h = absurd (true≢false (sym h))
pass_dropped t (suc from) (x ∷ xs) (y ∷ ys) h = pass_dropped t from xs ys (second_so (t x y) (pointwise t xs ys) h)

-- what follows from a match
matched : {P Q : Type 0} (o : Ordering) → (P → Q) → MatchOrdering o ⊥ P ⊤ → MatchOrdering o ⊥ Q ⊤
matched Less f h = h
matched Equal f h = f h
matched Greater f h = tt

-- numbers that cells may hold are not before the least ones
none_before : (cs : List InputCell) (ns : List ℤ) → pointwise fits cs ns ≡ true
    → MatchOrdering (slice_cmp int_cmp ns (map (λ c. c.numbers.low) cs)) ⊥ (ns ≡ map (λ c. c.numbers.low) cs) ⊤
none_before [] [] h = refl
none_before [] (n ∷ ns) h = absurd (true≢false (sym h))
none_before (c ∷ cs) [] h = absurd (true≢false (sym h))
none_before (c ∷ cs) (n ∷ ns) h =
    by (none_before cs ns (second_so (fits c n) (pointwise fits cs ns) h)) (int_cmp n c.numbers.low) (int_ranked n c.numbers.low (int_cmp n c.numbers.low) refl)
  where
    above : int_le c.numbers.low n ≡ true
    above = first_so (int_le c.numbers.low n) (int_le n c.numbers.high) (first_so (fits c n) (pointwise fits cs ns) h)

    less : n <ℤ c.numbers.low → ⊥
    less l = let a = above in grind (arith, ints)

    by : MatchOrdering (slice_cmp int_cmp ns (map (λ c. c.numbers.low) cs)) ⊥ (ns ≡ map (λ c. c.numbers.low) cs) ⊤ → (o : Ordering)
        → MatchOrdering o (n <ℤ c.numbers.low) (n ≡ c.numbers.low) (c.numbers.low <ℤ n)
        → MatchOrdering (ordering_then o (slice_cmp int_cmp ns (map (λ c. c.numbers.low) cs))) ⊥ (n ∷ ns ≡ c.numbers.low ∷ map (λ c. c.numbers.low) cs) ⊤
    by rest Less m = less m
    by rest Equal m = matched (slice_cmp int_cmp ns (map (λ c. c.numbers.low) cs)) (λ e i. m i ∷ e i) rest
    by rest Greater m = tt

-- Worlds.

-- the least number of a cell in a block
low_at : (s : Spec) (from to k : ℕ) (c : InputCell) → to ≤ length (cells s) → from + k < to → slice_get (cells s) (from + k) ≡ Some c
    → get_or (lows s from to) k (pos 0) ≡ c.numbers.low
low_at s from to k c within less at =
    get_or-map (λ c. c.numbers.low) (take (to - from) (drop from (cells s))) k c (pos 0)
    (let l = block_length (cells s) from (to - from) (omega (arith, less, within)) in omega (arith, l, less))
    ∙ ap (λ c. c.numbers.low) (block_at (cells s) from (to - from) k c (omega (arith, less)) ∙ get_or_from_slice_get (cells s) (from + k) c c at)

-- how many there are
pub lows_length : (s : Spec) (from to : ℕ) → to ≤ length (cells s) → length (lows s from to) ≡ to - from
lows_length s from to within =
    length-map (take (to - from) (drop from (cells s))) (λ c. c.numbers.low)
    ∙ length-take-le (to - from) (drop from (cells s)) (let l = length-drop from (cells s) in omega (arith, l, within))

-- one more
pub lows_more : (s : Spec) (from to : ℕ) (c : InputCell) → from ≤ to → to < length (cells s) → slice_get (cells s) to ≡ Some c
    → lows s from (to + 1) ≡ lows s from to ++ c.numbers.low ∷ []
lows_more s from to c order within at =
    let more : (to + 1) - from ≡ (to - from) + 1 = omega (arith, order) in
    let item : get_or (drop from (cells s)) (to - from) c ≡ c =
    get_or-drop from (cells s) (to - from) c ∙ ap (λ k. get_or (cells s) k c) (let e : from + (to - from) ≡ to = omega (arith, order) in e) ∙ get_or_from_slice_get (cells s) to c c at in
    ap (λ k. map (λ c. c.numbers.low) (take k (drop from (cells s)))) more
    ∙ ap (map (λ c. c.numbers.low)) (take_more (drop from (cells s)) (to - from) c (let l = length-drop from (cells s) in omega (arith, l, order, within))
    ∙ ap (λ x. take (to - from) (drop from (cells s)) ++ x ∷ []) item)
    ∙ map-append (λ c. c.numbers.low) (take (to - from) (drop from (cells s))) (c ∷ [])

-- where the cells that are read have their least numbers, all cells of a block have in a low world
pub are_lows : (s : Spec) (read : ReadParts) (from to : ℕ) (w : World) → from ≤ to → to ≤ length (cells s) → IsLow s read w
    → AreLeast s read from to w → take (to - from) (drop from w.cells) ≡ lows s from to
are_lows s read from to w order within is least =
    ext_get_or (pos 0) (take (to - from) (drop from w.cells)) (lows s from to)
    (long ∙ sym (lows_length s from to within))
    (λ k less.
    let in_block : from + k < to = omega (arith, long, less) in
    let there = within_get (cells s) (from + k) (omega (arith, in_block, within)) in
    block_at w.cells from (to - from) k (pos 0) (omega (arith, in_block))
    ∙ by (from + k) there.0 (omega arith) in_block there.1 (slice_index_or read.cells (from + k) true) refl
    ∙ sym (low_at s from to k there.0 within in_block there.1))
  where
    long : length (take (to - from) (drop from w.cells)) ≡ to - from
    long = block_length w.cells from (to - from) (let l = many_cells s w is.is_world in omega (arith, order, within, l))

    by : (k : ℕ) (c : InputCell) → from ≤ k → k < to → slice_get (cells s) k ≡ Some c → (b : Bool) → slice_index_or read.cells k true ≡ b
        → slice_index_or w.cells k (pos 0) ≡ c.numbers.low
    by k c after less at true e = least k c after less at e
    by k c after less at false e = is.least k c (unmarked read.cells k e) at

-- and the other way round
pub are_least : (s : Spec) (read : ReadParts) (from to : ℕ) (w : World) → to ≤ length (cells s)
    → take (to - from) (drop from w.cells) ≡ lows s from to → AreLeast s read from to w
are_least s read from to w within same = λ k c after less at is_read.
    let e : from + (k - from) ≡ k = omega (arith, after) in
    subst (λ (n : ℕ). slice_get (cells s) n ≡ Some c → slice_index_or w.cells n (pos 0) ≡ c.numbers.low) e
    (λ own. sym (block_at w.cells from (to - from) (k - from) (pos 0) (omega (arith, after, less)))
    ∙ ap (λ (ns : List ℤ). get_or ns (k - from) (pos 0)) same
    ∙ low_at s from to (k - from) c within (omega (arith, after, less)) own) at

-- the worlds in which the cells of a block have their least numbers
pub block_narrows : (s : Spec) (read : ReadParts) (from to : ℕ) (truth next : World → Bool) → from ≤ to → to ≤ length (cells s)
    → (IsOfNone (IsLow s read) next → ⊥)
    → ((w : World) → IsLow s read w → IsTrue (next w) → IsTrue (truth w) × AreLeast s read from to w)
    → ((w : World) → IsLow s read w → IsTrue (truth w) → AreLeast s read from to w → IsTrue (next w))
    → Narrows (IsLow s read) (slice_cmp int_cmp) (λ w. take (to - from) (drop from w.cells)) (lows s from to) truth next
block_narrows s read from to truth next order within some kept all = record {
  some = some;
  kept = λ w is k. let a = kept w is k in (a.0, are_lows s read from to w order within is a.1);
  order = λ w is k.
      matched (slice_cmp int_cmp (take (to - from) (drop from w.cells)) (lows s from to))
      (λ e. all w is k (are_least s read from to w within e))
      (none_before (take (to - from) (drop from (cells s))) (take (to - from) (drop from w.cells))
      (pass_taken fits (to - from) (drop from (cells s)) (drop from w.cells)
      (pass_dropped fits from (cells s) w.cells (cells_are s w is.is_world))));
}

-- one block, and then another
pub blocks_fixed : {A : Type 0} (Among : World → Type 0) (cmp : A → A → Ordering) (parts : World → List A) (n m : ℕ)
    → ((w : World) → Among w → n ≤ length (parts w))
    → (xs ys : List A) → length xs ≡ n → (truth mid next : World → Bool)
    → Narrows Among (slice_cmp cmp) (λ w. take n (parts w)) xs truth mid → Narrows Among (slice_cmp cmp) (λ w. take m (drop n (parts w))) ys mid next
    → Narrows Among (slice_cmp cmp) (λ w. take (n + m) (parts w)) (xs ++ ys) truth next
blocks_fixed {A} Among cmp parts n m long xs ys so_many truth mid next before here =
    fixed_both Among (slice_cmp cmp) (slice_cmp cmp) (slice_cmp cmp) (λ w. take n (parts w)) (λ w. take m (drop n (parts w))) (λ w. take (n + m) (parts w)) xs ys (xs ++ ys) truth mid next before here
    (λ w is a b. take-add n m (parts w) ∙ (λ i. a i ++ b i))
    (λ w is.
    ap (λ zs. slice_cmp cmp zs (xs ++ ys)) (take-add n m (parts w))
    ∙ cmp_append cmp (take n (parts w)) xs (take m (drop n (parts w))) ys (length-take-le n (parts w) (long w is) ∙ sym so_many))
