-- The pairs of blocks stay as cells and lists are added, and a block adds its own.
use Rattle.std.proofs.Common.{◌≡◌, ℕ, ◌<◌, ◌≤◌, true, List, [], ◌∷◌, ◌++◌, map, length, Some, refl, sym, ap, subst, ◌∙◌, arith, ◌⊎◌, inl, inr, length-append}
use Rattle.std.specs.Prelude.{slice_get, ℤ}
use Rattle.std.specs.Global.{Vec}
use Rattle.std.proofs.lemmas.Grind.{flat_map-append}
use Rattle.std.proofs.lemmas.List.{append-nil, map-append, get_or_append_left, get_or-map, length-map}
use Rattle.std.proofs.lemmas.List.Elements.{All-weaker, All-head, All-tail}
use Rattle.std.proofs.lemmas.Option.{get_or_from_slice_get, slice_get_within, unwrap_or-slice_get}
use Rattle.std.proofs.Math.Seq.{get_or-append_seam}
use Rattle.pair_counts.specs.declared.blocks.Block.{Block}
use Rattle.pair_counts.specs.Blocks.{list_at}
use Rattle.rsml_syntax.specs.limits.Comparisons.{InputCell}
use Rattle.rsml_syntax.specs.limits.Thresholds.{Threshold}
use Rattle.rsml_limits.specs.declared.comparisons.input_cell.InputCell as rust
use Rattle.rsml_limits.specs.contracts.comparisons.input_cell.InputCellPartialEq.TheImpl as cell_eq
use Rattle.rsml_limits.proofs.EqualityLemmas.{cell_alike}
use Rattle.rsml_limits.proofs.SameLemmas.{cell_same}
use Rattle.rsml_limits.specs.comparisons.Shown.{shown_cell}
use Rattle.rsml_limits.specs.thresholds.Pairs.{grid}
use Rattle.rsml_limits.specs.thresholds.Tabled.{cell_at, block_pairs, table_pairs, AreWithin, Extends}

-- the cell that stands at a place of a set, by an equal one
pub cell_found : (ks : List rust.InputCell) (i : ℕ) (cell k : rust.InputCell) → slice_get ks i ≡ Some k → (cell_eq.ghosts).eq cell k ≡ true → cell_at (map shown_cell ks) i ≡ shown_cell cell
cell_found ks i cell k at e =
    get_or-map shown_cell ks i k _ (slice_get_within ks i k at)
    ∙ ap shown_cell (get_or_from_slice_get ks i k k at)
    ∙ sym (cell_same (shown_cell cell) (shown_cell k) (sym (cell_alike cell k) ∙ e))

module _ (old new : List rust.InputCell) (more : Extends old new) where
  longer : length old ≤ length new
  longer = omega (arith, ap length more.is, length-append old more.more)

  cell_kept : (i : ℕ) → i < length old → cell_at (map shown_cell new) i ≡ cell_at (map shown_cell old) i
  cell_kept i h =
      ap (λ ks. cell_at (map shown_cell ks) i) more.is
      ∙ ap (λ cs. cell_at cs i) (map-append shown_cell old more.more)
      ∙ get_or_append_left (map shown_cell old) (map shown_cell more.more) _ i (omega (arith, h, length-map old shown_cell))

  -- as cells are added
  pub pairs_kept : (n : ℕ) (lists : List (List ℤ)) (blocks : List Block) → AreWithin (length old) n blocks →
      table_pairs (map shown_cell new) lists blocks ≡ table_pairs (map shown_cell old) lists blocks
  pairs_kept n lists [] h = refl
  pairs_kept n lists (l ∷ ls) h =
      λ i. map (λ m. (cell_kept l.fixed (All-head (λ (d : Block). (d.fixed < length old) × (d.list < n)) l ls h).0 i, m)) (list_at lists l.list)
      ++ pairs_kept n lists ls (All-tail (λ (d : Block). (d.fixed < length old) × (d.list < n)) l ls h) i

  pub within_kept : (n : ℕ) (blocks : List Block) → AreWithin (length old) n blocks → AreWithin (length new) n blocks
  within_kept n blocks h = All-weaker (λ (d : Block). (d.fixed < length old) × (d.list < n)) (λ (d : Block). (d.fixed < length new) × (d.list < n)) (λ l w. (omega (arith, longer, w.0), w.1)) blocks h

  -- a block more
  pub block_put : (n : ℕ) (lists : List (List ℤ)) (blocks : List Block) (l : Block) (cell : InputCell) → AreWithin (length old) n blocks → cell_at (map shown_cell new) l.fixed ≡ cell →
      table_pairs (map shown_cell new) lists (blocks ++ l ∷ []) ≡ table_pairs (map shown_cell old) lists blocks ++ grid (cell ∷ []) (list_at lists l.list)
  block_put n lists blocks l cell h is =
      flat_map-append (block_pairs (map shown_cell new) lists) blocks (l ∷ [])
      ∙ (λ i. pairs_kept n lists blocks h i ++ (map (λ m. (is i, m)) (list_at lists l.list) ++ []))

list_kept : (lists : List (List ℤ)) (list : List ℤ) (i : ℕ) → i < length lists → list_at (lists ++ list ∷ []) i ≡ list_at lists i
list_kept lists list i h =
    unwrap_or-slice_get (lists ++ list ∷ []) i []
    ∙ get_or_append_left lists (list ∷ []) [] i h
    ∙ sym (unwrap_or-slice_get lists i [])

-- as a list is added
pub lists_kept : (n : ℕ) (cells : List InputCell) (lists : List (List ℤ)) (list : List ℤ) (blocks : List Block) → AreWithin n (length lists) blocks →
    table_pairs cells (lists ++ list ∷ []) blocks ≡ table_pairs cells lists blocks
lists_kept n cells lists list [] h = refl
lists_kept n cells lists list (l ∷ ls) h =
    λ i. map (λ m. (cell_at cells l.fixed, m)) (list_kept lists list l.list (All-head (λ (d : Block). (d.fixed < n) × (d.list < length lists)) l ls h).1 i)
    ++ lists_kept n cells lists list ls (All-tail (λ (d : Block). (d.fixed < n) × (d.list < length lists)) l ls h) i

pub last_list : (lists : List (List ℤ)) (list : List ℤ) → list_at (lists ++ list ∷ []) (length lists) ≡ list
last_list lists list = unwrap_or-slice_get (lists ++ list ∷ []) (length lists) [] ∙ get_or-append_seam lists list [] []

-- more cells of a grid
pub grid_append : (xs ys : List InputCell) (numbers : List ℤ) → grid (xs ++ ys) numbers ≡ grid xs numbers ++ grid ys numbers
grid_append xs ys numbers = flat_map-append (λ (c : InputCell). map (λ n. (c, n)) numbers) xs ys

-- a list more, and blocks with it
pub table_put : (cells after : List rust.InputCell) (lists : List (Vec ℤ)) (blocks blocks' : List Block) (numbers : Vec ℤ) (more : List rust.InputCell) (place : ℕ) (lists' : List (Vec ℤ)) (before : List Threshold) →
    AreWithin (length cells) (length lists) blocks → table_pairs (map shown_cell cells) (map (λ l. l.items) lists) blocks ≡ before → lists' ≡ lists ++ numbers ∷ [] → place ≡ length lists →
    ((ls : List (List ℤ)) → table_pairs (map shown_cell after) ls blocks' ≡ table_pairs (map shown_cell cells) ls blocks ++ grid (map shown_cell more) (list_at ls place)) →
    table_pairs (map shown_cell after) (map (λ l. l.items) lists') blocks' ≡ before ++ grid (map shown_cell more) numbers.items
table_put cells after lists blocks blocks' numbers more place lists' before within view pushed at put =
    let shown = λ (ls : List (Vec ℤ)). map (λ l. l.items) ls in
    let many = length-map lists (λ (l : Vec ℤ). l.items) in
    ap (λ ls. table_pairs (map shown_cell after) (shown ls) blocks') pushed
    ∙ ap (λ ls. table_pairs (map shown_cell after) ls blocks') (map-append (λ (l : Vec ℤ). l.items) lists (numbers ∷ []))
    ∙ put (shown lists ++ numbers.items ∷ [])
    ∙ (λ i. lists_kept (length cells) (map shown_cell cells) (shown lists) numbers.items blocks (subst (λ n. AreWithin (length cells) n blocks) (sym many) within) i
    ++ grid (map shown_cell more) (list_at (shown lists ++ numbers.items ∷ []) ((at ∙ sym many) i)))
    ∙ (λ i. view i ++ grid (map shown_cell more) (last_list (shown lists) numbers.items i))

-- without cells, or without numbers, there are no pairs
pub none_put : (before : List Threshold) (cells : List rust.InputCell) (numbers : List ℤ) → (length cells ≡ 0) ⊎ (length numbers ≡ 0) → before ≡ before ++ grid (map shown_cell cells) numbers
none_put before cells numbers none = sym (ap (λ ts. before ++ ts) (by cells numbers none) ∙ append-nil before)
  where
    by : (cells : List rust.InputCell) (numbers : List ℤ) → (length cells ≡ 0) ⊎ (length numbers ≡ 0) → grid (map shown_cell cells) numbers ≡ []
    by [] numbers none = refl
    by (c ∷ cs) [] none = by cs [] (inr refl)
    by (c ∷ cs) (n ∷ ns) none = absurd (elim none [ inl e ↦ omega arith | inr e ↦ omega arith ])
