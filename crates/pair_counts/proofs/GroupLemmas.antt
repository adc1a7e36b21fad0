-- What groups have at a number, and what pairs they have.
use Rattle.std.proofs.Common.{◌≡◌, ℕ, ◌+◌, ◌<◌, ◌==◌, nat_eq, Bool, true, false, cond, ◌&&◌, if◌then◌else◌, List, [], ◌∷◌, ◌++◌, length, get_or, map, filter, take, Option, Some, ap, refl, sym, subst, ◌∙◌, eqb-true}
use Rattle.std.specs.Prelude.{flat_map}
use Rattle.std.specs.Cmp.{IsEquivalence, nat_eq_equiv}
use Rattle.std.specs.Global.{Vec}
use Rattle.std.specs.List.{list_any, AllByRecursion, IsDistinct}
use Rattle.std.specs.Map.{keys_of, lookup}
use Rattle.std.specs.Option.{option_map, unwrap_or}
use Rattle.std.proofs.lemmas.List.{append-nil, map-append, take_more}
use Rattle.std.proofs.lemmas.List.Elements.{filter-append}
use Rattle.std.proofs.lemmas.Map.Keys.{IsDistinct-head, IsDistinct-tail}
use Rattle.std.proofs.lemmas.Map.Made.{lookup-map_values}
use Rattle.rsml_base.specs.Counting.{distinct, adds}
use Rattle.pair_counts.specs.declared.blocks.Block.{Block}
use Rattle.pair_counts.specs.Grouped.{places_of, places_at}
use Rattle.pair_counts.proofs.Grouping.{adds_same, any_grouped, filter_flat_map, filter_grouped, many_alike, many_grouped}

pub seen : (es : List (ℕ × Vec ℕ)) (q : ℕ) → lookup (nat_eq q) (map (λ e. (e.0, e.1.items)) es) ≡ option_map (λ v. v.items) (lookup (nat_eq q) es)
seen es q = lookup-map_values (λ v. v.items) (nat_eq q) es

-- one more block
pub places_turn : (blocks : List Block) (i : ℕ) (d : Block) → i < length blocks → (q : ℕ) →
    places_of (take (i + 1) blocks) q ≡ places_of (take i blocks) q ++ (if q == (get_or blocks i d).fixed then (get_or blocks i d).list ∷ [] else [])
places_turn blocks i d h q =
    let l = get_or blocks i d in
    let before = filter (λ (l : Block). q == l.fixed) (take i blocks) in
    ap (λ ls. places_of ls q) (take_more blocks i d h)
    ∙ ap (map (λ l. l.list)) (filter-append (λ l. q == l.fixed) (take i blocks) (l ∷ []))
    ∙ map-append (λ l. l.list) before (filter (λ l. q == l.fixed) (l ∷ []))
    ∙ ap (λ ps. places_of (take i blocks) q ++ ps) (by l (q == l.fixed))
  where
    by : (l : Block) (t : Bool) → map (λ l. l.list) (cond t (l ∷ []) []) ≡ (if t then l.list ∷ [] else [])
    by l true = refl
    by l false = refl

pub keys_seen : (es : List (ℕ × Vec ℕ)) → map (λ (g : ℕ × List ℕ). g.0) (map (λ e. (e.0, e.1.items)) es) ≡ keys_of es
keys_seen [] = refl
keys_seen (e ∷ es) = ap (λ ks. e.0 ∷ ks) (keys_seen es)

-- what was found at a number
pub found : (es : List (ℕ × Vec ℕ)) (groups : List (ℕ × List ℕ)) (q : ℕ) (r : Option (List ℕ)) (v : Option (Vec ℕ)) →
    map (λ e. (e.0, e.1.items)) es ≡ groups → r ≡ option_map (λ v. v.items) v → v ≡ lookup (nat_eq q) es → r ≡ lookup (nat_eq q) groups
found es groups q r v view is here = is ∙ ap (option_map (λ v. v.items)) here ∙ sym (seen es q) ∙ ap (lookup (nat_eq q)) view

-- PAIRS OF LINES, AND OF THEIR GROUPS

module _ {B : Type 0} (items : ℕ → ℕ → List B) where
  -- of blocks of one number
  blocks_of : (a : ℕ) (blocks : List Block) →
      flat_map (λ (l : Block). items l.fixed l.list) (filter (λ l. a == l.fixed) blocks) ≡ flat_map (items a) (places_of blocks a)
  blocks_of a [] = refl
  blocks_of a (l ∷ ls) = by (a == l.fixed) refl (blocks_of a ls)
    where
      by : (t : Bool) → (a == l.fixed) ≡ t →
          flat_map (λ (m : Block). items m.fixed m.list) (filter (λ m. a == m.fixed) ls) ≡ flat_map (items a) (places_of ls a) →
          flat_map (λ (m : Block). items m.fixed m.list) (cond t (l ∷ filter (λ m. a == m.fixed) ls) (filter (λ m. a == m.fixed) ls))
          ≡ flat_map (items a) (map (λ m. m.list) (cond t (l ∷ filter (λ m. a == m.fixed) ls) (filter (λ m. a == m.fixed) ls)))
      by true e rest = λ i. items (sym (eqb-true a l.fixed e) i) l.list ++ rest i
      by false e rest = rest

  none_found : (a : ℕ) (groups : List (ℕ × List ℕ)) → AllByRecursion (λ f. nat_eq a f ≡ false) (map (λ g. g.0) groups) → filter (λ g. a == g.0) groups ≡ []
  none_found a [] h = refl
  none_found a (g ∷ gs) h = (λ i. cond (h.0 i) (g ∷ filter (λ k. a == k.0) gs) (filter (λ k. a == k.0) gs)) ∙ none_found a gs h.1

  -- of the group of one number
  group_of : (a : ℕ) (groups : List (ℕ × List ℕ)) → IsDistinct nat_eq (map (λ g. g.0) groups) →
      flat_map (λ (g : ℕ × List ℕ). flat_map (items g.0) g.1) (filter (λ g. a == g.0) groups) ≡ flat_map (items a) (places_at groups a)
  group_of a [] h = refl
  group_of a (g ∷ gs) h = by (a == g.0) refl (group_of a gs (IsDistinct-tail nat_eq g.0 (map (λ k. k.0) gs) h))
    where
      by : (t : Bool) → (a == g.0) ≡ t →
          flat_map (λ (k : ℕ × List ℕ). flat_map (items k.0) k.1) (filter (λ k. a == k.0) gs) ≡ flat_map (items a) (places_at gs a) →
          flat_map (λ (k : ℕ × List ℕ). flat_map (items k.0) k.1) (cond t (g ∷ filter (λ k. a == k.0) gs) (filter (λ k. a == k.0) gs))
          ≡ flat_map (items a) (unwrap_or (cond t (Some g.1) (lookup (nat_eq a) gs)) [])
      by true e rest =
          let here = eqb-true a g.0 e in
          let others : filter (λ (k : ℕ × List ℕ). a == k.0) gs ≡ [] =
          none_found a gs (subst (λ f. AllByRecursion (λ y. nat_eq f y ≡ false) (map (λ (k : ℕ × List ℕ). k.0) gs)) (sym here) (IsDistinct-head nat_eq g.0 (map (λ (k : ℕ × List ℕ). k.0) gs) h)) in
          (λ i. flat_map (items (sym here i)) g.1 ++ flat_map (λ (k : ℕ × List ℕ). flat_map (items k.0) k.1) (others i))
          ∙ append-nil (flat_map (items a) g.1)
      by false e rest = rest

-- Blocks and their groups have the same pairs: `pair` puts a number and a member of its lists together, and `items` are the members
-- that a number has of the list at a place.
module _ {B P : Type 0} (eq : B → B → Bool) (same : P → P → Bool) (pair : ℕ → B → P)
    (alike : (a c : ℕ) (b d : B) → same (pair a b) (pair c d) ≡ (nat_eq a c && eq b d)) where
  -- whether a pair is among those of blocks, by what stands with its number
  pub any_of_blocks : (items : ℕ → ℕ → List B) (blocks : List Block) (a : ℕ) (b : B) →
      list_any (same (pair a b)) (flat_map (λ l. map (pair l.fixed) (items l.fixed l.list)) blocks) ≡ list_any (eq b) (flat_map (items a) (places_of blocks a))
  any_of_blocks items blocks a b =
      any_grouped nat_eq eq same pair alike (λ (l : Block). l.fixed) (λ (l : Block). items l.fixed l.list) a b blocks
      ∙ ap (list_any (eq b)) (blocks_of items a blocks)

module _ {B P : Type 0} (eq : B → B → Bool) (same : P → P → Bool) (pair : ℕ → B → P)
    (alike : (a c : ℕ) (b d : B) → same (pair a b) (pair c d) ≡ (nat_eq a c && eq b d))
    (first : P → ℕ) (second : P → B) (whole : (q : P) → pair (first q) (second q) ≡ q)
    (items : ℕ → ℕ → List B) (blocks : List Block) (groups : List (ℕ × List ℕ))
    (differ : IsDistinct nat_eq (map (λ g. g.0) groups)) (places : (a : ℕ) → places_at groups a ≡ places_of blocks a) where
  abbrev of_blocks : List P
  of_blocks = flat_map (λ l. map (pair l.fixed) (items l.fixed l.list)) blocks

  abbrev of_groups : List P
  of_groups = flat_map (λ g. map (pair g.0) (flat_map (items g.0) g.1)) groups

  pub same_members : (q : P) → list_any (same q) of_blocks ≡ list_any (same q) of_groups
  same_members q = subst (λ p. list_any (same p) of_blocks ≡ list_any (same p) of_groups) (whole q) (by (first q) (second q))
    where
      by : (a : ℕ) (b : B) → list_any (same (pair a b)) of_blocks ≡ list_any (same (pair a b)) of_groups
      by a b =
          any_of_blocks eq same pair alike items blocks a b
          ∙ ap (λ ps. list_any (eq b) (flat_map (items a) ps)) (sym (places a))
          ∙ ap (list_any (eq b)) (sym (group_of items a groups differ))
          ∙ sym (any_grouped nat_eq eq same pair alike (λ (g : ℕ × List ℕ). g.0) (λ (g : ℕ × List ℕ). flat_map (items g.0) g.1) a b groups)

  -- so blocks have as many pairs as their groups have together
  pub many_in_groups : IsEquivalence same → length (distinct same of_blocks) ≡ adds (λ g. length (distinct eq (flat_map (items g.0) g.1))) groups
  many_in_groups laws =
      many_alike same laws of_blocks of_groups same_members
      ∙ many_grouped nat_eq eq same pair alike (λ (g : ℕ × List ℕ). g.0) (λ (g : ℕ × List ℕ). flat_map (items g.0) g.1) nat_eq_equiv.refl groups differ

-- The same of the pairs that pass a test.
module _ {B P : Type 0} (eq : B → B → Bool) (same : P → P → Bool) (pair : ℕ → B → P)
    (alike : (a c : ℕ) (b d : B) → same (pair a b) (pair c d) ≡ (nat_eq a c && eq b d))
    (first : P → ℕ) (second : P → B) (whole : (q : P) → pair (first q) (second q) ≡ q)
    (items : ℕ → ℕ → List B) (blocks : List Block) (groups : List (ℕ × List ℕ))
    (differ : IsDistinct nat_eq (map (λ g. g.0) groups)) (places : (a : ℕ) → places_at groups a ≡ places_of blocks a) where
  pub many_passing : IsEquivalence same → (test : P → Bool) →
      length (distinct same (filter test (flat_map (λ l. map (pair l.fixed) (items l.fixed l.list)) blocks)))
      ≡ adds (λ g. length (distinct eq (filter (λ n. test (pair g.0 n)) (flat_map (items g.0) g.1)))) groups
  many_passing laws test =
      ap (λ ps. length (distinct same ps)) (filter_grouped nat_eq eq same pair alike (λ (l : Block). l.fixed) (λ (l : Block). items l.fixed l.list) test blocks)
      ∙ many_in_groups eq same pair alike first second whole (λ a place. filter (λ n. test (pair a n)) (items a place)) blocks groups differ places laws
      ∙ adds_same (λ (g : ℕ × List ℕ). length (distinct eq (flat_map (λ place. filter (λ n. test (pair g.0 n)) (items g.0 place)) g.1)))
      (λ (g : ℕ × List ℕ). length (distinct eq (filter (λ n. test (pair g.0 n)) (flat_map (items g.0) g.1))))
      (λ g. ap (λ ns. length (distinct eq ns)) (sym (filter_flat_map (λ n. test (pair g.0 n)) (items g.0) g.1)))
      groups
