-- What comparisons ask for, edge by edge: cells with numbers.
use Rattle.std.proofs.Common.{◌≡◌, Bool, true, false, ◌&&◌, ◌||◌, List, [], ◌∷◌, ◌++◌, map, Option, None, Some, if◌then◌else◌, refl, sym, ap, ◌∙◌, ℤ, pos, ◌+ℤ◌}
use Rattle.std.specs.Prelude.{flat_map}
use Rattle.std.specs.List.{list_any}
use Rattle.std.specs.Option.{option_map, option_to_list}
use Rattle.std.specs.Ordering.{int_eq}
use Rattle.std.proofs.lemmas.List.Folds.{list_any-append}
use Rattle.rsml_syntax.specs.declared.syntax.Relation.{Relation}
use Rattle.rsml_syntax.specs.declared.syntax.Relation.TheVariants as relations
use Rattle.rsml_syntax.specs.limits.Comparisons.{InputCell, same_cell, GroundSum, Comparison, comparison_of}
use Rattle.rsml_syntax.specs.limits.Thresholds.{single_cell, constant_number, mirrored, asked, Threshold, same_threshold}
use Rattle.rsml_limits.specs.declared.thresholds.edge.Edge.{Edge}
use Rattle.rsml_limits.specs.declared.thresholds.edge.Edge.TheVariants.{Below, Above}
use Rattle.rsml_limits.specs.thresholds.Compared.{Right, compared}
use Rattle.rsml_limits.specs.thresholds.Edges.{is_asked, edge_of, cells_of, edge_number, edge_numbers, asked_numbers, asking_cells, edge_pairs}
use Rattle.rsml_limits.specs.thresholds.Pairs.{SameMembers, SamePairs, grid, cell_pairs, pairs}
use Rattle.rsml_limits.proofs.MemberLemmas.{same_itself, same_last, same_more, same_then}

-- TESTS OF LISTS

or_false : (b : Bool) → (b || false) ≡ b
or_false true = refl
or_false false = refl

and_false : (b : Bool) → (b && false) ≡ false
and_false true = refl
and_false false = refl

-- two by two, in either order
cross : (a b c d : Bool) → ((a || b) || (c || d)) ≡ ((a || c) || (b || d))
cross true b c d = refl
cross false true true d = refl
cross false true false d = refl
cross false false c d = refl

or_and : (a b c : Bool) → ((a || b) && c) ≡ ((a && c) || (b && c))
or_and true b true = refl
or_and true b false = sym (and_false b)
or_and false b c = refl

module _ {A : Type 0} where
  any_same : (f g : A → Bool) → ((x : A) → f x ≡ g x) → (xs : List A) → list_any f xs ≡ list_any g xs
  any_same f g h xs = ap (λ t. list_any t xs) (λ i x. h x i)

  any_or : (f g : A → Bool) (xs : List A) → list_any (λ x. f x || g x) xs ≡ (list_any f xs || list_any g xs)
  any_or f g [] = refl
  any_or f g (x ∷ xs) = ap (λ t. (f x || g x) || t) (any_or f g xs) ∙ cross (f x) (g x) (list_any f xs) (list_any g xs)

  -- what does not depend on the item stands apart
  any_and : (f : A → Bool) (b : Bool) (xs : List A) → list_any (λ x. f x && b) xs ≡ (list_any f xs && b)
  any_and f b [] = refl
  any_and f b (x ∷ xs) = ap (λ t. (f x && b) || t) (any_and f b xs) ∙ sym (or_and (f x) (list_any f xs) b)

  and_any : (b : Bool) (f : A → Bool) (xs : List A) → list_any (λ x. b && f x) xs ≡ (b && list_any f xs)
  and_any true f xs = refl
  and_any false f [] = refl
  and_any false f (x ∷ xs) = and_any false f xs

  any_flat_map : {B : Type 0} (test : B → Bool) (f : A → List B) (xs : List A) → list_any test (flat_map f xs) ≡ list_any (λ x. list_any test (f x)) xs
  any_flat_map test f [] = refl
  any_flat_map test f (x ∷ xs) = list_any-append test (f x) (flat_map f xs) ∙ ap (λ t. list_any test (f x) || t) (any_flat_map test f xs)

  any_map : {B : Type 0} (test : B → Bool) (f : A → B) (xs : List A) → list_any test (map f xs) ≡ list_any (λ x. test (f x)) xs
  any_map test f [] = refl
  any_map test f (x ∷ xs) = ap (λ t. test (f x) || t) (any_map test f xs)

-- a condition on one of two lists may stand at the other
either_list : {A B : Type 0} (f : A → Bool) (g : B → Bool) (t : Bool) (xs : List A) (ys : List B) →
    (list_any f (if t then xs else []) && list_any g ys) ≡ (list_any f xs && list_any g (if t then ys else []))
either_list f g true xs ys = refl
either_list f g false xs ys = sym (and_false (list_any f xs))

-- A PAIR AMONG THOSE OF A COMPARISON

-- the numbers that are asked, by edges
asked_edges : (relation : Relation) (c : ℤ) → asked relation c ≡ (if is_asked Below relation then c ∷ [] else []) ++ (if is_asked Above relation then (c +ℤ pos 1) ∷ [] else [])
asked_edges relations.Less c = refl
asked_edges relations.LessEqual c = refl
asked_edges relations.Greater c = refl
asked_edges relations.GreaterEqual c = refl
asked_edges relations.Equal c = refl
asked_edges relations.NotEqual c = refl

abbrev asked_edge : Edge → Relation → Option ℤ → List ℤ
asked_edge edge relation c = if is_asked edge relation then option_to_list (option_map (edge_of edge) c) else []

none_asked : (edge : Edge) (relation : Relation) → asked_edge edge relation None ≡ []
none_asked edge relation = by (is_asked edge relation)
  where
    by : (t : Bool) → ◌≡◌ {A = List ℤ} (if t then [] else []) []
    by true = refl
    by false = refl

module _ (q : Threshold) where
  any_pairs : (cell : InputCell) (ns : List ℤ) → list_any (same_threshold q) (map (λ n. (cell, n)) ns) ≡ (list_any (int_eq q.1) ns && same_cell q.0 cell)
  any_pairs cell ns = any_map (same_threshold q) (λ n. (cell, n)) ns ∙ any_and (int_eq q.1) (same_cell q.0 cell) ns

  any_grid : (cells : List InputCell) (ns : List ℤ) → list_any (same_threshold q) (grid cells ns) ≡ (list_any (int_eq q.1) ns && list_any (same_cell q.0) cells)
  any_grid cells ns =
      any_flat_map (same_threshold q) (λ (c : InputCell). map (λ n. (c, n)) ns) cells
      ∙ any_same (λ c. list_any (same_threshold q) (map (λ n. (c, n)) ns)) (λ c. list_any (int_eq q.1) ns && same_cell q.0 c) (λ c. any_pairs c ns) cells
      ∙ and_any (list_any (int_eq q.1) ns) (same_cell q.0) cells

  abbrev has_cell : Option InputCell → Bool
  has_cell cell = list_any (same_cell q.0) (option_to_list cell)

  any_cell_pairs : (cell : Option InputCell) (relation : Relation) (c : Option ℤ) →
      list_any (same_threshold q) (cell_pairs cell relation c)
      ≡ ((list_any (int_eq q.1) (asked_edge Below relation c) || list_any (int_eq q.1) (asked_edge Above relation c)) && has_cell cell)
  any_cell_pairs None relation None = sym (and_false (list_any (int_eq q.1) (asked_edge Below relation None) || list_any (int_eq q.1) (asked_edge Above relation None)))
  any_cell_pairs None relation (Some c) = sym (and_false (list_any (int_eq q.1) (asked_edge Below relation (Some c)) || list_any (int_eq q.1) (asked_edge Above relation (Some c))))
  any_cell_pairs (Some cell) relation None =
      λ i. (list_any (int_eq q.1) (sym (none_asked Below relation) i) || list_any (int_eq q.1) (sym (none_asked Above relation) i)) && has_cell (Some cell)
  any_cell_pairs (Some cell) relation (Some c) =
      any_pairs cell (asked relation c)
      ∙ (λ i. list_any (int_eq q.1) (asked_edges relation c i) && sym (or_false (same_cell q.0 cell)) i)
      ∙ ap (λ t. t && has_cell (Some cell)) (list_any-append (int_eq q.1) (asked_edge Below relation (Some c)) (asked_edge Above relation (Some c)))

  -- of a sum with a right side, at an edge
  abbrev at_edge : Edge → GroundSum → Right → Bool
  at_edge edge s r =
      (list_any (int_eq q.1) (if is_asked edge r.relation then edge_number edge r.terms else []) && has_cell (single_cell s))
      || (list_any (int_eq q.1) (edge_number edge s) && list_any (same_cell q.0) (if is_asked edge (mirrored r.relation) then option_to_list (single_cell r.terms) else []))

  any_comparison : (s : GroundSum) (r : Right) → list_any (same_threshold q) (pairs (comparison_of s r.relation r.terms)) ≡ (at_edge Below s r || at_edge Above s r)
  any_comparison s r =
      let of = λ (e : Edge). list_any (int_eq q.1) (asked_edge e r.relation (constant_number r.terms)) in
      let cell = has_cell (single_cell s) in
      let swapped = λ (e : Edge). list_any (int_eq q.1) (edge_number e s) && list_any (same_cell q.0) (if is_asked e (mirrored r.relation) then option_to_list (single_cell r.terms) else []) in
      let mirror = λ (e : Edge). list_any (int_eq q.1) (asked_edge e (mirrored r.relation) (constant_number s)) in
      let each = λ (e : Edge). either_list (int_eq q.1) (same_cell q.0) (is_asked e (mirrored r.relation)) (edge_number e s) (option_to_list (single_cell r.terms)) in
      list_any-append (same_threshold q) (cell_pairs (single_cell s) r.relation (constant_number r.terms)) (cell_pairs (single_cell r.terms) (mirrored r.relation) (constant_number s))
      ∙ (λ i. (any_cell_pairs (single_cell s) r.relation (constant_number r.terms) ∙ or_and (of Below) (of Above) cell) i
      || (any_cell_pairs (single_cell r.terms) (mirrored r.relation) (constant_number s)
      ∙ or_and (mirror Below) (mirror Above) (has_cell (single_cell r.terms))
      ∙ (λ j. each Below j || each Above j)) i)
      ∙ cross (of Below && cell) (of Above && cell) (swapped Below) (swapped Above)

  any_edge : (edge : Edge) (sums : List GroundSum) (rights : List Right) → list_any (λ r. list_any (λ s. at_edge edge s r) sums) rights ≡ list_any (same_threshold q) (edge_pairs edge sums rights)
  any_edge edge sums rights =
      let number = λ (r : Right). list_any (int_eq q.1) (if is_asked edge r.relation then edge_number edge r.terms else []) in
      let asking = λ (r : Right). list_any (same_cell q.0) (if is_asked edge (mirrored r.relation) then option_to_list (single_cell r.terms) else []) in
      let cell = λ (s : GroundSum). has_cell (single_cell s) in
      let constant = λ (s : GroundSum). list_any (int_eq q.1) (edge_number edge s) in
      any_same (λ r. list_any (λ s. at_edge edge s r) sums) (λ r. (number r && list_any cell sums) || (list_any constant sums && asking r))
      (λ r. any_or (λ s. number r && cell s) (λ s. constant s && asking r) sums ∙ (λ i. and_any (number r) cell sums i || any_and constant (asking r) sums i))
      rights
      ∙ any_or (λ r. number r && list_any cell sums) (λ r. list_any constant sums && asking r) rights
      ∙ (λ i. any_and number (list_any cell sums) rights i || and_any (list_any constant sums) asking rights i)
      ∙ sym
      (list_any-append (same_threshold q) (grid (cells_of sums) (asked_numbers edge rights)) (grid (asking_cells edge rights) (edge_numbers edge sums))
      ∙ (λ i. any_grid (cells_of sums) (asked_numbers edge rights) i || any_grid (asking_cells edge rights) (edge_numbers edge sums) i)
      ∙ (λ i. (any_flat_map (int_eq q.1) (λ (r : Right). if is_asked edge r.relation then edge_number edge r.terms else []) rights i && any_flat_map (same_cell q.0) (λ s. option_to_list (single_cell s)) sums i)
      || (any_flat_map (int_eq q.1) (edge_number edge) sums i && any_flat_map (same_cell q.0) (λ (r : Right). if is_asked edge (mirrored r.relation) then option_to_list (single_cell r.terms) else []) rights i)))

  any_compared : (sums : List GroundSum) (rights : List Right) →
      list_any (same_threshold q) (flat_map pairs (compared sums rights)) ≡ list_any (same_threshold q) (edge_pairs Below sums rights ++ edge_pairs Above sums rights)
  any_compared sums rights =
      let is_in = λ (x : Comparison). list_any (same_threshold q) (pairs x) in
      let with_left = λ (r : Right) (left : GroundSum). comparison_of left r.relation r.terms in
      any_flat_map (same_threshold q) pairs (compared sums rights)
      ∙ any_flat_map is_in (λ (r : Right). map (with_left r) sums) rights
      ∙ any_same (λ r. list_any is_in (map (with_left r) sums)) (λ r. list_any (λ s. at_edge Below s r) sums || list_any (λ s. at_edge Above s r) sums)
      (λ r.
      any_map is_in (with_left r) sums
      ∙ any_same (λ s. is_in (with_left r s)) (λ s. at_edge Below s r || at_edge Above s r) (λ s. any_comparison s r) sums
      ∙ any_or (λ s. at_edge Below s r) (λ s. at_edge Above s r) sums)
      rights
      ∙ any_or (λ r. list_any (λ s. at_edge Below s r) sums) (λ r. list_any (λ s. at_edge Above s r) sums) rights
      ∙ (λ i. any_edge Below sums rights i || any_edge Above sums rights i)
      ∙ sym (list_any-append (same_threshold q) (edge_pairs Below sums rights) (edge_pairs Above sums rights))

-- what comparisons ask for is what they ask for at both edges
compared_edges : (sums : List GroundSum) (rights : List Right) → SamePairs (edge_pairs Below sums rights ++ edge_pairs Above sums rights) (flat_map pairs (compared sums rights))
compared_edges sums rights = record { same = λ q. sym (any_compared q sums rights) }

grid_same : (xs ys : List InputCell) (ns ms : List ℤ) → SameMembers same_cell xs ys → ns ≡ ms → SamePairs (grid xs ns) (grid ys ms)
grid_same xs ys ns ms h e = record { same = λ q. any_grid q xs ns ∙ (λ i. list_any (int_eq q.1) (e i) && h.same q.0 i) ∙ sym (any_grid q ys ms) }

-- what is put down at an edge
pub edge_put : (edge : Edge) (sums : List GroundSum) (rights : List Right) (xs ys : List InputCell) (ns ms : List ℤ) (old between new : List Threshold) →
    SameMembers same_cell xs (cells_of sums) → ns ≡ asked_numbers edge rights → between ≡ old ++ grid xs ns →
    SameMembers same_cell ys (asking_cells edge rights) → ms ≡ edge_numbers edge sums → new ≡ between ++ grid ys ms →
    SamePairs new (old ++ edge_pairs edge sums rights)
edge_put edge sums rights xs ys ns ms old between new h e put h' e' put' =
    let first = grid_same xs (cells_of sums) ns (asked_numbers edge rights) h e in
    let second = grid_same ys (asking_cells edge rights) ms (edge_numbers edge sums) h' e' in
    same_more old between (grid (cells_of sums) (asked_numbers edge rights)) (grid (asking_cells edge rights) (edge_numbers edge sums)) new
    (same_last old (grid xs ns) (grid (cells_of sums) (asked_numbers edge rights)) between (same_then between between (old ++ grid xs ns) (same_itself between) put) first)
    (same_last between (grid ys ms) (grid (asking_cells edge rights) (edge_numbers edge sums)) new (same_then new new (between ++ grid ys ms) (same_itself new) put') second)

pub edges_put : (sums : List GroundSum) (rights : List Right) (old between new : List Threshold) →
    SamePairs between (old ++ edge_pairs Below sums rights) → SamePairs new (between ++ edge_pairs Above sums rights) → SamePairs new (old ++ flat_map pairs (compared sums rights))
edges_put sums rights old between new h k =
    same_last old (edge_pairs Below sums rights ++ edge_pairs Above sums rights) (flat_map pairs (compared sums rights)) new
    (same_more old between (edge_pairs Below sums rights) (edge_pairs Above sums rights) new h k) (compared_edges sums rights)
