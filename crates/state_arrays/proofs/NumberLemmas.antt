-- The number of each node as a child of the one around it.
use Rattle.std.proofs.Common.{◌≡◌, ℕ, zero, suc, ◌+◌, ◌-◌, ◌≤◌, ◌<◌, Bool, true, false, cond, ◌&&◌, List, [], ◌∷◌, length, take, Option, Some, None, nat_eq, slice_get, ⊎_elim, refl, sym, ap, ◌∙◌, subst, arith, true≢false, length-append, Bor}
use Rattle.std.specs.Option.{option_map, option_and_then}
use Rattle.std.specs.List.{position_from}
use Rattle.std.specs.Cmp.{first_so, second_so}
use Rattle.rsml_syntax.specs.text.Names.{Name, same}
use Rattle.rsml_meaning.specs.Words.{Path, Instance, Each, at, same_path, child_path}
use Rattle.rsml_meaning.specs.Instances.{State}
use Rattle.rsml_meaning.proofs.Same.{nat_same, nat_itself, name_same, name_itself}
use Rattle.state_tree.specs.nodes.Numbers.{IsPlace, paths, path_above, path_around}
use Rattle.state_tree.proofs.Numbering.{get_last, above_child}
use Rattle.state_arrays.specs.Places.{path_place, path_at}
use Rattle.state_arrays.specs.Trees.{PathsDiffer, HasPath, IsTree}
use Rattle.state_arrays.specs.Children.{path_of, child_place, last_of, IsChildAt}
use Rattle.state_arrays.specs.declared.child.Child.{Child}
use Rattle.state_arrays.specs.contracts.child.ChildPartialEq.TheImpl as child_eq
use Rattle.state_arrays.proofs.PathLemmas.{same_last, path_other, place_at, never_empty, step_of}

-- Children.

alike : Option ℕ → Option ℕ → Bool
alike None None = true
alike (Some m) (Some n) = nat_eq m n
alike _ _ = false

abbrev equal : Child → Child → Bool
equal a b = (child_eq.ghosts).eq a b

equal_is : (a b : Child) → equal a b ≡ (alike a.parent b.parent && (same a.name.now b.name.now && nat_eq a.index b.index))
unfolding alike
equal_is a b = by a.parent b.parent a.name b.name a.index b.index
  where
    by : (p q : Option ℕ) (n m : Bor Name) (i j : ℕ) → equal (record { parent = p; name = n; index = i }) (record { parent = q; name = m; index = j }) ≡ (alike p q && (same n.now m.now && nat_eq i j))
    by None None n m i j = refl
    by None (Some q) n m i j = refl
    by (Some p) None n m i j = refl
    by (Some p) (Some q) n m i j = refl

alike_same : (p q : Option ℕ) → alike p q ≡ true → p ≡ q
unfolding alike
alike_same None None h = refl
alike_same None (Some q) h = absurd (true≢false (sym h))
alike_same (Some p) None h = absurd (true≢false (sym h))
alike_same (Some p) (Some q) h = ap (λ (n : ℕ). Some n) (nat_same p q h)

alike_itself : (p : Option ℕ) → alike p p ≡ true
unfolding alike
alike_itself None = refl
alike_itself (Some p) = nat_itself p

-- What equal children have in common.
record AreEqual (a b : Child) : Type 0 where
  parents : a.parent ≡ b.parent
  steps : at a.name.now a.index ≡ at b.name.now b.index

equal_same : (a b : Child) → equal a b ≡ true → AreEqual a b
equal_same a b h =
    let f = sym (equal_is a b) ∙ h in
    let rest = second_so (alike a.parent b.parent) (same a.name.now b.name.now && nat_eq a.index b.index) f in
    let n = name_same a.name.now b.name.now (first_so (same a.name.now b.name.now) (nat_eq a.index b.index) rest) in
    let i = nat_same a.index b.index (second_so (same a.name.now b.name.now) (nat_eq a.index b.index) rest) in
    record {
      parents = alike_same a.parent b.parent (first_so (alike a.parent b.parent) (same a.name.now b.name.now && nat_eq a.index b.index) f);
      steps = λ k. at (n k) (i k);
    }

same_equal : (a b : Child) → AreEqual a b → equal a b ≡ true
same_equal a b h =
    equal_is a b
    ∙ ap (λ (p : Option ℕ). alike p b.parent && (same a.name.now b.name.now && nat_eq a.index b.index)) h.parents
    ∙ ap (λ t. t && (same a.name.now b.name.now && nat_eq a.index b.index)) (alike_itself b.parent)
    ∙ ap (λ (x : Instance). same x.name b.name.now && nat_eq x.index b.index) h.steps
    ∙ ap (λ t. t && nat_eq b.index b.index) (name_itself b.name.now)
    ∙ nat_itself b.index

-- Lists of states.

get_paths : (xs : List State) (n : ℕ) → slice_get (paths xs) n ≡ path_at xs n
get_paths [] n = refl
get_paths (x ∷ xs) zero = refl
get_paths (x ∷ xs) (suc n) = get_paths xs n

pub has_path : (xs : List State) (n : ℕ) → n < length xs → (p : Path) × (path_at xs n ≡ Some p)
has_path [] n h = absurd (let no : ⊥ = omega (arith, h) in no)
has_path (x ∷ xs) zero h = (x.path, refl)
has_path (x ∷ xs) (suc n) h = has_path xs n (omega (arith, h))

around_is : (xs : List State) (n : ℕ) → path_around xs n ≡ option_and_then path_above (path_at xs n)
around_is xs n = by (slice_get xs n)
  where
    by : (o : Option State) → option_and_then (λ (x : State). path_above x.path) o ≡ option_and_then path_above (option_map (λ (x : State). x.path) o)
    by None = refl
    by (Some x) = refl

last_step : (p : Path) (step : Instance) → last_of (child_path p step) ≡ Some step
last_step p step =
    let l = length-append p (step ∷ []) in
    let e : length (child_path p step) - 1 ≡ length p = omega (arith, l) in
    ap (slice_get (child_path p step)) e ∙ get_last p step []

each_take : (P : State → Type 0) (n : ℕ) (xs : List State) → Each P xs → Each P (take n xs)
each_take P zero xs h = tt
each_take P (suc n) [] h = tt
each_take P (suc n) (x ∷ xs) h = (h.0, each_take P n xs h.1)

differ_take : (n : ℕ) (xs : List State) → PathsDiffer xs → PathsDiffer (take n xs)
differ_take zero xs h = tt
differ_take (suc n) [] h = tt
differ_take (suc n) (x ∷ xs) h = (each_take (λ y. x.path ≡ y.path → ⊥) n xs h.0, differ_take n xs h.1)

at_take : (n : ℕ) (xs : List State) (p : Path) → path_at xs n ≡ Some p → path_at (take (suc n) xs) n ≡ Some p
at_take n [] p h = cc
at_take zero (x ∷ xs) p h = h
at_take (suc n) (x ∷ xs) p h = at_take n xs p h

-- one more state of another path changes no place
other_take : (q : Path) (k n : ℕ) (xs : List State) (p : Path) → path_at xs n ≡ Some p → (q ≡ p → ⊥)
    → position_from (λ (x : State). same_path q x.path) k (take n xs) ≡ position_from (λ (x : State). same_path q x.path) k (take (suc n) xs)
other_take q k n [] p h other = cc
other_take q k zero (x ∷ xs) p h other = sym (ap (λ (b : Bool). cond b (Some k) None) (path_other q x.path (λ e. other (e ∙ (let f : x.path ≡ p = cc in f)))))
other_take q k (suc n) (x ∷ xs) p h other = ap (λ (o : Option ℕ). cond (same_path q x.path) (Some k) o) (other_take q (k + 1) n xs p h other)

-- Nodes.

module _ (xs : List State) (tree : IsTree xs) where
  some_length : (p : Path) → HasPath xs p → 1 ≤ length p
  some_length [] h = absurd (never_empty xs tree h)
  some_length (x ∷ p) h = omega arith

  no_parent : (o : Option ℕ) → IsPlace (paths xs) None o → path_of xs o ≡ Some []
  no_parent None h = refl
  no_parent (Some n) h = absurd h

  some_parent : (p : Path) (o : Option ℕ) → IsPlace (paths xs) (Some p) o → path_of xs o ≡ Some p
  some_parent p None h = absurd h
  some_parent p (Some n) h = sym (get_paths xs n) ∙ h

  -- What is known of a node as a child: the path around it, and its last step.
  record IsNode (p : Path) (c : Child) : Type 0 where
    above : Path
    is : p ≡ child_path above (at c.name.now c.index)
    around : path_of xs c.parent ≡ Some above

  node_is : (n : ℕ) (p : Path) (c : Child) → path_at xs n ≡ Some p → IsChildAt xs n (Some c) → IsNode p c
  node_is n p c e h =
      let s = step_of xs tree p (n, e) in
      let last : Some (at c.name.now c.index) ≡ Some s.step = sym h.0 ∙ ap (option_and_then last_of) e ∙ ap last_of s.is ∙ last_step s.above s.step in
      let step : at c.name.now c.index ≡ s.step = cc in
      let place = subst (λ o. IsPlace (paths xs) o c.parent) (around_is xs n ∙ ap (option_and_then path_above) e ∙ ap path_above s.is) h.1 in
      record {
        above = s.above;
        is = s.is ∙ ap (child_path s.above) (sym step);
        around = ⊎_elim
            (λ none. no_parent c.parent (subst (λ q. IsPlace (paths xs) (path_above (child_path q s.step)) c.parent) none place) ∙ ap (λ (q : Path). Some q) (sym none))
            (λ has. some_parent s.above c.parent (subst (λ o. IsPlace (paths xs) o c.parent) (above_child s.above s.step (some_length s.above has)) place))
            s.around;
      }

  -- nodes around with one path are one
  same_parent : (a b : Option ℕ) (q : Path) → path_of xs a ≡ Some q → path_of xs b ≡ Some q → a ≡ b
  same_parent None None q e f = refl
  same_parent None (Some n) q e f = absurd (never_empty xs tree (n, f ∙ sym e))
  same_parent (Some m) None q e f = absurd (never_empty xs tree (m, e ∙ sym f))
  same_parent (Some m) (Some n) q e f = sym (place_at xs m q tree.differ e) ∙ place_at xs n q tree.differ f

  pub numbered_turn : (n : ℕ) (p : Path) (child c : Child) (old : Option ℕ) → path_at xs n ≡ Some p → IsChildAt xs n (Some child)
      → old ≡ child_place xs (take n xs) c.parent (at c.name.now c.index) → cond (equal child c) (Some n) old ≡ child_place xs (take (suc n) xs) c.parent (at c.name.now c.index)
  numbered_turn n p child c old e h o = by (equal child c) refl
    where
      node : IsNode p child
      node = node_is n p child e h

      -- a child of another node has another path
      others : (q : Option Path) → path_of xs c.parent ≡ q → equal child c ≡ false
          → option_and_then (λ r. path_place (take n xs) (child_path r (at c.name.now c.index))) q ≡ option_and_then (λ r. path_place (take (suc n) xs) (child_path r (at c.name.now c.index))) q
      others None f t = refl
      others (Some q) f t = other_take (child_path q (at c.name.now c.index)) 0 n xs p e (λ g.
          let r = same_last q node.above (at c.name.now c.index) (at child.name.now child.index) (g ∙ node.is) in
          true≢false (sym (same_equal child c (record { parents = same_parent child.parent c.parent q (node.around ∙ ap (λ (z : Path). Some z) (sym r.0)) f; steps = sym r.1 })) ∙ t))

      by : (b : Bool) → equal child c ≡ b → cond b (Some n) old ≡ child_place xs (take (suc n) xs) c.parent (at c.name.now c.index)
      by true t =
          let s = equal_same child c t in
          sym (
          ap (λ (q : Option ℕ). child_place xs (take (suc n) xs) q (at c.name.now c.index)) (sym s.parents)
          ∙ ap (child_place xs (take (suc n) xs) child.parent) (sym s.steps)
          ∙ ap (option_and_then (λ q. path_place (take (suc n) xs) (child_path q (at child.name.now child.index)))) node.around
          ∙ ap (path_place (take (suc n) xs)) (sym node.is)
          ∙ place_at (take (suc n) xs) n p (differ_take (suc n) xs tree.differ) (at_take n xs p e)
          )
      by false t = o ∙ others (path_of xs c.parent) refl t

  -- each node has a last step
  pub last_there : (n : ℕ) (p : Path) → path_at xs n ≡ Some p → option_and_then last_of (path_at xs n) ≡ None → ⊥
  last_there n p e h =
      let s = step_of xs tree p (n, e) in
      let f : None ≡ Some s.step = sym h ∙ ap (option_and_then last_of) e ∙ ap last_of s.is ∙ last_step s.above s.step in
      let no : ⊥ = cc in no
