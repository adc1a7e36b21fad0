-- When a state is active, by the state around it and by the place of the child that is chosen there.
use Rattle.std.proofs.Common.{◌≡◌, ◌≢◌, ◌⊎◌, inl, inr, ⊎_elim, ◌+◌, ℕ, ◌<◌, ◌==◌, true, false, ◌&&◌, [], ◌∷◌, zip, length, Some, None, if◌then◌else◌, sym, ap, ◌∙◌, subst, slice_get, slice_index_or, nat_lt, nat_le, arith, length-append, ltb-true, eqb, eq-eqb}
use Rattle.std.specs.Option.{option_and_then, option_map_or}
use Rattle.std.specs.Cmp.{first_so, second_so}
use Rattle.std.proofs.lemmas.Bool.{cases_lt, eqb-true, ne_eqb}
use Rattle.std.proofs.lemmas.Bool.Decides.{nat_tests}
use Rattle.std.proofs.lemmas.Option.{same_Some}
use Rattle.rsml_syntax.specs.declared.syntax.Spec.{Spec}
use Rattle.rsml_syntax.specs.declared.world.World.{World}
use Rattle.rsml_syntax.specs.declared.world.Step.{Step}
use Rattle.rsml_syntax.specs.limits.Checked.{IsChecked}
use Rattle.rsml_meaning.specs.Words.{Path, at, is_prefix, is_proper_prefix, same_path}
use Rattle.rsml_meaning.specs.Instances.{State, Component, states, components}
use Rattle.rsml_meaning.specs.Active.{active, chosen, leads_on}
use Rattle.rsml_meaning.proofs.Prefixes.{prefix_append, prefix_off, same_path_is, same_path_self}
use Rattle.state_tree.specs.nodes.Numbers.{IsPlace, paths, path_above, path_around, component_at}
use Rattle.state_tree.specs.Numbers.{path_of, leads_to, AreChoices}
use Rattle.state_tree.proofs.Above.{above_none}
use Rattle.state_tree.proofs.ActiveStep.{active_step}
use Rattle.state_tree.proofs.Kin.{get_index}
use Rattle.state_tree.proofs.Lists.{get_map, get_of_zip, all_pass, within_get, not_true, same_truth}
use Rattle.state_tree.proofs.Spread.{one_place, some_steps, end_is}
use Rattle.state_tree.proofs.Walks.{path_there, path_is, step_up, told, told_none, choice_there, and_true}
use Rattle.rsml_ground.specs.Truths.{is_active}
use Rattle.rsml_ground.specs.Children.{IsPlaceOf, has_child}
use Rattle.rsml_ground.proofs.Names.{one_child}
use Rattle.rsml_ground.proofs.Components.{stands, leads_none, leads_some, some_state}

pub before_or_at : (n k : ℕ) → n < k + 1 → (n < k) ⊎ (n ≡ k)
before_or_at n k l = ⊎_elim (λ a. inl a) (λ b. inr (omega (arith, b, l))) (cases_lt n k)

module _ (s : Spec) (checked : IsChecked s) where
  -- the top state is active
  pub top_active : (node : ℕ) (w : World) → node < length (states s) → IsPlace (paths (states s)) (path_around (states s) node) None → is_active s w node ≡ true
  top_active node w l h =
      let r = within_get (states s) node l in
      let p = path_is s node r.0.path (get_map (λ (y : State). y.path) (states s) node r.0 r.1) in
      let none = told_none (paths (states s)) (path_around (states s) node) h in
      let short = above_none r.0.path (sym (ap (λ o. option_and_then (λ (y : State). path_above y.path) o) r.1) ∙ none) in
      all_pass (leads_on (path_of s node)) (zip (components s) w.choices) (λ j z g.
      let q = get_of_zip (components s) w.choices j z g in
      let f = some_state s checked j z.0 q.0 in
      let some = some_steps s checked f.0 z.0.path f.1 in
      ap (λ b. if b then is_prefix (chosen z) (path_of s node) else true) (not_true (is_proper_prefix z.0.path (path_of s node)) (λ k.
      let m = ltb-true (length z.0.path) (length (path_of s node)) (second_so (is_prefix z.0.path (path_of s node)) (nat_lt (length z.0.path) (length (path_of s node))) k) in
      let d = ap length p in omega (arith, m, some, short, d))))

  -- the state around a state stands before it
  pub around_before : (node outer : ℕ) → node < length (states s) → IsPlace (paths (states s)) (path_around (states s) node) (Some outer) → outer < node
  around_before node outer l h =
      let r = step_up s node outer l h in
      let e = end_is s checked outer (path_of s outer) (path_there s outer r.2) in
      let span = e.1 node (path_of s node) (path_there s node l) in
      let inside : (nat_le outer node && nat_lt node e.0) ≡ true = sym span ∙ subst (λ q. is_prefix (path_of s outer) q ≡ true) (sym r.1) (prefix_append (path_of s outer) (r.0 ∷ [])) in
      let first = first_so (nat_le outer node) (nat_lt node e.0) inside in
      let differ : outer ≡ node → ⊥ = λ q. (let a = ap (λ n. length (path_of s n)) q in let b = ap length r.1 in let d = length-append (path_of s outer) (r.0 ∷ []) in omega (arith, a, b, d)) in
      less outer node first differ
    where
      less : (a b : ℕ) → nat_le a b ≡ true → (a ≡ b → ⊥) → a < b
      less a b h differ = let apart : a ≢ b = differ in grind (arith, nat_tests)

  step : (node outer : ℕ) (w : World) (l : node < length (states s)) (h : IsPlace (paths (states s)) (path_around (states s) node) (Some outer))
      → is_active s w node ≡ (is_active s w outer && leads_to s w.choices (path_of s outer) (step_up s node outer l h).0)
  step node outer w l h = let r = step_up s node outer l h in ap (active s w) r.1 ∙ active_step s w (path_of s outer) r.0

  -- in a state that is no component, a state is active where that one is
  pub same_active : (node outer : ℕ) (w : World) → node < length (states s) → IsPlace (paths (states s)) (path_around (states s) node) (Some outer)
      → IsPlace (components s) (component_at (states s) outer) None → is_active s w node ≡ is_active s w outer
  same_active node outer w l h c =
      let r = step_up s node outer l h in
      step node outer w l h
      ∙ ap (λ b. is_active s w outer && b) (leads_none s checked w.choices outer (path_of s outer) r.0 (path_there s outer r.2) (told_none (components s) (component_at (states s) outer) c))
      ∙ and_true (is_active s w outer)

  chosen_path : (w : World) (k n node : ℕ) (c : Component) → slice_get (components s) k ≡ Some c → slice_get w.choices k ≡ Some n → has_child s w k node ≡ same_path (chosen (c, n)) (path_of s node)
  chosen_path w k n node c e g =
      ap (λ o. option_map_or (λ (d : Component). same_path (chosen (d, slice_index_or w.choices k 0)) (path_of s node)) o false) e
      ∙ ap (λ i. same_path (chosen (c, i)) (path_of s node)) (get_index w.choices k n 0 g)

  -- in a component, a state is active where that one is, and has it as its child
  pub both_active : (node outer k : ℕ) (w : World) → node < length (states s) → IsPlace (paths (states s)) (path_around (states s) node) (Some outer)
      → IsPlace (components s) (component_at (states s) outer) (Some k) → AreChoices s w.choices → is_active s w node ≡ (is_active s w outer && has_child s w k node)
  both_active node outer k w l h c ch =
      let r = step_up s node outer l h in
      let t = told (components s) (component_at (states s) outer) k c in
      let n = choice_there (components s) w.choices k t.0 ch t.2 in
      step node outer w l h
      ∙ ap (λ b. is_active s w outer && b)
      (leads_some s checked w.choices outer k n.0 t.0 (path_of s outer) r.0 (path_there s outer r.2) t.1 t.2 n.1
      ∙ ap (λ q. same_path (chosen (t.0, n.0)) q) (sym r.1)
      ∙ sym (chosen_path w k n.0 node t.0 t.2 n.1))

  -- Places of children.

  -- a state stands at one place among the children
  same_place : (k i j : ℕ) (c : Component) → slice_get (components s) k ≡ Some c → i < length c.children → j < length c.children → chosen (c, i) ≡ chosen (c, j) → i ≡ j
  same_place k i j c e l m q =
      let a = stands (states s) k c e in
      let x = within_get c.children i l in
      let y = within_get c.children j m in
      let steps = prefix_off c.path (at (slice_index_or c.children i []) 0 ∷ []) (at (slice_index_or c.children j []) 0 ∷ []) q in
      let first = same_Some (at (slice_index_or c.children i []) 0) (at (slice_index_or c.children j []) 0) (ap (λ p. slice_get p 0) steps) in
      let names : x.0 ≡ y.0 = sym (get_index c.children i x.0 [] x.1) ∙ ap (λ (z : Step). z.name) first ∙ get_index c.children j y.0 [] y.1 in
      one_child s checked a.0 a.1 c a.2 a.3 i j x.0 x.1 (y.1 ∙ ap (λ z. Some z) (sym names))

  -- the child at this place is the state
  pub place_found : (k node child place : ℕ) (c : Component) → slice_get (components s) k ≡ Some c → place < length c.children
      → slice_get (paths (states s)) child ≡ Some (chosen (c, place)) → child ≡ node → IsPlaceOf s c node (Some place)
  place_found k node child place c e l is same n m =
      let here : slice_get (paths (states s)) node ≡ Some (chosen (c, place)) = subst (λ i. slice_get (paths (states s)) i ≡ Some (chosen (c, place))) same is in (
        λ h. ap (λ i. Some i) (same_place k place n c e l m (same_Some (chosen (c, place)) (chosen (c, n)) (sym here ∙ h))),
        λ h. subst (λ i. slice_get (paths (states s)) node ≡ Some (chosen (c, i))) (same_Some place n h) here,
      )

  -- another state has another path
  pub not_this : (node child : ℕ) (p : Path) → slice_get (paths (states s)) child ≡ Some p → child ≢ node → slice_get (paths (states s)) node ≡ Some p → ⊥
  not_this node child p is differ h = differ (one_place s checked child node p is h)

  pub place_none : (node : ℕ) (c : Component) → ((n : ℕ) → n < length c.children → slice_get (paths (states s)) node ≡ Some (chosen (c, n)) → ⊥) → IsPlaceOf s c node None
  place_none node c never n m = (λ h. absurd (never n m h), λ h. absurd (let z : ⊥ = cc in z))

  -- the component has the state as its child where that one's place is chosen
  pub chosen_at : (k node place : ℕ) (w : World) (c : Component) → slice_get (components s) k ≡ Some c → node < length (states s) → IsPlaceOf s c node (Some place) → AreChoices s w.choices
      → eqb (slice_index_or w.choices k 0) place ≡ has_child s w k node
  chosen_at k node place w c e l h ch =
      let n = choice_there (components s) w.choices k c ch e in
      let there = path_there s node l in
      ap (λ i. eqb i place) (get_index w.choices k n.0 0 n.1)
      ∙ same_truth (eqb n.0 place) (same_path (chosen (c, n.0)) (path_of s node))
      (λ t. let is : place ≡ n.0 = sym (eqb-true n.0 place t) in
      let q = same_Some (path_of s node) (chosen (c, n.0)) (sym there ∙ (h n.0 n.2).1 (ap (λ i. Some i) is)) in
      subst (λ p. same_path p (path_of s node) ≡ true) q (same_path_self (path_of s node)))
      (λ t. let q = same_path_is (chosen (c, n.0)) (path_of s node) t in
      eq-eqb n.0 place (sym (same_Some place n.0 ((h n.0 n.2).0 (there ∙ ap (λ p. Some p) (sym q))))))
      ∙ sym (chosen_path w k n.0 node c e n.1)

  -- a state that is no child is never chosen
  pub chosen_never : (k node : ℕ) (w : World) (c : Component) → slice_get (components s) k ≡ Some c → node < length (states s) → IsPlaceOf s c node None → AreChoices s w.choices
      → false ≡ has_child s w k node
  chosen_never k node w c e l h ch =
      let n = choice_there (components s) w.choices k c ch e in
      let there = path_there s node l in
      sym (chosen_path w k n.0 node c e n.1
      ∙ not_true (same_path (chosen (c, n.0)) (path_of s node)) (λ t.
      let q = same_path_is (chosen (c, n.0)) (path_of s node) t in
      let none : None ≡ Some n.0 = (h n.0 n.2).0 (there ∙ ap (λ p. Some p) (sym q)) in
      absurd (let no : ⊥ = cc in no)))

  -- no choice is as great as there are children
  many_never : (k many : ℕ) (w : World) (c : Component) → slice_get (components s) k ≡ Some c → many ≡ length c.children → AreChoices s w.choices → eqb (slice_index_or w.choices k 0) many ≡ false
  many_never k many w c e l ch =
      let n = choice_there (components s) w.choices k c ch e in
      ap (λ i. eqb i many) (get_index w.choices k n.0 0 n.1) ∙ ne_eqb n.0 many (λ q. let m = n.2 in omega (arith, q, m, l))

  -- a state is active where the state around is, and the component that this is has the child at the place of the state
  pub active_by_place : (node outer k child place : ℕ) (c : Component) → slice_get (components s) k ≡ Some c → node < length (states s)
      → IsPlace (paths (states s)) (path_around (states s) node) (Some outer) → IsPlace (components s) (component_at (states s) outer) (Some k)
      → place < length c.children → slice_get (paths (states s)) child ≡ Some (chosen (c, place)) → child ≡ node
      → (w : World) → AreChoices s w.choices → is_active s w node ≡ (is_active s w outer && slice_index_or w.choices k 0 == place)
  active_by_place node outer k child place c e l around here m is same w ch =
      both_active node outer k w l around here ch
      ∙ ap (λ b. is_active s w outer && b) (sym (chosen_at k node place w c e l (place_found k node child place c e m is same) ch))

  -- it is not where it is none of the children
  pub never_by_place : (node outer k many : ℕ) (c : Component) → slice_get (components s) k ≡ Some c → node < length (states s)
      → IsPlace (paths (states s)) (path_around (states s) node) (Some outer) → IsPlace (components s) (component_at (states s) outer) (Some k)
      → many ≡ length c.children → ((n : ℕ) → n < length c.children → slice_get (paths (states s)) node ≡ Some (chosen (c, n)) → ⊥)
      → (w : World) → AreChoices s w.choices → is_active s w node ≡ (is_active s w outer && slice_index_or w.choices k 0 == many)
  never_by_place node outer k many c e l around here m never w ch =
      both_active node outer k w l around here ch
      ∙ ap (λ b. is_active s w outer && b) (sym (chosen_never k node w c e l (place_none node c never) ch) ∙ sym (many_never k many w c e m ch))
