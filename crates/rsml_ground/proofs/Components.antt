-- Where components stand among the states, and which of their children lead to a state.
use Rattle.std.proofs.Common.{◌≡◌, ℕ, zero, suc, true, List, [], ◌∷◌, zip, length, take, Option, Some, None, if◌then◌else◌, refl, sym, ap, ◌∙◌, subst, slice_get, slice_index_or, arith, length-append}
use Rattle.std.specs.List.{cons_option}
use Rattle.std.specs.Option.{option_and_then}
use Rattle.std.specs.Cmp.{first_so}
use Rattle.rsml_syntax.specs.declared.syntax.Spec.{Spec}
use Rattle.rsml_syntax.specs.declared.world.Step.{Step}
use Rattle.rsml_syntax.specs.limits.Checked.{IsChecked}
use Rattle.rsml_meaning.specs.Words.{Path, at, child_path, is_prefix, same_path}
use Rattle.rsml_meaning.specs.Instances.{State, Component, states, components}
use Rattle.rsml_meaning.specs.Active.{chosen}
use Rattle.rsml_meaning.proofs.Prefixes.{same_path_is, same_path_self, whole_prefix}
use Rattle.state_tree.specs.nodes.Numbers.{paths, components_of, component_at}
use Rattle.state_tree.specs.Numbers.{leads_here, leads_to}
use Rattle.state_tree.proofs.Lists.{get_map, get_of_map, get_zip, get_of_zip, all_pass, one_decides, not_true, same_truth}
use Rattle.state_tree.proofs.Goods.{good_at}
use Rattle.state_tree.proofs.Spread.{one_place}

-- the component of this number is that of a state, before which as many states are components
abbrev pub Stands : List State → ℕ → Component → Type 0
Stands xs j c = (n : ℕ) × (x : State) × (slice_get xs n ≡ Some x) × (x.component ≡ Some c) × (length (components_of (take n xs)) ≡ j)

pub stands : (xs : List State) (j : ℕ) (c : Component) → slice_get (components_of xs) j ≡ Some c → Stands xs j c
stands [] j c e = absurd (let no : ⊥ = cc in no)
stands (x ∷ xs) j c e = by_component x.component refl (λ k. stands xs k c) j e
  where
    by_component : (o : Option Component) → x.component ≡ o → ((k : ℕ) → slice_get (components_of xs) k ≡ Some c → Stands xs k c) → (j : ℕ) → slice_get (cons_option o (components_of xs)) j ≡ Some c → Stands (x ∷ xs) j c
    by_component None q later j e = let r = later j e in (suc r.0, r.1, r.2, r.3, ap (λ o. length (cons_option o (components_of (take r.0 xs)))) q ∙ r.4)
    by_component (Some d) q later zero e = (zero, x, refl, q ∙ e, refl)
    by_component (Some d) q later (suc j) e = let r = later j e in (suc r.0, r.1, r.2, r.3, ap (λ o. length (cons_option o (components_of (take r.0 xs)))) q ∙ ap suc r.4)

-- a path is begun by one that is as long exactly where it is that
begins_same : (p q : Path) → length q ≡ length p → is_prefix p q ≡ same_path p q
begins_same p q e = same_truth (is_prefix p q) (same_path p q)
    (λ h. subst (λ z. same_path p z ≡ true) (whole_prefix p q h (omega (arith, e))) (same_path_self p))
    (λ h. first_so (is_prefix p q) (is_prefix q p) h)

module _ (s : Spec) (checked : IsChecked s) where
  own_path : (j : ℕ) (c : Component) (h : Stands (states s) j c) → slice_get (paths (states s)) h.0 ≡ Some c.path
  own_path j c h = get_map (λ (y : State). y.path) (states s) h.0 h.1 h.2 ∙ ap (λ q. Some q) (sym (good_at s checked h.0 h.1 c h.2 h.3).here)

  -- no two components have one path
  one_component : (j k : ℕ) (c d : Component) → slice_get (components s) j ≡ Some c → slice_get (components s) k ≡ Some d → c.path ≡ d.path → j ≡ k
  one_component j k c d e f h =
      let a = stands (states s) j c e in
      let b = stands (states s) k d f in
      let same = one_place s checked a.0 b.0 d.path (own_path j c a ∙ ap (λ q. Some q) h) (own_path k d b) in
      sym a.4 ∙ ap (λ n. length (components_of (take n (states s)))) same ∙ b.4

  -- a component whose path is that of a state is that state's
  component_there : (j outer : ℕ) (c : Component) (p : Path) → slice_get (components s) j ≡ Some c → slice_get (paths (states s)) outer ≡ Some p → c.path ≡ p → component_at (states s) outer ≡ Some c
  component_there j outer c p e h k =
      let a = stands (states s) j c e in
      let same = one_place s checked a.0 outer p (own_path j c a ∙ ap (λ q. Some q) k) h in
      subst (λ n. component_at (states s) n ≡ Some c) same (ap (λ o. option_and_then (λ (y : State). y.component) o) a.2 ∙ a.3)

  not_here : (p : Path) (x : Step) (z : Component × ℕ) → (z.0.path ≡ p → ⊥) → leads_here p x z ≡ true
  not_here p x z differ = ap (λ b. if b then is_prefix (chosen z) (child_path p x) else true) (not_true (same_path z.0.path p) (λ h. differ (same_path_is z.0.path p h)))

  -- a state that is no component leads to all that is in it
  pub leads_none : (choices : List ℕ) (outer : ℕ) (p : Path) (x : Step) → slice_get (paths (states s)) outer ≡ Some p → component_at (states s) outer ≡ None → leads_to s choices p x ≡ true
  leads_none choices outer p x h n = all_pass (leads_here p x) (zip (components s) choices) (λ j z g.
      let q = get_of_zip (components s) choices j z g in
      not_here p x z (λ e. absurd (let no : ⊥ = (let k = sym n ∙ component_there j outer z.0 p q.0 h e in cc) in no)))

  -- the path of a component is that of its state
  pub path_here : (outer : ℕ) (c : Component) (p : Path) → slice_get (paths (states s)) outer ≡ Some p → component_at (states s) outer ≡ Some c → c.path ≡ p
  path_here outer c p h comp =
      let r = get_of_map (λ (y : State). y.path) (states s) outer p h in
      (good_at s checked outer r.0 c r.1 (sym (ap (λ o. option_and_then (λ (y : State). y.component) o) r.1) ∙ comp)).here ∙ r.2

  -- a component leads to its chosen child
  pub leads_some : (choices : List ℕ) (outer k n : ℕ) (c : Component) (p : Path) (x : Step) → slice_get (paths (states s)) outer ≡ Some p → component_at (states s) outer ≡ Some c
      → slice_get (components s) k ≡ Some c → slice_get choices k ≡ Some n → leads_to s choices p x ≡ same_path (chosen (c, n)) (child_path p x)
  leads_some choices outer k n c p x h comp e g =
      let own = path_here outer c p h comp in
      let here : leads_here p x (c, n) ≡ is_prefix (chosen (c, n)) (child_path p x) =
      ap (λ b. if b then is_prefix (chosen (c, n)) (child_path p x) else true) (subst (λ q. same_path q p ≡ true) (sym own) (same_path_self p)) in
      let long : length (child_path p x) ≡ length (chosen (c, n)) = (let a = length-append p (x ∷ []) in let b = length-append c.path (at (slice_index_or c.children n []) 0 ∷ []) in let d = ap length own in omega (arith, a, b, d)) in
      one_decides (leads_here p x) (zip (components s) choices) k (c, n) (get_zip (components s) choices k c n e g)
      (λ j z q differ. let w = get_of_zip (components s) choices j z q in not_here p x z (λ l. differ (one_component j k z.0 c w.0 e (l ∙ sym own))))
      ∙ here ∙ begins_same (chosen (c, n)) (child_path p x) long

  -- a component has a state
  pub some_state : (k : ℕ) (c : Component) → slice_get (components s) k ≡ Some c → (n : ℕ) × (slice_get (paths (states s)) n ≡ Some c.path)
  some_state k c e = let a = stands (states s) k c e in (a.0, own_path k c a)
