-- What is stored of states and components, and what follows of paths.
use Rattle.std.proofs.Common.{◌≡◌, ℕ, zero, suc, ◌<◌, ◌≤◌, Bool, true, false, ◌&&◌, List, [], ◌∷◌, zip, length, Option, Some, None, ⊎_elim, refl, sym, ap, ◌∙◌, subst, slice_get, slice_index_or, get_or, unwrap_or, if◌then◌else◌, true≢false, arith, nat_le, nat_lt, eqb, eq-eqb, ltb-true, eq-or-lt_of_le, length-append}
use Rattle.std.specs.List.{cons_option}
use Rattle.std.specs.Option.{option_and_then}
use Rattle.std.specs.Cmp.{first_so, second_so}
use Rattle.std.specs.Cmp.Lexicographic.{pointwise}
use Rattle.std.proofs.lemmas.Bool.{cases_lt}
use Rattle.std.proofs.lemmas.Bool.Decides.{nat_tests}
use Rattle.std.proofs.lemmas.Option.{same_Some}
use Rattle.std.proofs.lemmas.List.{length-map}
use Rattle.rsml_syntax.specs.declared.syntax.Spec.{Spec}
use Rattle.rsml_syntax.specs.declared.world.World.{World}
use Rattle.rsml_syntax.specs.declared.world.Step.{Step}
use Rattle.rsml_syntax.specs.limits.Checked.{IsChecked}
use Rattle.rsml_meaning.specs.Words.{Path, at, child_path, is_prefix, is_proper_prefix, same_path}
use Rattle.rsml_meaning.specs.Instances.{State, Component, states, components}
use Rattle.rsml_meaning.specs.Active.{chosen, active, leads_on}
use Rattle.rsml_meaning.specs.Worlds.{is_choice}
use Rattle.state_tree.specs.nodes.Numbers.{paths, components_of, component_at, path_around, path_above, IsPlace}
use Rattle.state_tree.proofs.Sized.{all_fit}
use Rattle.state_tree.specs.Numbers.{path_of, leads_here, leads_to, AreChoices, HasChild}
use Rattle.state_tree.proofs.Kin.{get_index, index_there}
use Rattle.state_tree.specs.Tables.{AreEnds, Family, IsFamily, HasFamily, AreFamilies}
use Rattle.state_tree.proofs.ActiveStep.{active_step}
use Rattle.state_tree.proofs.Goods.{good_at}
use Rattle.state_tree.proofs.Lists.{beside, as_long, get_within, within_get, get_item, get_map, get_of_map, get_zip, get_of_zip, all_pass, one_decides, not_true, same_truth}
use Rattle.rsml_meaning.proofs.Prefixes.{same_path_is, same_path_self, whole_prefix, prefix_self}
use Rattle.state_tree.proofs.Above.{above_is, above_none}
use Rattle.state_tree.proofs.Spread.{one_place, some_steps}

-- no more components than states
few : (xs : List State) → length (components_of xs) ≤ length xs
few [] = omega arith
few (x ∷ xs) = by_component x.component (few xs)
  where
    by_component : (o : Option Component) → length (components_of xs) ≤ length xs → length (cons_option o (components_of xs)) ≤ suc (length xs)
    by_component None h = omega (arith, h)
    by_component (Some c) h = omega (arith, h)

pub few_components : (s : Spec) → IsChecked s → length (components s) ≤ 4096
few_components s h = let l = few (states s) in let r = (all_fit s h).room in omega (arith, l, r)

pub few_states : (s : Spec) → IsChecked s → length (states s) ≤ 4096
few_states s h = let r = (all_fit s h).room in omega (arith, r)

pub as_many : (s : Spec) (fs : List Family) → AreFamilies s fs → length (components s) ≡ length fs
as_many s fs h = as_long (IsFamily s) (components s) fs h.each

pub family_at : (s : Spec) (fs : List Family) (k : ℕ) (f : Family) → AreFamilies s fs → slice_get fs k ≡ Some f → HasFamily s k f
family_at s fs k f h e = beside (IsFamily s) (components s) fs k f h.each e

pub is_family : (s : Spec) (k : ℕ) (f : Family) (c : Component) → HasFamily s k f → slice_get (components s) k ≡ Some c → IsFamily s c f
is_family s k f c h e = subst (λ d. IsFamily s d f) (same_Some h.0 c (sym h.1 ∙ e)) h.2

-- the path of a state that is there
pub path_there : (s : Spec) (node : ℕ) → node < length (states s) → slice_get (paths (states s)) node ≡ Some (path_of s node)
path_there s node h =
    let r = within_get (paths (states s)) node (subst (λ n. node < n) (sym (length-map (states s) (λ (x : State). x.path))) h) in
    r.1 ∙ ap (λ q. Some q) (sym (ap (λ o. unwrap_or o []) r.1))

pub path_is : (s : Spec) (node : ℕ) (p : Path) → slice_get (paths (states s)) node ≡ Some p → path_of s node ≡ p
path_is s node p h = ap (λ o. unwrap_or o []) h

pub node_within : (s : Spec) (node : ℕ) (p : Path) → slice_get (paths (states s)) node ≡ Some p → node < length (states s)
node_within s node p h = let l = get_within (paths (states s)) node p h in subst (λ n. node < n) (length-map (states s) (λ (x : State). x.path)) l

-- a state is in another exactly where its number is in the other's span
pub span_is : (s : Spec) (es : List ℕ) (outer node e : ℕ) → AreEnds (paths (states s)) es → outer < length (states s) → node < length (states s) → slice_get es outer ≡ Some e
    → (nat_le outer node && nat_lt node e) ≡ is_prefix (path_of s outer) (path_of s node)
span_is s es outer node e h a b k = sym ((h.each outer e k).span (path_of s outer) (path_there s outer a) node (path_of s node) (path_there s node b))

pub within_so : (s : Spec) (es : List ℕ) (outer node e : ℕ) → AreEnds (paths (states s)) es → outer < length (states s) → node < length (states s) → slice_get es outer ≡ Some e → outer ≤ node
    → nat_lt node e ≡ is_prefix (path_of s outer) (path_of s node)
within_so s es outer node e h a b k l = by_test (nat_le outer node) (let t : nat_le outer node ≡ true = grind (arith, nat_tests) in t) ∙ span_is s es outer node e h a b k
  where
    by_test : (t : Bool) → t ≡ true → nat_lt node e ≡ (t && nat_lt node e)
    by_test true q = refl
    by_test false q = absurd (true≢false (sym q))

pub within_not : (s : Spec) (es : List ℕ) (outer node e : ℕ) → AreEnds (paths (states s)) es → outer < length (states s) → node < length (states s) → slice_get es outer ≡ Some e → node < outer
    → nat_le outer node ≡ is_prefix (path_of s outer) (path_of s node)
within_not s es outer node e h a b k l = by_test (nat_le outer node) (let t : nat_le outer node ≡ false = grind (arith, nat_tests) in t) ∙ span_is s es outer node e h a b k
  where
    by_test : (t : Bool) → t ≡ false → t ≡ (t && nat_lt node e)
    by_test true q = absurd (true≢false q)
    by_test false q = refl

-- the end of a state that is there
pub end_at : (s : Spec) (es : List ℕ) (outer e : ℕ) → AreEnds (paths (states s)) es → outer < length (states s) → e ≡ get_or es outer e → slice_get es outer ≡ Some e
end_at s es outer e h l k = get_item es outer e (let m = h.many in omega (arith, l, m, length-map (states s) (λ (x : State). x.path))) k

pub end_there : (s : Spec) (es : List ℕ) (outer : ℕ) → AreEnds (paths (states s)) es → outer < length (states s) → (e : ℕ) × (slice_get es outer ≡ Some e)
end_there s es outer h l = within_get es outer (let m = h.many in omega (arith, l, m, length-map (states s) (λ (x : State). x.path)))

-- the choice at a component that is there
pub choice_there : (cs : List Component) (ns : List ℕ) (k : ℕ) (c : Component) → pointwise is_choice cs ns ≡ true → slice_get cs k ≡ Some c → (n : ℕ) × (slice_get ns k ≡ Some n) × (n < length c.children)
choice_there [] ns k c h e = absurd (let no : ⊥ = cc in no)
choice_there (d ∷ cs) [] k c h e = absurd (true≢false (sym h))
choice_there (d ∷ cs) (n ∷ ns) zero c h e =
    let l = ltb-true n (length d.children) (first_so (is_choice d n) (pointwise is_choice cs ns) h) in
    (n, refl, subst (λ (x : Component). n < length x.children) (same_Some d c e) l)
choice_there (d ∷ cs) (n ∷ ns) (suc k) c h e = choice_there cs ns k c (second_so (is_choice d n) (pointwise is_choice cs ns) h) e

-- the component that a place is told of
pub told : (cs : List Component) (o : Option Component) (k : ℕ) → IsPlace cs o (Some k) → (c : Component) × (o ≡ Some c) × (slice_get cs k ≡ Some c)
told cs (Some c) k h = (c, refl, h)
told cs None k h = absurd h

pub told_none : {A : Type 0} (xs : List A) (o : Option A) → IsPlace xs o None → o ≡ None
told_none xs None h = refl
told_none xs (Some x) h = absurd h

pub told_path : (ps : List Path) (o : Option Path) (k : ℕ) → IsPlace ps o (Some k) → (p : Path) × (o ≡ Some p) × (slice_get ps k ≡ Some p)
told_path ps (Some p) k h = (p, refl, h)
told_path ps None k h = absurd h

-- a component whose path is that of a state is that state's
module _ (s : Spec) (fs : List Family) (checked : IsChecked s) (all : AreFamilies s fs) where
  pub families_there : (j : ℕ) (c : Component) → slice_get (components s) j ≡ Some c → (f : Family) × (slice_get fs j ≡ Some f) × IsFamily s c f
  families_there j c e =
      let r = within_get fs j (subst (λ n. j < n) (as_many s fs all) (get_within (components s) j c e)) in
      (r.0, r.1, is_family s j r.0 c (family_at s fs j r.0 all r.1) e)

  pub component_there : (j parent : ℕ) (c : Component) (p : Path) → slice_get (components s) j ≡ Some c → slice_get (paths (states s)) parent ≡ Some p → c.path ≡ p → component_at (states s) parent ≡ Some c
  component_there j parent c p e h k =
      let f = families_there j c e in
      let same = one_place s checked f.0.node parent p (f.2.path ∙ ap (λ q. Some q) k) h in
      subst (λ n. component_at (states s) n ≡ Some c) same f.2.here

  pub one_component : (j k : ℕ) (c d : Component) → slice_get (components s) j ≡ Some c → slice_get (components s) k ≡ Some d → c.path ≡ d.path → j ≡ k
  one_component j k c d e f h =
      let a = families_there j c e in
      let b = families_there k d f in
      let same = one_place s checked a.0.node b.0.node d.path (a.2.path ∙ ap (λ q. Some q) h) b.2.path in
      ⊎_elim
      (λ l. absurd (let m = all.rising j k a.0 b.0 l a.1 b.1 in omega (arith, m, same)))
      (λ l. ⊎_elim (λ q. sym q) (λ m. absurd (let z = all.rising k j b.0 a.0 m b.1 a.1 in omega (arith, z, same))) (eq-or-lt_of_le l))
      (cases_lt j k)

  not_here : (p : Path) (x : Step) (z : Component × ℕ) → (z.0.path ≡ p → ⊥) → leads_here p x z ≡ true
  not_here p x z differ = ap (λ b. if b then is_prefix (chosen z) (child_path p x) else true) (not_true (same_path z.0.path p) (λ h. differ (same_path_is z.0.path p h)))

  -- a state that is no component leads to all that is in it
  pub leads_none : (choices : List ℕ) (parent : ℕ) (p : Path) (x : Step) → slice_get (paths (states s)) parent ≡ Some p → component_at (states s) parent ≡ None → true ≡ leads_to s choices p x
  leads_none choices parent p x h n = sym (all_pass (leads_here p x) (zip (components s) choices) (λ j z g.
      let q = get_of_zip (components s) choices j z g in
      not_here p x z (λ e. absurd (let no : ⊥ = (let k = sym n ∙ component_there j parent z.0 p q.0 h e in cc) in no))))

  -- a component leads to its chosen child
  pub leads_some : (choices : List ℕ) (parent node child k n : ℕ) (c : Component) (p : Path) (x : Step) → slice_get (paths (states s)) parent ≡ Some p → slice_get (paths (states s)) node ≡ Some (child_path p x)
      → component_at (states s) parent ≡ Some c → slice_get (components s) k ≡ Some c → slice_get choices k ≡ Some n → slice_get (paths (states s)) child ≡ Some (chosen (c, n)) → eqb child node ≡ leads_to s choices p x
  leads_some choices parent node child k n c p x h there comp e g ch =
      let r = get_of_map (λ (y : State). y.path) (states s) parent p h in
      let own : c.path ≡ p = (good_at s checked parent r.0 c r.1 (sym (ap (λ o. option_and_then (λ (y : State). y.component) o) r.1) ∙ comp)).here ∙ r.2 in
      let here : leads_here p x (c, n) ≡ is_prefix (chosen (c, n)) (child_path p x) =
      ap (λ b. if b then is_prefix (chosen (c, n)) (child_path p x) else true) (subst (λ q. same_path q p ≡ true) (sym own) (same_path_self p)) in
      let decides = one_decides (leads_here p x) (zip (components s) choices) k (c, n) (get_zip (components s) choices k c n e g) (λ j z q differ.
      let w = get_of_zip (components s) choices j z q in not_here p x z (λ l. differ (one_component j k z.0 c w.0 e (l ∙ sym own)))) in
      same_truth (eqb child node) (is_prefix (chosen (c, n)) (child_path p x))
      (λ t. let same : child ≡ node = grind (arith, nat_tests) in
      let paths_same = same_Some (chosen (c, n)) (child_path p x) (sym ch ∙ ap (λ i. slice_get (paths (states s)) i) same ∙ there) in
      subst (λ q. is_prefix (chosen (c, n)) q ≡ true) paths_same (prefix_self (chosen (c, n))))
      (λ t. let long : length (child_path p x) ≤ length (chosen (c, n)) = (let a = length-append p (x ∷ []) in let b = length-append c.path (at (slice_index_or c.children n []) 0 ∷ []) in let d = ap length own in omega (arith, a, b, d)) in
      let paths_same = whole_prefix (chosen (c, n)) (child_path p x) t long in
      eq-eqb child node (one_place s checked child node (child_path p x) (ch ∙ ap (λ q. Some q) paths_same) there))
      ∙ sym here ∙ sym decides

  pub choice_within : (choices : List ℕ) (parent k : ℕ) → IsPlace (components s) (component_at (states s) parent) (Some k) → AreChoices s choices → k < length choices
  choice_within choices parent k h ch =
      let t = told (components s) (component_at (states s) parent) k h in
      let n = choice_there (components s) choices k t.0 ch t.2 in
      get_within choices k n.0 n.1

  pub has_child : (choices : List ℕ) (parent k : ℕ) → IsPlace (components s) (component_at (states s) parent) (Some k) → AreChoices s choices → HasChild s k (slice_index_or choices k 0)
  has_child choices parent k h ch =
      let t = told (components s) (component_at (states s) parent) k h in
      let n = choice_there (components s) choices k t.0 ch t.2 in
      (t.0, t.2, subst (λ i. i < length t.0.children) (sym (get_index choices k n.0 0 n.1)) n.2)

  pub leads_child : (choices : List ℕ) (parent node child k : ℕ) → IsPlace (components s) (component_at (states s) parent) (Some k) → AreChoices s choices
      → ((c : Component) → slice_get (components s) k ≡ Some c → slice_get (paths (states s)) child ≡ Some (chosen (c, slice_index_or choices k 0)))
      → (p : Path) (x : Step) → slice_get (paths (states s)) parent ≡ Some p → slice_get (paths (states s)) node ≡ Some (child_path p x) → eqb child node ≡ leads_to s choices p x
  leads_child choices parent node child k h ch is p x here there =
      let t = told (components s) (component_at (states s) parent) k h in
      let l = choice_within choices parent k h ch in
      leads_some choices parent node child k (slice_index_or choices k 0) t.0 p x here there t.1 t.2 (index_there choices k l) (is t.0 t.2)

-- The walk up.

pub step_up : (s : Spec) (node parent : ℕ) → node < length (states s) → IsPlace (paths (states s)) (path_around (states s) node) (Some parent) → (x : Step) × (path_of s node ≡ child_path (path_of s parent) x) × (parent < length (states s))
step_up s node parent l h =
    let t = told_path (paths (states s)) (path_around (states s) node) parent h in
    let r = within_get (states s) node l in
    let above : path_above r.0.path ≡ Some t.0 = sym (ap (λ o. option_and_then (λ (y : State). path_above y.path) o) r.1) ∙ t.1 in
    let a = above_is r.0.path t.0 above in
    (a.0, path_is s node r.0.path (get_map (λ (y : State). y.path) (states s) node r.0 r.1) ∙ a.1 ∙ ap (λ q. child_path q a.0) (sym (path_is s parent t.0 t.2)), node_within s parent t.0 t.2)

-- the top state is active
pub top_active : (s : Spec) (fs : List Family) (node : ℕ) (w : World) → IsChecked s → AreFamilies s fs → node < length (states s) → path_around (states s) node ≡ None → true ≡ active s w (path_of s node)
top_active s fs node w checked all l h =
    let r = within_get (states s) node l in
    let p = path_is s node r.0.path (get_map (λ (y : State). y.path) (states s) node r.0 r.1) in
    let short = above_none r.0.path (sym (ap (λ o. option_and_then (λ (y : State). path_above y.path) o) r.1) ∙ h) in
    sym (all_pass (leads_on (path_of s node)) (zip (components s) w.choices) (λ j z g.
    let q = get_of_zip (components s) w.choices j z g in
    let f = families_there s fs checked all j z.0 q.0 in
    let some = some_steps s checked f.0.node z.0.path f.2.path in
    ap (λ b. if b then is_prefix (chosen z) (path_of s node) else true) (not_true (is_proper_prefix z.0.path (path_of s node)) (λ k.
    let m = ltb-true (length z.0.path) (length (path_of s node)) (second_so (is_prefix z.0.path (path_of s node)) (nat_lt (length z.0.path) (length (path_of s node))) k) in
    let d = ap length p in omega (arith, m, some, short, d)))))

-- one step of the walk: what is active further in
pub walked : (s : Spec) (w : World) (choices : List ℕ) (node parent : ℕ) (answer : Bool) → w.choices ≡ choices → (r : (x : Step) × (path_of s node ≡ child_path (path_of s parent) x) × (parent < length (states s)))
    → node < length (states s) → ((p : Path) (x : Step) → slice_get (paths (states s)) parent ≡ Some p → slice_get (paths (states s)) node ≡ Some (child_path p x) → answer ≡ leads_to s choices p x)
    → active s w (path_of s node) ≡ (active s w (path_of s parent) && answer)
walked s w choices node parent answer e r l leads =
    let h = path_there s parent r.2 in
    let k = path_there s node l ∙ ap (λ q. Some q) r.1 in
    ap (active s w) r.1 ∙ active_step s w (path_of s parent) r.0
    ∙ ap (λ ns. active s w (path_of s parent) && leads_to s ns (path_of s parent) r.0) e
    ∙ ap (λ b. active s w (path_of s parent) && b) (sym (leads (path_of s parent) r.0 h k))

pub and_true : (b : Bool) → (b && true) ≡ b
and_true true = refl
and_true false = refl

pub and_false : (b : Bool) → (b && false) ≡ false
and_false true = refl
and_false false = refl
