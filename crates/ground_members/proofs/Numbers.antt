-- The numbers of events, of children and of targets.
use Rattle.std.proofs.Common.{◌≡◌, ℕ, suc, ◌+◌, ◌<◌, ◌≤◌, Bool, true, false, cond, List, [], ◌∷◌, ◌++◌, map, length, take, drop, get_or, Option, Some, slice_get, refl, sym, ap, ◌∙◌, subst, append_assoc, append-nil, arith}
use Rattle.std.specs.List.{position_from}
use Rattle.std.proofs.lemmas.List.{take_more, take_all, take-append-drop}
use Rattle.rsml_syntax.specs.declared.syntax.Spec.{Spec}
use Rattle.rsml_syntax.specs.text.Names.{Name}
use Rattle.rsml_syntax.specs.limits.Checked.{IsChecked}
use Rattle.rsml_meaning.specs.Words.{Instance, Path, at, child_path, same_instance, place_in}
use Rattle.rsml_meaning.specs.Instances.{states}
use Rattle.rsml_meaning.specs.Transitions.{target_path}
use Rattle.rsml_meaning.proofs.Same.{instance_same}
use Rattle.state_arrays.specs.Places.{path_at, path_place}
use Rattle.state_arrays.specs.Trees.{HasPath, IsTree}
use Rattle.state_arrays.proofs.PathLemmas.{at_place, found_at, begins, never_empty}
use Rattle.state_arrays.proofs.TreeLemmas.{tree_by}
use Rattle.ground_members.specs.Scoped.{HasChild, LeadsOn}
use Rattle.ground_members.proofs.Lists.{map_append}

-- what is at the place of an instance is the instance
pub place_is : (xs : List Instance) (x : Instance) (n : ℕ) → place_in xs x ≡ Some n → slice_get xs n ≡ Some x
place_is xs x n h = let r = from xs 0 n h in let l = r.1 in let e : r.0 ≡ n = omega (arith, l) in subst (λ m. slice_get xs m ≡ Some x) e r.2
  where
    from : (xs : List Instance) (k n : ℕ) → position_from (same_instance x) k xs ≡ Some n → (m : ℕ) × (n ≡ k + m) × (slice_get xs m ≡ Some x)
    from [] k n h = cc
    from (y ∷ xs) k n h = by (same_instance x y) refl h (from xs (k + 1) n)
      where
        by : (b : Bool) → same_instance x y ≡ b → cond b (Some k) (position_from (same_instance x) (k + 1) xs) ≡ Some n
            → (position_from (same_instance x) (k + 1) xs ≡ Some n → (m : ℕ) × (n ≡ k + 1 + m) × (slice_get xs m ≡ Some x)) → (m : ℕ) × (n ≡ k + m) × (slice_get (y ∷ xs) m ≡ Some x)
        by true e f next = (0, let g : k ≡ n = cc in omega (arith, g), ap (λ (z : Instance). Some z) (sym (instance_same x y e)))
        by false e f next = let r = next f in let l = r.1 in (suc r.0, omega (arith, l), r.2)

-- Targets.

target_more : (path : Path) (xs ys : List Name) → target_path path (xs ++ ys) ≡ target_path path xs ++ map (λ (n : Name). at n 0) ys
target_more path xs ys = ap (λ zs. path ++ zs) (map_append (λ (n : Name). at n 0) xs ys) ∙ sym (append_assoc path (map (λ (n : Name). at n 0) xs) (map (λ (n : Name). at n 0) ys))

pub next_step : (path : Path) (names : List Name) (i : ℕ) (x : Name) → i < length names → x ≡ get_or names i x → child_path (target_path path (take i names)) (at x 0) ≡ target_path path (take (i + 1) names)
next_step path names i x l e = sym (ap (target_path path) (take_more names i x l ∙ ap (λ z. take i names ++ (z ∷ [])) (sym e)) ∙ target_more path (take i names) (x ∷ []))

-- the state after the first names has the next one as its child
pub next_child : (s : Spec) (from node i : ℕ) (names : List Name) (x : Name) → LeadsOn s from names → ((path : Path) → path_at (states s) from ≡ Some path → path_at (states s) node ≡ Some (target_path path (take i names)))
    → i < length names → x ≡ get_or names i x → HasChild s node x
next_child s from node i names x leads here l e = (target_path leads.0 (take i names), here leads.0 leads.1, subst (HasPath (states s)) (sym (next_step leads.0 names i x l e)) (leads.2 i l))

pub next_state : (s : Spec) (from node next i : ℕ) (names : List Name) (x : Name) → ((path : Path) → path_at (states s) from ≡ Some path → path_at (states s) node ≡ Some (target_path path (take i names)))
    → i < length names → x ≡ get_or names i x → ((path : Path) → path_at (states s) node ≡ Some path → path_at (states s) next ≡ Some (child_path path (at x 0)))
    → (path : Path) → path_at (states s) from ≡ Some path → path_at (states s) next ≡ Some (target_path path (take (i + 1) names))
next_state s from node next i names x here l e goes path h = goes (target_path path (take i names)) (here path h) ∙ ap (λ (p : Path). Some p) (next_step path names i x l e)

pub last_state : (s : Spec) (from node i : ℕ) (names : List Name) → ((path : Path) → path_at (states s) from ≡ Some path → path_at (states s) node ≡ Some (target_path path (take i names))) → length names ≤ i
    → (path : Path) → path_at (states s) from ≡ Some path → path_at (states s) node ≡ Some (target_path path names)
last_state s from node i names here l path h = here path h ∙ ap (λ (ns : List Name). Some (target_path path ns)) (take_all i names l)

pub first_state : (s : Spec) (from : ℕ) (names : List Name) (path : Path) → path_at (states s) from ≡ Some path → path_at (states s) from ≡ Some (target_path path (take 0 names))
first_state s from names path h = h ∙ ap (λ (p : Path). Some p) (sym (append-nil path))

-- to a state the names lead by states
pub leads_by_states : (s : Spec) → IsChecked s → (from : ℕ) (names : List Name) (path : Path) → path_at (states s) from ≡ Some path → HasPath (states s) (target_path path names) → LeadsOn s from names
leads_by_states s checked from names path h has = (path, h, each)
  where
    tree : IsTree (states s)
    tree = tree_by (states s) s checked refl

    front_nil : (a b : Path) → a ++ b ≡ [] → a ≡ []
    front_nil [] b f = refl
    front_nil (y ∷ a) b f = cc

    each : (n : ℕ) → n < length names → HasPath (states s) (target_path path (take (n + 1) names))
    each n l =
        let rest = map (λ (n : Name). at n 0) (drop (n + 1) names) in
        let whole : target_path path names ≡ target_path path (take (n + 1) names) ++ rest = ap (target_path path) (sym (take-append-drop (n + 1) names)) ∙ target_more path (take (n + 1) names) (drop (n + 1) names) in
        begins (states s) tree (length rest) (target_path path (take (n + 1) names)) rest refl
        (λ none. never_empty (states s) tree (from, h ∙ ap (λ (p : Path). Some p) (front_nil path (map (λ (n : Name). at n 0) (take (n + 1) names)) none)))
        (subst (HasPath (states s)) whole has)

-- the child that there is
pub child_found : (s : Spec) (node : ℕ) (name : Name) (o : Option ℕ) → HasChild s node name → ((path : Path) → path_at (states s) node ≡ Some path → o ≡ path_place (states s) (child_path path (at name 0))) → (n : ℕ) × (o ≡ Some n)
child_found s node name o has h = let r = found_at (states s) (child_path has.0 (at name 0)) has.2 in (r.0, h has.0 has.1 ∙ r.1)

pub child_is : (s : Spec) (node : ℕ) (name : Name) (o : Option ℕ) (n : ℕ) → ((path : Path) → path_at (states s) node ≡ Some path → o ≡ path_place (states s) (child_path path (at name 0))) → o ≡ Some n
    → (path : Path) → path_at (states s) node ≡ Some path → path_at (states s) n ≡ Some (child_path path (at name 0))
child_is s node name o n h e path at_node = at_place (states s) n (child_path path (at name 0)) (sym (h path at_node) ∙ e)

-- what a look-up says, of the specification and the name that are meant
pub child_so : (t s : Spec) (node : ℕ) (other name : Name) (o : Option ℕ) → t ≡ s → other ≡ name → ((path : Path) → path_at (states t) node ≡ Some path → o ≡ path_place (states t) (child_path path (at other 0)))
    → (path : Path) → path_at (states s) node ≡ Some path → o ≡ path_place (states s) (child_path path (at name 0))
child_so t s node other name o e f h =
    subst (λ z. (path : Path) → path_at (states z) node ≡ Some path → o ≡ path_place (states z) (child_path path (at name 0))) e
    (subst (λ (n : Name). (path : Path) → path_at (states t) node ≡ Some path → o ≡ path_place (states t) (child_path path (at n 0))) f h)
