-- One more node behind the others.
use Rattle.std.proofs.Common.{◌≡◌, ℕ, zero, suc, ◌+◌, ◌<◌, ◌≤◌, List, [], ◌∷◌, ◌++◌, length, map, Option, Some, None, is_some, if◌then◌else◌, refl, sym, ap, ◌∙◌, subst, slice_get, arith, length-append}
use Rattle.std.specs.List.{cons_option}
use Rattle.std.proofs.lemmas.List.{map-append, length-map}
use Rattle.rsml_syntax.specs.declared.world.Step.{Step}
use Rattle.rsml_meaning.specs.Words.{Path, Each, child_path}
use Rattle.rsml_meaning.specs.Instances.{State, Component, component_of}
use Rattle.state_tree.specs.nodes.Numbers.{IsPlace, path_above, paths, components_of, IsNext, IsAt, Node, state_of, Stands, AreNodes, AreNumbered}

-- Places.

pub get_front : {A : Type 0} (xs ys : List A) (p : ℕ) (x : A) → slice_get xs p ≡ Some x → slice_get (xs ++ ys) p ≡ Some x
get_front [] ys p x h = cc
get_front (z ∷ xs) ys zero x h = h
get_front (z ∷ xs) ys (suc p) x h = get_front xs ys p x h

pub get_last : {A : Type 0} (xs : List A) (x : A) (ys : List A) → slice_get (xs ++ x ∷ ys) (length xs) ≡ Some x
get_last [] x ys = refl
get_last (z ∷ xs) x ys = get_last xs x ys

pub place_more : {A : Type 0} (xs ys : List A) (o : Option A) (p : Option ℕ) → IsPlace xs o p → IsPlace (xs ++ ys) o p
place_more xs ys None None h = tt
place_more xs ys (Some x) (Some p) h = get_front xs ys p x h
place_more xs ys None (Some p) h = h
place_more xs ys (Some x) None h = h

pub components_append : (xs ys : List State) → components_of (xs ++ ys) ≡ components_of xs ++ components_of ys
components_append [] ys = refl
components_append (x ∷ xs) ys = by_component x.component (components_append xs ys)
  where
    by_component : (o : Option Component) → components_of (xs ++ ys) ≡ components_of xs ++ components_of ys → cons_option o (components_of (xs ++ ys)) ≡ cons_option o (components_of xs) ++ components_of ys
    by_component None e = e
    by_component (Some c) e = ap (λ cs. c ∷ cs) e

-- the path around a path that is one step longer
pub above_child : (p : Path) (x : Step) → 1 ≤ length p → path_above (child_path p x) ≡ Some p
above_child [] x h = absurd (omega (arith, h))
above_child (y ∷ []) x h = refl
above_child (y ∷ z ∷ p) x h = rw (above_child (z ∷ p) x (omega arith)) refl

-- Nodes.

stands_more : (xs ys : List State) (n : Node) → Stands xs n → Stands (xs ++ ys) n
stands_more xs ys n h = record {
  parent = subst (λ ps. IsPlace ps (path_above n.path) n.parent) (sym (map-append (λ (x : State). x.path) xs ys)) (place_more (paths xs) (paths ys) (path_above n.path) n.parent h.parent);
  component = subst (λ cs. IsPlace cs (component_of n.body n.path) n.component) (sym (components_append xs ys)) (place_more (components_of xs) (components_of ys) (component_of n.body n.path) n.component h.component);
}

each_stands : (xs ys : List State) (ns : List Node) → Each (Stands xs) ns → Each (Stands (xs ++ ys)) ns
each_stands xs ys [] h = tt
each_stands xs ys (n ∷ ns) h = (stands_more xs ys n h.0, each_stands xs ys ns h.1)

each_push : {A : Type 0} (P : A → Type 0) (xs : List A) (x : A) → Each P xs → P x → Each P (xs ++ x ∷ [])
each_push P [] x h k = (k, tt)
each_push P (y ∷ xs) x h k = (h.0, each_push P xs x h.1 k)

next_component : (xs : List State) (x : State) (before : ℕ) (number : Option ℕ) → before ≡ length (components_of xs) → IsNext before x.component number
    → IsPlace (components_of (xs ++ x ∷ [])) x.component number
next_component xs x before number e h = subst (λ cs. IsPlace cs x.component number) (sym (components_append xs (x ∷ []))) (by_component x.component number h)
  where
    by_component : (o : Option Component) (number : Option ℕ) → IsNext before o number → IsPlace (components_of xs ++ cons_option o []) o number
    by_component None None h = tt
    by_component (Some c) (Some n) h = subst (λ k. slice_get (components_of xs ++ c ∷ []) k ≡ Some c) (sym (h ∙ e)) (get_last (components_of xs) c [])
    by_component None (Some n) h = h
    by_component (Some c) None h = h

put_node : (ns : List Node) (n : Node) (before : ℕ) → AreNumbered ns before → IsPlace (paths (map state_of ns)) (path_above n.path) n.parent → IsNext before (component_of n.body n.path) n.component
    → length ns < 4096 → AreNodes (ns ++ n ∷ [])
put_node ns n before all parent component room =
    let xs = map state_of ns in
    let e = map-append state_of ns (n ∷ []) in
    record {
      stand = subst (λ ys. Each (Stands ys) (ns ++ n ∷ [])) (sym e)
          (each_push (Stands (xs ++ state_of n ∷ [])) ns n (each_stands xs (state_of n ∷ []) ns all.nodes.stand)
          record {
            parent = subst (λ ps. IsPlace ps (path_above n.path) n.parent) (sym (map-append (λ (x : State). x.path) xs (state_of n ∷ []))) (place_more (paths xs) (n.path ∷ []) (path_above n.path) n.parent parent);
            component = next_component xs (state_of n) before n.component all.count component;
          });
      room = omega (arith, length-append ns (n ∷ []));
    }

-- no more components than nodes
few : (xs : List State) → length (components_of xs) ≤ length xs
few [] = omega arith
few (x ∷ xs) = by_component x.component (few xs)
  where
    by_component : (o : Option Component) → length (components_of xs) ≤ length xs → length (cons_option o (components_of xs)) ≤ suc (length xs)
    by_component None h = omega (arith, h)
    by_component (Some c) h = omega (arith, h)

pub room_for : (ns : List Node) (before : ℕ) → AreNumbered ns before → length ns < 4096 → before < 4096
room_for ns before h room = omega (arith, h.count, few (map state_of ns), length-map ns state_of, room)

-- one more component where there is one
count_node : (ns : List Node) (n : Node) (before : ℕ) → AreNumbered ns before → IsNext before (component_of n.body n.path) n.component
    → (if is_some n.component then before + 1 else before) ≡ length (components_of (map state_of (ns ++ n ∷ [])))
count_node ns n before all component =
    let xs = map state_of ns in
    same_number n.component (component_of n.body n.path) component
    ∙ ap (λ k. k + length (components_of (state_of n ∷ []))) all.count
    ∙ sym (length-append (components_of xs) (components_of (state_of n ∷ [])))
    ∙ ap length (sym (components_append xs (state_of n ∷ [])))
    ∙ ap (λ ys. length (components_of ys)) (sym (map-append state_of ns (n ∷ [])))
  where
    same_number : (a : Option ℕ) (b : Option Component) → IsNext before b a → (if is_some a then before + 1 else before) ≡ before + length (cons_option b [])
    same_number None None h = omega arith
    same_number (Some k) (Some c) h = refl
    same_number None (Some c) h = absurd h
    same_number (Some k) None h = absurd h

pub numbered : (ns : List Node) (n : Node) (before : ℕ) → AreNumbered ns before → IsPlace (paths (map state_of ns)) (path_above n.path) n.parent → IsNext before (component_of n.body n.path) n.component
    → length ns < 4096 → AreNumbered (ns ++ n ∷ []) (if is_some n.component then before + 1 else before)
numbered ns n before all parent component room = record { nodes = put_node ns n before all parent component room; count = count_node ns n before all component }

-- the node that was put last
pub put_at : (xs ys : List State) (x : State) (number : ℕ) → ys ≡ xs ++ x ∷ [] → number ≡ length xs → 1 ≤ length x.path → IsAt ys number x.path
put_at xs ys x number e f some = record {
  here = rw (e, f) (ap (λ (ps : List Path). slice_get ps (length xs)) (map-append (λ (y : State). y.path) xs (x ∷ []))
      ∙ ap (λ (k : ℕ). slice_get (paths xs ++ x.path ∷ []) k) (sym (length-map xs (λ (y : State). y.path))) ∙ get_last (paths xs) x.path []);
  some = some;
}

-- a node keeps its number
pub at_more : (xs ys zs : List State) (number : ℕ) (p : Path) → ys ≡ xs ++ zs → IsAt xs number p → IsAt ys number p
at_more xs ys zs number p e h = record {
  here = rw e (ap (λ (ps : List Path). slice_get ps number) (map-append (λ (y : State). y.path) xs zs) ∙ get_front (paths xs) (paths zs) number p h.here);
  some = h.some;
}

-- where one more step goes on from a node, that is the parent
pub parent_at : (xs : List State) (number : ℕ) (p q : Path) (x : Step) → q ≡ child_path p x → IsAt xs number p → IsPlace (paths xs) (path_above q) (Some number)
parent_at xs number p q x e h = subst (λ o. IsPlace (paths xs) o (Some number)) (sym (ap path_above e ∙ above_child p x h.some)) h.here
