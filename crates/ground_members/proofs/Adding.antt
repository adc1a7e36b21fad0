-- Transitions that are added to those that are written.
use Rattle.std.proofs.Common.{◌≡◌, ℕ, zero, suc, ◌+◌, ◌<◌, ◌≤◌, List, [], ◌∷◌, ◌++◌, map, flat_map, length, take, get_or, Option, Some, None, slice_get, refl, sym, ap, ◌∙◌, subst, append_assoc, append-nil, arith, not-suc-le-zero, le_of_suc-le-suc}
use Rattle.std.specs.List.{cons_option}
use Rattle.std.specs.Option.{option_map, option_map_or, option_and_then}
use Rattle.std.proofs.lemmas.Grind.{common_steps}
use Rattle.std.proofs.lemmas.List.{take_more, take_all}
use Rattle.rsml_syntax.specs.declared.syntax.Spec.{Spec}
use Rattle.rsml_syntax.specs.declared.syntax.Body.{Body, Basic, One', All'}
use Rattle.rsml_syntax.specs.declared.syntax.Bus.{Bus}
use Rattle.rsml_syntax.specs.declared.syntax.Transition.{Transition}
use Rattle.rsml_syntax.specs.grammar.Parts as part
use Rattle.rsml_syntax.specs.rules.Globals.{Globals}
use Rattle.rsml_meaning.specs.Words.{Path, numbered_from, numbered}
use Rattle.rsml_meaning.specs.Instances.{State, Component, new_component, component_of, row_names, states, components}
use Rattle.rsml_meaning.specs.Transitions.{TransitionInstance, innermost, transitions_of}
use Rattle.rsml_meaning.proofs.Lists.{each_append}
use Rattle.state_tree.specs.nodes.Numbers.{IsPlace, components_of, component_at}
use Rattle.state_tree.proofs.Bodies.{body_component}
use Rattle.state_arrays.specs.Places.{path_at}
use Rattle.ground_members.specs.declared.written.Owner.{Owner}
use Rattle.ground_members.specs.declared.written.Written.{Written}
use Rattle.ground_members.specs.Written.{made_at, made_by, all_made_by, IsPlaced, ArePlaced, Adds, of_state}

pub flat_append : {A B : Type 0} (f : A → List B) (xs ys : List A) → flat_map f (xs ++ ys) ≡ flat_map f xs ++ flat_map f ys
flat_append f [] ys = refl
flat_append f (x ∷ xs) ys = ap (λ zs. f x ++ zs) (flat_append f xs ys) ∙ sym (append_assoc (f x) (flat_map f xs) (flat_map f ys))

-- nothing is added
pub none_added : (owner : Owner) (make : Globals → List TransitionInstance) (old : List Written) → ((g : Globals) → make g ≡ []) → Adds owner make old old
none_added owner make old e = record {
  made = λ g. sym (ap (λ zs. all_made_by g old ++ zs) (e g) ∙ append-nil (all_made_by g old));
  placed = λ xs p h. h;
}

-- what is made otherwise may be the same
pub added_as : (owner : Owner) (make other : Globals → List TransitionInstance) (old new : List Written) → Adds owner make old new → ((g : Globals) → make g ≡ other g) → Adds owner other old new
added_as owner make other old new a e = record { made = λ g. a.made g ∙ ap (λ zs. all_made_by g old ++ zs) (e g); placed = a.placed }

-- one is added
pub one_added : (owner : Owner) (old new : List Written) (w : Written) → w.owner ≡ owner → new ≡ old ++ (w ∷ []) → Adds owner (λ g. made_by g w) old new
one_added owner old new w o e = subst (Adds owner (λ g. made_by g w) old) (sym e) (record {
  made = λ g. flat_append (made_by g) old (w ∷ []) ∙ ap (λ zs. all_made_by g old ++ zs) (append-nil (made_by g w));
  placed = λ xs p h. each_append (λ (w : Written). IsPlaced xs w.owner) old (w ∷ []) h (subst (IsPlaced xs) (sym o) p, tt);
})

-- some are added, and then more
pub both_added : (owner : Owner) (make more : Globals → List TransitionInstance) (old mid new : List Written) → Adds owner make old mid → Adds owner more mid new → Adds owner (λ g. make g ++ more g) old new
both_added owner make more old mid new a b = record {
  made = λ g. b.made g ∙ ap (λ zs. zs ++ more g) (a.made g) ∙ append_assoc (all_made_by g old) (make g) (more g);
  placed = λ xs p h. b.placed xs p (a.placed xs p h);
}

-- Numbered transitions.

pub numbered_append : {A : Type 0} (n : ℕ) (xs : List A) (x : A) → numbered_from n (xs ++ (x ∷ [])) ≡ numbered_from n xs ++ ((n + length xs, x) ∷ [])
numbered_append n [] x = let e : n ≡ n + 0 = omega arith in ap (λ k. (k, x) ∷ []) e
numbered_append n (y ∷ xs) x =
    let e : suc n + length xs ≡ n + suc (length xs) = omega arith in
    ap (λ zs. (n, y) ∷ zs) (numbered_append (suc n) xs x ∙ ap (λ k. numbered_from (suc n) xs ++ ((k, x) ∷ [])) e)

pub length_take : {A : Type 0} (i : ℕ) (xs : List A) → i < length xs → length (take i xs) ≡ i
length_take i xs l = grind (arith, common_steps)

-- the next of numbered items
pub numbered_next : {A B : Type 0} (f : ℕ × A → List B) (xs : List A) (i : ℕ) (x : A) → i < length xs → x ≡ get_or xs i x → flat_map f (numbered (take i xs)) ++ f (i + 1, x) ≡ flat_map f (numbered (take (i + 1) xs))
numbered_next f xs i x l is =
    let count : 1 + length (take i xs) ≡ i + 1 = let c = length_take i xs l in omega (arith, c) in
    sym (
    ap (λ zs. flat_map f (numbered zs)) (take_more xs i x l ∙ ap (λ z. take i xs ++ (z ∷ [])) (sym is))
    ∙ ap (flat_map f) (numbered_append 1 (take i xs) x)
    ∙ flat_append f (numbered (take i xs)) ((1 + length (take i xs), x) ∷ [])
    ∙ ap (λ zs. flat_map f (numbered (take i xs)) ++ zs) (append-nil (f (1 + length (take i xs), x)))
    ∙ ap (λ k. flat_map f (numbered (take i xs)) ++ f (k, x)) count)

-- one turn of the loop over the transitions of a component
pub transition_turn : (owner : Owner) (f : Globals → ℕ × Transition → List TransitionInstance) (ts : List Transition) (i n : ℕ) (t : Transition) (old mid new : List Written)
    → Adds owner (λ g. flat_map (f g) (numbered (take i ts))) old mid → i < length ts → t ≡ get_or ts i t → n ≡ i + 1 → Adds owner (λ g. f g (n, t)) mid new → Adds owner (λ g. flat_map (f g) (numbered (take (i + 1) ts))) old new
transition_turn owner f ts i n t old mid new a l is e b =
    added_as owner (λ g. flat_map (f g) (numbered (take i ts)) ++ f g (n, t)) (λ g. flat_map (f g) (numbered (take (i + 1) ts))) old new
    (both_added owner (λ g. flat_map (f g) (numbered (take i ts))) (λ g. f g (n, t)) old mid new a b)
    (λ g. ap (λ k. flat_map (f g) (numbered (take i ts)) ++ f g (k, t)) e ∙ numbered_next (f g) ts i t l is)

pub all_transitions : (owner : Owner) (f : Globals → ℕ × Transition → List TransitionInstance) (ts : List Transition) (i : ℕ) (old new : List Written)
    → Adds owner (λ g. flat_map (f g) (numbered (take i ts))) old new → length ts ≤ i → Adds owner (λ g. flat_map (f g) (numbered ts)) old new
all_transitions owner f ts i old new a l =
    added_as owner (λ g. flat_map (f g) (numbered (take i ts))) (λ g. flat_map (f g) (numbered ts)) old new a (λ g. ap (λ zs. flat_map (f g) (numbered zs)) (take_all i ts l))

-- States.

-- a state that is no component has no transitions
pub none_made : (s : Spec) (node : ℕ) (g : Globals) (old : List Written) → IsPlace (components_of (states s)) (component_at (states s) node) None → all_made_by g old ≡ all_made_by g old ++ of_state g s node
none_made s node g old h = by (component_at (states s) node) h
  where
    by : (o : Option Component) → IsPlace (components_of (states s)) o None → all_made_by g old ≡ all_made_by g old ++ option_map_or (transitions_of g) o []
    by None k = sym (append-nil (all_made_by g old))
    by (Some c) k = absurd k

-- What is known of a state that is a component of this number.
pub record IsComponentAt (s : Spec) (node : ℕ) (number : ℕ) : Type 0 where
  pub component : Component
  pub state : State
  pub here : slice_get (states s) node ≡ Some state
  pub own : state.component ≡ Some component
  pub there : slice_get (components_of (states s)) number ≡ Some component

pub component_here : (s : Spec) (node number : ℕ) → IsPlace (components_of (states s)) (component_at (states s) node) (Some number) → IsComponentAt s node number
component_here s node number h = by_state (slice_get (states s) node) refl h
  where
    by_component : (x : State) → slice_get (states s) node ≡ Some x → (o : Option Component) → x.component ≡ o → IsPlace (components_of (states s)) o (Some number) → IsComponentAt s node number
    by_component x e None f k = absurd k
    by_component x e (Some c) f k = record { component = c; state = x; here = e; own = f; there = k }

    by_state : (o : Option State) → slice_get (states s) node ≡ o → IsPlace (components_of (states s)) (option_and_then (λ (x : State). x.component) o) (Some number) → IsComponentAt s node number
    by_state None e k = absurd k
    by_state (Some x) e k = by_component x e x.component refl k

-- the transitions of the component that a body makes
body_made : (g : Globals) (body : Body) (path : Path) (c : Component) → component_of body path ≡ Some c → transitions_of g c ≡ flat_map (made_at g path (part.buses_of body)) (numbered (part.transitions_of body))
body_made g Basic path c h = cc
body_made g (One' first shape row bs ts) path c h = let e : new_component path first (row_names row) bs ts ≡ c = cc in ap (transitions_of g) (sym e)
body_made g (All' shape row) path c h = cc

body_path : (body : Body) (path : Path) (c : Component) → component_of body path ≡ Some c → c.path ≡ path
body_path Basic path c h = cc
body_path (One' first shape row bs ts) path c h = let e : new_component path first (row_names row) bs ts ≡ c = cc in ap (λ (z : Component). z.path) (sym e)
body_path (All' shape row) path c h = cc

get_map : {A B : Type 0} (f : A → B) (xs : List A) (k : ℕ) (x : A) → slice_get xs k ≡ Some x → slice_get (map f xs) k ≡ Some (f x)
get_map f [] k x h = cc
get_map f (y ∷ xs) zero x h = ap (option_map f) h
get_map f (y ∷ xs) (suc k) x h = get_map f xs k x h

-- the transitions of a state are added
pub state_made : (s : Spec) (node : ℕ) (body : Body) (path : Path) (owner : Owner) (old new : List Written)
    → IsPlace (components_of (states s)) (component_at (states s) node) (Some owner.component) → Some path ≡ option_map (λ (x : State). x.path) (slice_get (states s) node) → Some body ≡ option_map (λ (x : State). x.body) (slice_get (states s) node)
    → Adds owner (λ g. flat_map (made_at g path (part.buses_of body)) (numbered (part.transitions_of body))) old new → (g : Globals) → all_made_by g new ≡ all_made_by g old ++ of_state g s node
state_made s node body path owner old new h p b a g =
    let c = component_here s node owner.component h in
    let x = c.state in
    let same_path : path ≡ x.path = let e = p ∙ ap (option_map (λ (x : State). x.path)) c.here in cc in
    let same_body : body ≡ x.body = let e = b ∙ ap (option_map (λ (x : State). x.body)) c.here in cc in
    let made : component_of body path ≡ Some c.component = ap (λ z. component_of z path) same_body ∙ ap (component_of x.body) same_path ∙ sym (body_component s node x c.here) ∙ c.own in
    let at_node : component_at (states s) node ≡ Some c.component = ap (option_and_then (λ (x : State). x.component)) c.here ∙ c.own in
    a.made g
    ∙ ap (λ zs. all_made_by g old ++ zs) (sym (body_made g body path c.component made))
    ∙ ap (λ (o : Option Component). all_made_by g old ++ option_map_or (transitions_of g) o []) (sym at_node)

-- and each of them is placed
pub state_placed : (s : Spec) (node : ℕ) (body : Body) (path : Path) (owner : Owner) (make : Globals → List TransitionInstance) (old new : List Written)
    → IsPlace (components_of (states s)) (component_at (states s) node) (Some owner.component) → Some path ≡ option_map (λ (x : State). x.path) (slice_get (states s) node) → Some body ≡ option_map (λ (x : State). x.body) (slice_get (states s) node)
    → owner.node ≡ node → owner.path.now ≡ path → owner.this ≡ innermost path → Adds owner make old new → ArePlaced (states s) old → ArePlaced (states s) new
state_placed s node body path owner make old new h p b n q i a =
    let c = component_here s node owner.component h in
    let x = c.state in
    let same_path : path ≡ x.path = let e = p ∙ ap (option_map (λ (x : State). x.path)) c.here in cc in
    let same_body : body ≡ x.body = let e = b ∙ ap (option_map (λ (x : State). x.body)) c.here in cc in
    let made : component_of body path ≡ Some c.component = ap (λ z. component_of z path) same_body ∙ ap (component_of x.body) same_path ∙ sym (body_component s node x c.here) ∙ c.own in
    a.placed (states s) (record {
      component = get_map (λ (c : Component). c.path) (components_of (states s)) owner.component c.component c.there ∙ ap (λ (p : Path). Some p) (body_path body path c.component made ∙ sym q);
      node = ap (path_at (states s)) n ∙ sym p ∙ ap (λ (p : Path). Some p) (sym q);
      this = i ∙ ap innermost (sym q);
    })

-- The loop over states.

-- what the first states make
abbrev pub made_before : Globals → Spec → ℕ → List TransitionInstance
made_before g s n = flat_map (transitions_of g) (components_of (take n (states s)))

components_append : (xs ys : List State) → components_of (xs ++ ys) ≡ components_of xs ++ components_of ys
components_append [] ys = refl
components_append (x ∷ xs) ys = by x.component (components_append xs ys)
  where
    by : (o : Option Component) → components_of (xs ++ ys) ≡ components_of xs ++ components_of ys → cons_option o (components_of (xs ++ ys)) ≡ cons_option o (components_of xs) ++ components_of ys
    by None e = e
    by (Some c) e = ap (λ zs. c ∷ zs) e

one_made : (g : Globals) (x : State) → flat_map (transitions_of g) (components_of (x ∷ [])) ≡ option_map_or (transitions_of g) x.component []
one_made g x = by x.component
  where
    by : (o : Option Component) → flat_map (transitions_of g) (cons_option o []) ≡ option_map_or (transitions_of g) o []
    by None = refl
    by (Some c) = append-nil (transitions_of g c)

item_here : {A : Type 0} (xs : List A) (n : ℕ) → n < length xs → (x : A) × (slice_get xs n ≡ Some x) × (take (suc n) xs ≡ take n xs ++ (x ∷ []))
item_here [] n l = absurd (not-suc-le-zero l)
item_here (x ∷ xs) zero l = (x, refl, refl)
item_here (x ∷ xs) (suc n) l = let r = item_here xs n (le_of_suc-le-suc l) in (r.0, r.1, ap (λ zs. x ∷ zs) r.2)

pub state_turn : (s : Spec) (n : ℕ) (old new : List Written) → n < length (states s) → ((g : Globals) → all_made_by g new ≡ all_made_by g old ++ of_state g s n) → ((g : Globals) → all_made_by g old ≡ made_before g s n)
    → (g : Globals) → all_made_by g new ≡ made_before g s (n + 1)
state_turn s n old new l e h g =
    let r = item_here (states s) n l in
    let next : n + 1 ≡ suc n = omega arith in
    e g
    ∙ ap (λ zs. zs ++ of_state g s n) (h g)
    ∙ ap (λ (o : Option State). made_before g s n ++ option_map_or (transitions_of g) (option_and_then (λ (x : State). x.component) o) []) r.1
    ∙ ap (λ zs. made_before g s n ++ zs) (sym (one_made g r.0))
    ∙ sym (flat_append (transitions_of g) (components_of (take n (states s))) (components_of (r.0 ∷ [])))
    ∙ ap (flat_map (transitions_of g)) (sym (components_append (take n (states s)) (r.0 ∷ [])))
    ∙ ap (λ zs. flat_map (transitions_of g) (components_of zs)) (sym r.2)
    ∙ ap (λ k. made_before g s k) (sym next)

pub all_states : (s : Spec) (n : ℕ) (new : List Written) → ((g : Globals) → all_made_by g new ≡ made_before g s n) → length (states s) ≤ n → (g : Globals) → all_made_by g new ≡ flat_map (transitions_of g) (components s)
all_states s n new h l g = h g ∙ ap (λ zs. flat_map (transitions_of g) (components_of zs)) (take_all n (states s) l)

-- What is known where the transitions of a state are added.
pub record IsAdded (s : Spec) (xs : List State) (body : Body) (bs : List Bus) (ts : List Transition) (owner : Owner) : Type 0 where
  pub states_are : xs ≡ states s
  pub place : IsPlace (components_of xs) (component_at xs owner.node) (Some owner.component)
  pub path : Some owner.path.now ≡ option_map (λ (x : State). x.path) (slice_get xs owner.node)
  pub its_body : Some body ≡ option_map (λ (x : State). x.body) (slice_get xs owner.node)
  pub its_index : owner.this ≡ innermost owner.path.now
  pub its_buses : bs ≡ part.buses_of body
  pub its_transitions : ts ≡ part.transitions_of body

module _ (s : Spec) (xs : List State) (body : Body) (bs : List Bus) (ts : List Transition) (owner : Owner) (k : IsAdded s xs body bs ts owner) (old new : List Written)
    (a : Adds owner (λ g. flat_map (made_at g owner.path.now bs) (numbered ts)) old new) where
  place_in_states : IsPlace (components_of (states s)) (component_at (states s) owner.node) (Some owner.component)
  place_in_states = subst (λ xs. IsPlace (components_of xs) (component_at xs owner.node) (Some owner.component)) k.states_are k.place

  path_in_states : Some owner.path.now ≡ option_map (λ (x : State). x.path) (slice_get (states s) owner.node)
  path_in_states = k.path ∙ ap (λ xs. option_map (λ (x : State). x.path) (slice_get xs owner.node)) k.states_are

  body_in_states : Some body ≡ option_map (λ (x : State). x.body) (slice_get (states s) owner.node)
  body_in_states = k.its_body ∙ ap (λ xs. option_map (λ (x : State). x.body) (slice_get xs owner.node)) k.states_are

  pub added_made : (g : Globals) → all_made_by g new ≡ all_made_by g old ++ of_state g s owner.node
  added_made =
      state_made s owner.node body owner.path.now owner old new place_in_states path_in_states body_in_states
      (subst (λ bs. Adds owner (λ g. flat_map (made_at g owner.path.now bs) (numbered (part.transitions_of body))) old new) k.its_buses
      (subst (λ ts. Adds owner (λ g. flat_map (made_at g owner.path.now bs) (numbered ts)) old new) k.its_transitions a))

  pub added_placed : ArePlaced (states s) old → ArePlaced (states s) new
  added_placed =
      state_placed s owner.node body owner.path.now owner (λ g. flat_map (made_at g owner.path.now bs) (numbered ts)) old new place_in_states path_in_states body_in_states refl refl k.its_index a
