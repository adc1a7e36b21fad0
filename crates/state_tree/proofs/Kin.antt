-- Components and the numbers of their children.
use Rattle.std.proofs.Common.{◌≡◌, ℕ, zero, suc, ◌+◌, ◌<◌, ◌≤◌, List, [], ◌∷◌, ◌++◌, map, length, take, get_or, Option, Some, None, ⊎_elim, refl, sym, ap, ◌∙◌, subst, slice_get, slice_index_or, unwrap_or, arith, append-nil}
use Rattle.std.specs.List.{cons_option, AllZip}
use Rattle.std.specs.Option.{option_map, option_and_then}
use Rattle.std.proofs.lemmas.Option.{same_Some}
use Rattle.std.proofs.lemmas.List.{length-map, take_more, take_all}
use Rattle.rsml_syntax.specs.declared.syntax.Spec.{Spec}
use Rattle.rsml_syntax.specs.declared.syntax.StateDecl.{StateDecl}
use Rattle.rsml_syntax.specs.declared.syntax.Body.{Body, Basic, One', All'}
use Rattle.rsml_syntax.specs.text.Names.{Name, place_of}
use Rattle.rsml_syntax.specs.grammar.Parts.{children_of, default_of}
use Rattle.rsml_syntax.specs.limits.Checked.{IsChecked}
use Rattle.rsml_meaning.specs.Words.{Path, at, child_path}
use Rattle.rsml_meaning.specs.Instances.{State, Component, component_of, row_names, states}
use Rattle.state_tree.specs.nodes.Numbers.{paths, components_of, component_at}
use Rattle.state_tree.proofs.Numbering.{components_append}
use Rattle.state_tree.specs.Tables.{Family, IsFamily, IsFamilyOf, AreRising, AreFamilies, IsChildNamed}
use Rattle.state_tree.proofs.Lists.{get_map, beside, as_long, zip_push}
use Rattle.state_tree.proofs.Bodies.{body_component}
use Rattle.state_tree.proofs.Goods.{good_at, names_of_row}
use Rattle.state_tree.proofs.Spread.{get_parts}

abbrev pub names : List StateDecl → List Name
names cs = map (λ (c : StateDecl). c.name) cs

-- the component that a body with a default child is
component_is : (body : Body) (path : Path) (first : Name) → default_of body ≡ Some first → (c : Component) × (component_of body path ≡ Some c) × (c.default ≡ first) × (c.children ≡ names (children_of body))
component_is Basic path first h = absurd (let no : ⊥ = cc in no)
component_is (All' shape row) path first h = absurd (let no : ⊥ = cc in no)
component_is (One' f shape row bs ts) path first h = (record { path = path; default = f; children = _; buses = bs; transitions = ts }, refl, same_Some f first h, names_of_row _ row)

no_component : (body : Body) (path : Path) → default_of body ≡ None → component_of body path ≡ None
no_component Basic path h = refl
no_component (All' shape row) path h = refl
no_component (One' f shape row bs ts) path h = absurd (let no : ⊥ = cc in no)

-- the state of this number has this body
abbrev pub HasBody : List State → ℕ → Body → Type 0
HasBody xs node body = Some body ≡ option_map (λ (x : State). x.body) (slice_get xs node)

-- the component of a state by what is known to be its body
its_component : (s : Spec) (node : ℕ) (x : State) (body : Body) → slice_get (states s) node ≡ Some x → HasBody (states s) node body → x.component ≡ component_of body x.path
its_component s node x body e b =
    let same : body ≡ x.body = same_Some body x.body (b ∙ ap (option_map (λ (y : State). y.body)) e) in
    body_component s node x e ∙ ap (λ d. component_of d x.path) (sym same)

-- What is known of a state with a body that has a default child.
pub record IsOneState (s : Spec) (node : ℕ) (body : Body) (first : Name) (c : Component) : Type 0 where
  pub here : component_at (states s) node ≡ Some c
  pub path : slice_get (paths (states s)) node ≡ Some c.path
  pub default : c.default ≡ first
  pub children : c.children ≡ names (children_of body)
  pub few : length (children_of body) ≤ 64

pub one_state : (s : Spec) (node : ℕ) (body : Body) (first : Name) → IsChecked s → HasBody (states s) node body → default_of body ≡ Some first → (c : Component) × IsOneState s node body first c
one_state s node body first h b d = by_state (slice_get (states s) node) refl
  where
    by_state : (o : Option State) → slice_get (states s) node ≡ o → (c : Component) × IsOneState s node body first c
    by_state None e = absurd (no_body (b ∙ ap (option_map (λ (y : State). y.body)) e))
      where
        no_body : Some body ≡ None → ⊥
        no_body k = cc
    by_state (Some x) e =
        let r = component_is body x.path first d in
        let has : x.component ≡ Some r.0 = its_component s node x body e b ∙ r.1 in
        let g = good_at s h node x r.0 e has in
        let p = get_map (λ (y : State). y.path) (states s) node x e in (
          r.0,
          record {
            here = ap (λ o. option_and_then (λ (y : State). y.component) o) e ∙ has;
            path = p ∙ ap (λ q. Some q) (sym g.here);
            default = r.2;
            children = r.3;
            few = subst (λ n. n ≤ 64) (ap length r.3 ∙ length-map (children_of body) (λ (c : StateDecl). c.name)) g.few;
          },
        )

pub get_index : {A : Type 0} (xs : List A) (i : ℕ) (x d : A) → slice_get xs i ≡ Some x → slice_index_or xs i d ≡ x
get_index [] i x d h = absurd (let no : ⊥ = cc in no)
get_index (y ∷ xs) zero x d h = same_Some y x h
get_index (y ∷ xs) (suc i) x d h = get_index xs i x d h

pub family_is : (s : Spec) (node : ℕ) (body : Body) (first : Name) (c : Component) (place : ℕ) (numbers : List ℕ) → IsOneState s node body first c → place ≡ unwrap_or (place_of first (names (children_of body))) 0
    → AllZip (IsChildNamed (paths (states s)) node) (names (children_of body)) numbers → IsFamily s c (record { node = node; default = place; children = numbers })
family_is s node body first c place numbers h e all = record {
  here = h.here;
  path = h.path;
  default = e ∙ ap (λ (n : Name). unwrap_or (place_of n (names (children_of body))) 0) (sym h.default) ∙ ap (λ (ns : List Name). unwrap_or (place_of c.default ns) 0) (sym h.children);
  many = sym (ap length h.children ∙ as_long (IsChildNamed (paths (states s)) node) (names (children_of body)) numbers all);
  few = subst (λ n. n ≤ 64) (sym (ap length h.children ∙ length-map (children_of body) (λ (d : StateDecl). d.name))) h.few;
  children = λ k m g.
      let r = beside (IsChildNamed (paths (states s)) node) (names (children_of body)) numbers k m all g in
      r.2 c.path h.path ∙ ap (λ (n : Name). Some (child_path c.path (at n 0))) (sym (ap (λ (ns : List Name). slice_index_or ns k []) h.children ∙ get_index (names (children_of body)) k r.0 [] r.1));
}

-- the families so far
pub record AreSoFar (s : Spec) (xs : List State) (n : ℕ) (fs : List Family) : Type 0 where
  pub each : AllZip (IsFamily s) (components_of (take n xs)) fs
  pub rising : AreRising fs
  pub lower : (k : ℕ) (f : Family) → slice_get fs k ≡ Some f → f.node < n

front : {A : Type 0} (xs ys : List A) (i : ℕ) (x : A) → i < length xs → slice_get (xs ++ ys) i ≡ Some x → slice_get xs i ≡ Some x
front [] ys i x l h = absurd (omega (arith, l))
front (y ∷ xs) ys zero x l h = h
front (y ∷ xs) ys (suc i) x l h = front xs ys i x (omega (arith, l)) h

lower_push : (fs : List Family) (g : Family) (n : ℕ) → ((k : ℕ) (f : Family) → slice_get fs k ≡ Some f → f.node < n) → g.node ≡ n → (k : ℕ) (f : Family) → slice_get (fs ++ g ∷ []) k ≡ Some f → f.node < n + 1
lower_push fs g n low e k f h = ⊎_elim
    (λ l. let q = low k f (front fs (g ∷ []) k f l.0 h) in omega (arith, q))
    (λ r. last r.0 r.2)
    (get_parts fs (g ∷ []) k f h)
  where
    last : (j : ℕ) → slice_get (g ∷ []) j ≡ Some f → f.node < n + 1
    last zero q = let d = ap (λ (x : Family). x.node) (same_Some g f q) in omega (arith, d, e)
    last (suc j) q = absurd (let no : ⊥ = cc in no)

rising_push : (fs : List Family) (g : Family) (n : ℕ) → AreRising fs → ((k : ℕ) (f : Family) → slice_get fs k ≡ Some f → f.node < n) → g.node ≡ n → AreRising (fs ++ g ∷ [])
rising_push fs g n rising low e j k f h l p q = ⊎_elim
    (λ r. rising j k f h l (front fs (g ∷ []) j f (let m = r.0 in omega (arith, m, l)) p) (front fs (g ∷ []) k h r.0 q))
    (λ r. last r.0 r.1 r.2)
    (get_parts fs (g ∷ []) k h q)
  where
    last : (i : ℕ) → k ≡ length fs + i → slice_get (g ∷ []) i ≡ Some h → f.node < h.node
    last zero m z =
        let a = low j f (front fs (g ∷ []) j f (omega (arith, m, l)) p) in
        let d = ap (λ (x : Family). x.node) (same_Some g h z) in
        omega (arith, a, d, e)
    last (suc i) m z = absurd (let no : ⊥ = cc in no)

pub so_far_more : (s : Spec) (xs : List State) (n : ℕ) (fs gs : List Family) (o : Option Family) → n < length xs → AreSoFar s xs n fs → IsFamilyOf s n (component_at xs n) o → gs ≡ fs ++ cons_option o [] → AreSoFar s xs (n + 1) gs
so_far_more s xs n fs gs o l h f e = subst (λ zs. AreSoFar s xs (n + 1) zs) (sym e) (by_state (slice_get xs n) refl)
  where
    more : (x : State) → slice_get xs n ≡ Some x → components_of (take (n + 1) xs) ≡ components_of (take n xs) ++ cons_option x.component []
    more x g = ap components_of (take_more xs n x l ∙ ap (λ y. take n xs ++ y ∷ []) (item xs n x g)) ∙ components_append (take n xs) (x ∷ [])
      where
        item : (xs : List State) (n : ℕ) (x : State) → slice_get xs n ≡ Some x → get_or xs n x ≡ x
        item [] n x g = refl
        item (y ∷ xs) zero x g = same_Some y x g
        item (y ∷ xs) (suc n) x g = item xs n x g

    none : (x : State) → slice_get xs n ≡ Some x → x.component ≡ None → AreSoFar s xs (n + 1) (fs ++ [])
    none x g c = record {
      each = subst (λ cs. AllZip (IsFamily s) cs (fs ++ [])) (sym (more x g ∙ ap (λ (p : Option Component). components_of (take n xs) ++ cons_option p []) c))
          (both_ends (components_of (take n xs)) fs h.each);
      rising = subst AreRising (sym (append-nil fs)) h.rising;
      lower = λ k f q. let m = h.lower k f (ap (λ zs. slice_get zs k) (sym (append-nil fs)) ∙ q) in omega (arith, m);
    }
      where
        both_ends : (cs : List Component) (fs : List Family) → AllZip (IsFamily s) cs fs → AllZip (IsFamily s) (cs ++ []) (fs ++ [])
        both_ends cs fs k = subst (λ zs. AllZip (IsFamily s) zs (fs ++ [])) (sym (append-nil cs)) (subst (λ zs. AllZip (IsFamily s) cs zs) (sym (append-nil fs)) k)

    some : (x : State) (c : Component) (g : Family) → slice_get xs n ≡ Some x → x.component ≡ Some c → IsFamily s c g → g.node ≡ n → AreSoFar s xs (n + 1) (fs ++ g ∷ [])
    some x c g q d k m = record {
      each = subst (λ cs. AllZip (IsFamily s) cs (fs ++ g ∷ [])) (sym (more x q ∙ ap (λ (p : Option Component). components_of (take n xs) ++ cons_option p []) d)) (zip_push (IsFamily s) (components_of (take n xs)) fs c g h.each k);
      rising = rising_push fs g n h.rising h.lower m;
      lower = lower_push fs g n h.lower m;
    }

    by_component : (x : State) → slice_get xs n ≡ Some x → (c : Option Component) → x.component ≡ c → (o : Option Family) → IsFamilyOf s n c o → AreSoFar s xs (n + 1) (fs ++ cons_option o [])
    by_component x g None d None k = none x g d
    by_component x g (Some c) d (Some f) k = some x c f g d k.0 k.1
    by_component x g None d (Some f) k = absurd k
    by_component x g (Some c) d None k = absurd k

    by_state : (p : Option State) → slice_get xs n ≡ p → AreSoFar s xs (n + 1) (fs ++ cons_option o [])
    by_state (Some x) g = by_component x g x.component refl o (subst (λ c. IsFamilyOf s n c o) (ap (λ p. option_and_then (λ (y : State). y.component) p) g) f)
    by_state None g = absurd (no_get xs n l g)
      where
        no_get : (xs : List State) (n : ℕ) → n < length xs → slice_get xs n ≡ None → ⊥
        no_get [] n l g = omega (arith, l)
        no_get (x ∷ xs) zero l g = cc
        no_get (x ∷ xs) (suc n) l g = no_get xs n (omega (arith, l)) g

pub index_there : (es : List ℕ) (i : ℕ) → i < length es → slice_get es i ≡ Some (slice_index_or es i 0)
index_there [] i l = absurd (omega (arith, l))
index_there (e ∷ es) zero l = refl
index_there (e ∷ es) (suc i) l = index_there es i (omega (arith, l))

pub all_families : (s : Spec) (xs : List State) (n : ℕ) (fs : List Family) → xs ≡ states s → length xs ≤ n → AreSoFar s xs n fs → AreFamilies s fs
all_families s xs n fs e l h = record {
  each = subst (λ (ys : List State). AllZip (IsFamily s) (components_of ys) fs) (take_all n xs l ∙ e) h.each;
  rising = h.rising;
}

pub one_state_in : (s : Spec) (xs : List State) (node : ℕ) (body : Body) (first : Name) → IsChecked s → xs ≡ states s → HasBody xs node body → Some first ≡ default_of body → (c : Component) × IsOneState s node body first c
one_state_in s xs node body first h e b d = one_state s node body first h (subst (λ (ys : List State). HasBody ys node body) e b) (sym d)

pub family_of : (s : Spec) (xs : List State) (node : ℕ) (body : Body) (first : Name) (cs : List StateDecl) (place : ℕ) (numbers : List ℕ) → xs ≡ states s → cs ≡ children_of body → (r : (c : Component) × IsOneState s node body first c)
    → place ≡ unwrap_or (place_of first (names cs)) 0 → AllZip (IsChildNamed (paths xs) node) (names cs) numbers → IsFamilyOf s node (component_at xs node) (Some (record { node = node; default = place; children = numbers }))
family_of s xs node body first cs place numbers e d r p all =
    let f = family_is s node body first r.0 place numbers r.1 (p ∙ ap (λ (ds : List StateDecl). unwrap_or (place_of first (names ds)) 0) d)
    (subst (λ (ds : List StateDecl). AllZip (IsChildNamed (paths (states s)) node) (names ds) numbers) d (subst (λ (ys : List State). AllZip (IsChildNamed (paths ys) node) (names cs) numbers) e all)) in
    subst (λ o. IsFamilyOf s node o (Some (record { node = node; default = place; children = numbers }))) (sym (ap (λ (ys : List State). component_at ys node) e ∙ r.1.here)) (f, refl)

component_children : (body : Body) (path : Path) (c : Component) → component_of body path ≡ Some c → c.children ≡ names (children_of body)
component_children Basic path c h = absurd (let no : ⊥ = cc in no)
component_children (All' shape row) path c h = absurd (let no : ⊥ = cc in no)
component_children (One' f shape row bs ts) path c h =
    sym (ap (λ (d : Component). d.children) (same_Some (record { path = path; default = f; children = row_names row; buses = bs; transitions = ts }) c h)) ∙ names_of_row _ row

pub children_are : (s : Spec) (xs : List State) (node : ℕ) (body : Body) (c : Component) (cs : List StateDecl) → xs ≡ states s → HasBody xs node body → component_at (states s) node ≡ Some c → cs ≡ children_of body → names cs ≡ c.children
children_are s xs node body c cs e b h d = by_state (slice_get (states s) node) refl
  where
    by_state : (o : Option State) → slice_get (states s) node ≡ o → names cs ≡ c.children
    by_state None q = absurd (no_component_there (sym (ap (option_and_then (λ (y : State). y.component)) q) ∙ h))
      where
        no_component_there : None ≡ Some c → ⊥
        no_component_there k = cc
    by_state (Some x) q =
        let its = its_component s node x body q (subst (λ (ys : List State). HasBody ys node body) e b) in
        let has : component_of body x.path ≡ Some c = sym its ∙ sym (ap (option_and_then (λ (y : State). y.component)) q) ∙ h in
        ap names d ∙ sym (component_children body x.path c has)

-- a state whose body has no default child is no component
pub no_family : (s : Spec) (xs : List State) (node : ℕ) (body : Body) → xs ≡ states s → HasBody xs node body → None ≡ default_of body → IsFamilyOf s node (component_at xs node) None
no_family s xs node body e b d = by_state (slice_get (states s) node) refl
  where
    none_here : component_at (states s) node ≡ None → IsFamilyOf s node (component_at xs node) None
    none_here k = subst (λ o. IsFamilyOf s node o None) (sym (ap (λ (ys : List State). component_at ys node) e ∙ k)) tt

    by_state : (o : Option State) → slice_get (states s) node ≡ o → IsFamilyOf s node (component_at xs node) None
    by_state None q = none_here (ap (option_and_then (λ (y : State). y.component)) q)
    by_state (Some x) q =
        let its = its_component s node x body q (subst (λ (ys : List State). HasBody ys node body) e b) in
        none_here (ap (option_and_then (λ (y : State). y.component)) q ∙ its ∙ no_component body x.path (sym d))
