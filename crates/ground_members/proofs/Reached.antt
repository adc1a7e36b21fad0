-- A target is a state: by S12 each step of it is a child of the one before it, and no array.
use Rattle.std.proofs.Common.{◌≡◌, ℕ, suc, Bool, true, false, cond, not, ◌&&◌, ◌||◌, List, [], ◌∷◌, ◌++◌, map, flat_map, filter_map, find, is_none, Option, Some, None, inl, inr, refl, sym, ap, ◌∙◌, subst, true≢false, append_assoc, append-nil}
use Rattle.std.specs.List.{cons_option}
use Rattle.std.specs.Option.{option_map, option_map_or}
use Rattle.rsml_syntax.specs.declared.syntax.Spec.{Spec}
use Rattle.rsml_syntax.specs.declared.syntax.Amount.{Amount}
use Rattle.rsml_syntax.specs.declared.syntax.Transition.{Transition}
use Rattle.rsml_syntax.specs.declared.syntax.StateDecl.{StateDecl}
use Rattle.rsml_syntax.specs.declared.syntax.Body.{Body, Basic, One', All', Row_of-StateDecl, end_of-StateDecl, more_of-StateDecl, items-the_row-StateDecl}
use Rattle.rsml_syntax.specs.declared.want.Want.TheVariants as want
use Rattle.rsml_syntax.specs.text.Names.{Name, same, is_in}
use Rattle.rsml_syntax.specs.grammar.Parts.{Closes, nearer, placed, inside, row_parts, children_of}
use Rattle.rsml_syntax.specs.grammar.Parts as part
use Rattle.rsml_syntax.specs.rules.Breaches.{breach}
use Rattle.rsml_syntax.specs.rules.Globals.{Globals, indices}
use Rattle.rsml_syntax.specs.rules.Owners.{owner}
use Rattle.rsml_syntax.specs.rules.Scopes.{Scope}
use Rattle.rsml_syntax.specs.rules.Uses.{mentioned, guard_used}
use Rattle.rsml_syntax.specs.rules.States.{child_names, bus_names, state_scope, buses, is_target, last_of, target, transition, raised_again}
use Rattle.rsml_syntax.specs.rules.Rules.{name_tables, broken_rule}
use Rattle.rsml_syntax.proofs.Clean.{Clean, clean_states, front_each, back_each, no_front, no_back, none_each, holds}
use Rattle.rsml_meaning.specs.Words.{Each, IsOne, Path, at, child_path}
use Rattle.rsml_meaning.specs.Instances.{State, Component, globals_of, row_names, new_state, row_inside, subtree, states}
use Rattle.rsml_meaning.specs.Instances as made
use Rattle.rsml_meaning.specs.Transitions.{TransitionInstance, sources, target_path, new_transition, transitions_of, transitions}
use Rattle.rsml_meaning.proofs.Same.{name_same}
use Rattle.rsml_meaning.proofs.Lists.{each_append, each_flat_map, each_map, each_one, each_numbered_flat, one_front, one_back, one_flat_map}
use Rattle.state_arrays.specs.Trees.{HasPath}
use Rattle.ground_members.specs.Scoped.{TargetIsScoped}

-- Where a target leads.

-- one of these states has the path
abbrev Has : List State → Path → Type 0
Has xs p = (x : State) × IsOne x xs × (x.path ≡ p)

leads_on : (path : Path) (name : Name) (names : List Name) → target_path (child_path path (at name 0)) names ≡ target_path path (name ∷ names)
leads_on path name names = append_assoc path (at name 0 ∷ []) (map (λ (n : Name). at n 0) names)

-- the names lead from a state to one inside it
abbrev Leads : Globals → List Name → Type 0
Leads g names = (body : Body) (path : Path) → is_target (children_of body) names ≡ true → Has (subtree g body path) (target_path path names)

abbrev is_right : List Name → StateDecl → Bool
is_right names c = is_none c.size && is_target (children_of c.body) names

row_leads : (g : Globals) (name : Name) (names : List Name) → Leads g names → (n : _) (row : Row_of-StateDecl n) (path : Path)
    → option_map_or (is_right names) (find (λ (c : StateDecl). same name c.name) (items-the_row-StateDecl n row)) false ≡ true → Has (row_inside g row path) (target_path path (name ∷ names))
row_leads g name names next n end_of-StateDecl path h = absurd (true≢false (sym h))
row_leads g name names next n (more_of-StateDecl child size body others) path h =
    by_name (same name child) refl h (row_leads g name names next _ others path)
  where
    c : StateDecl
    c = record { name = child; size = size; body = body }

    rest : Option StateDecl
    rest = find (λ (c : StateDecl). same name c.name) (items-the_row-StateDecl _ others)

    here : List State
    here = flat_map (λ i. subtree g body (child_path path (at child i))) (indices g size)

    by_size : (z : Option Amount) → (is_none z && is_target (children_of body) names) ≡ true → child ≡ name → Has (flat_map (λ i. subtree g body (child_path path (at child i))) (indices g z)) (target_path path (name ∷ names))
    by_size None k e =
        let r = next body (child_path path (at child 0)) k in
        (r.0, one_front r.0 (subtree g body (child_path path (at child 0))) [] r.1, r.2 ∙ leads_on path child names ∙ ap (λ z. target_path path (z ∷ names)) e)
    by_size (Some amount) k e = absurd (true≢false (sym k))

    by_name : (b : Bool) → same name child ≡ b → option_map_or (is_right names) (cond b (Some c) rest) false ≡ true → (option_map_or (is_right names) rest false ≡ true → Has (row_inside g others path) (target_path path (name ∷ names)))
        → Has (here ++ row_inside g others path) (target_path path (name ∷ names))
    by_name true e k later =
        let r = by_size size k (sym (name_same name child e)) in
        (r.0, one_front r.0 here (row_inside g others path) r.1, r.2)
    by_name false e k later =
        let r = later k in
        (r.0, one_back r.0 here (row_inside g others path) r.1, r.2)

leads : (g : Globals) (names : List Name) → Leads g names
leads g [] body path h = (new_state body path, inl refl, sym (append-nil path))
leads g (name ∷ names) Basic path h = absurd (true≢false (sym h))
leads g (name ∷ names) (One' first shape row bs ts) path h = let r = row_leads g name names (leads g names) _ row path h in (r.0, inr r.1, r.2)
leads g (name ∷ names) (All' shape row) path h = let r = row_leads g name names (leads g names) _ row path h in (r.0, inr r.1, r.2)

-- Transitions.

-- what a transition of a body has, where it has no breach
target_right : (s : Spec) (place : Scope) (body : Body) (t : Transition) → transition (name_tables s) place body t ≡ [] → target (children_of body) t.target ≡ []
target_right s place body t h =
    let w = name_tables s in
    let first = breach 12 t.source (not (is_in t.source (child_names body) || is_in t.source (bus_names body))) in
    let own = owner w.globals t.source (t.guard ∷ []) [] in
    let from = mentioned w place want.Event t.trigger ++ (guard_used w place t.guard ++ (flat_map (mentioned w place want.Event) t.raises ++ raised_again [] t.raises)) in
    no_front (target (children_of body) t.target) from (no_back own (target (children_of body) t.target ++ from) (no_back first (own ++ (target (children_of body) t.target ++ from)) h))

pub has_path : (xs : List State) (x : State) → IsOne x xs → HasPath xs x.path
has_path [] x m = absurd m
has_path (y ∷ xs) x (inl e) = (0, ap (λ (z : State). Some z.path) (sym e))
has_path (y ∷ xs) x (inr m) = let r = has_path xs x m in (suc r.0, r.1)

-- the target of a transition instance is a state
abbrev IsRight : Spec → TransitionInstance → Type 0
IsRight s t = TargetIsScoped s t.target

-- these states are among those of the specification
abbrev AreStates : Spec → List State → Type 0
AreStates s xs = (x : State) → IsOne x xs → IsOne x (states s)

target_is : (s : Spec) (body : Body) (path : Path) → AreStates s (subtree (globals_of s) body path) → (o : Option (List Name)) → target (children_of body) o ≡ [] → TargetIsScoped s (option_map (target_path path) o)
target_is s body path are None h = tt
target_is s body path are (Some names) h =
    let r = leads (globals_of s) names body path (holds 12 (last_of names) (is_target (children_of body) names) h) in
    subst (HasPath (states s)) r.2 (has_path (states s) r.0 (are r.0 r.1))

-- Components.

abbrev IfScoped : Spec → Option Component → Type 0
IfScoped s None = Unit {0}
IfScoped s (Some c) = Each (IsRight s) (transitions_of (globals_of s) c)

abbrev Good : Spec → State → Type 0
Good s x = IfScoped s x.component

module _ (s : Spec) (name : Name) (repeated : Bool) (size around : Option Amount) (in_one : Bool) where
  abbrev y : Body → part.State
  y body = placed name repeated size around in_one body

  state_good : (body : Body) (path : Path) → Clean s (Closes (y body)) → AreStates s (subtree (globals_of s) body path) → Good s (new_state body path)
  state_good Basic path closes are = tt
  state_good (All' shape row) path closes are = tt
  state_good (One' first shape row bs ts) path closes are =
      let body = One' first shape row bs ts in
      let place = state_scope (name_tables s) (y body) in
      let g = globals_of s in
      let c = made.new_component path first (row_names row) bs ts in
      let right = none_each (transition (name_tables s) place body) ts (no_back (buses (child_names body) (child_names body) bs) (flat_map (transition (name_tables s) place body) ts) closes) in
      each_numbered_flat (IsRight s) (λ t. map (new_transition g c t) (sources c t.1.source)) 1 ts
      (λ n t m. each_map (IsRight s) (new_transition g c (n, t)) (sources c t.source)
      (λ x. target_is s body path are t.target (target_right s place body t (each_one (λ t. transition (name_tables s) place body t ≡ []) ts t right m))))

-- The walk over all states.

module _ (s : Spec) (h : broken_rule s ≡ None) where
  mutual
    body_good : (body : Body) (around : Option Amount) (path : Path) → AreStates s (made.inside (globals_of s) body path) → Each (Clean s) (inside around body) → Each (Good s) (made.inside (globals_of s) body path)
    body_good Basic around path are clean = tt
    body_good (One' first shape row bs ts) around path are clean = row_good _ row true around [] path are clean
    body_good (All' shape row) around path are clean = row_good _ row false around [] path are clean

    row_good : (n : _) (row : Row_of-StateDecl n) (in_one : Bool) (around : Option Amount) (earlier : List Name) (path : Path) → AreStates s (row_inside (globals_of s) row path)
        → Each (Clean s) (row_parts in_one around earlier row) → Each (Good s) (row_inside (globals_of s) row path)
    row_good n end_of-StateDecl in_one around earlier path are clean = tt
    row_good n (more_of-StateDecl name size body others) in_one around earlier path are clean =
        let g = globals_of s in
        let x = placed name (is_in name earlier) size around in_one body in
        let made_by : ℕ → List State = λ i. subtree g body (child_path path (at name i)) in
        let rest = Closes x ∷ row_parts in_one around (earlier ++ (name ∷ [])) others in
        let inner = front_each (Clean s) (inside (nearer size around) body) rest clean.1 in
        let after = back_each (Clean s) (inside (nearer size around) body) rest clean.1 in
        each_append (Good s) (flat_map made_by (indices g size)) (row_inside g others path)
        (each_flat_map (Good s) made_by (indices g size)
        (λ i k.
        let mine : AreStates s (made_by i) = λ q l. are q (one_front q (flat_map made_by (indices g size)) (row_inside g others path) (one_flat_map made_by (indices g size) i q k l)) in (
          state_good s name (is_in name earlier) size around in_one body (child_path path (at name i)) after.0 mine,
          body_good body (nearer size around) (child_path path (at name i)) (λ q l. mine q (inr l)) inner,
        )))
        (row_good _ others in_one around (earlier ++ (name ∷ [])) path (λ q l. are q (one_back q (flat_map made_by (indices g size)) (row_inside g others path) l)) after.1)

  all_good : Each (Good s) (states s)
  all_good =
      let c = clean_states s h in
      let path = at s.top 0 ∷ [] in (
        state_good s s.top false None None false s.body path c.closes (λ q l. l),
        body_good s.body None path (λ q l. inr l) c.inner,
      )

  each_transition : (xs : List State) → Each (Good s) xs → Each (IsRight s) (flat_map (transitions_of (globals_of s)) (filter_map (λ x. x.component) xs))
  each_transition [] k = tt
  each_transition (x ∷ xs) k = by_component x.component k.0 (each_transition xs k.1)
    where
      rest : List Component
      rest = filter_map (λ x. x.component) xs

      by_component : (o : Option Component) → IfScoped s o → Each (IsRight s) (flat_map (transitions_of (globals_of s)) rest) → Each (IsRight s) (flat_map (transitions_of (globals_of s)) (cons_option o rest))
      by_component None good others = others
      by_component (Some c) good others = each_append (IsRight s) (transitions_of (globals_of s) c) (flat_map (transitions_of (globals_of s)) rest) good others

  -- the target of each transition is a state
  pub target_scoped : Each (λ t. TargetIsScoped s t.target) (transitions s)
  target_scoped = each_transition (states s) all_good
