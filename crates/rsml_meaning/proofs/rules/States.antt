-- Each component of a specification that keeps the rules is scoped.
use Rattle.std.proofs.Common.{◌≡◌, ℕ, Bool, true, false, List, [], ◌∷◌, ◌++◌, length, flat_map, filter_map, Option, Some, None, inl, inr, refl, sym, subst}
use Rattle.std.specs.List.{cons_option}
use Rattle.std.specs.Option.{option_map_or}
use Rattle.std.specs.Cmp.{second_so}
use Rattle.rsml_syntax.specs.declared.syntax.Spec.{Spec}
use Rattle.rsml_syntax.specs.declared.syntax.Amount.{Amount}
use Rattle.rsml_syntax.specs.declared.syntax.Body.{Body, Basic, One', All', Row_of-StateDecl, end_of-StateDecl, more_of-StateDecl}
use Rattle.rsml_syntax.specs.text.Names.{Name, is_in}
use Rattle.rsml_syntax.specs.rules.Globals.{indices}
use Rattle.rsml_syntax.specs.grammar.Parts.{Opens, Closes, nearer, placed, inside, row_parts, children_of}
use Rattle.rsml_syntax.specs.grammar.Parts as part
use Rattle.rsml_syntax.specs.rules.Owners.{is_count}
use Rattle.rsml_syntax.specs.rules.States.{child_names, state_scope, buses, transition}
use Rattle.rsml_syntax.specs.rules.Rules.{name_tables, broken_rule}
use Rattle.rsml_meaning.specs.Words.{Each, IsOne, Path, at, child_path}
use Rattle.rsml_meaning.specs.Instances.{State, Component, globals_of, row_names, new_state, row_inside, states, components}
use Rattle.rsml_meaning.specs.Instances as made
use Rattle.rsml_meaning.specs.Transitions.{innermost}
use Rattle.rsml_meaning.specs.Scoped.{IsState}
use Rattle.rsml_meaning.proofs.Lists.{each_append, each_flat_map, one_map, one_of_map, one_front, one_back, one_flat_map}
use Rattle.rsml_syntax.proofs.Clean.{Clean, clean_states, front_each, back_each, no_front, no_back, none_each}
use Rattle.rsml_meaning.proofs.rules.Sizes.{IsSized}
use Rattle.rsml_meaning.proofs.rules.Used.{Inside}
use Rattle.rsml_meaning.proofs.rules.Children.{inner_index, opened_size, opened_body, child_is_state}
use Rattle.rsml_meaning.proofs.rules.Components.{AreMembers, members_are, IsScopedComponent, transitions_scoped, names_of_row}

-- What is known of a state's component, if it has one.
abbrev IfScoped : Spec → Option Component → Type 0
IfScoped s None = Unit {0}
IfScoped s (Some c) = IsScopedComponent s c

abbrev Good : Spec → State → Type 0
Good s x = IfScoped s x.component

-- these states are among those of the specification
abbrev AreStates : Spec → List State → Type 0
AreStates s xs = (x : State) → IsOne x xs → IsOne x (states s)

-- what is known of a state with this body at this path
module _ (s : Spec) (h : broken_rule s ≡ None) (name : Name) (repeated : Bool) (size around : Option Amount) (in_one : Bool) where
  abbrev y : Body → part.State
  y body = placed name repeated size around in_one body

  state_good : (body : Body) (path : Path) → Clean s (Opens (y body)) → Clean s (Closes (y body)) → Each (Clean s) (inside (nearer size around) body)
      → Inside s (state_scope (name_tables s) (y body)) (nearer size around) (innermost path) → AreStates s (made.inside (globals_of s) body path) → Good s (new_state body path)
  state_good Basic path opens closes inner o are = tt
  state_good (All' shape row) path opens closes inner o are = tt
  state_good (One' first shape row bs ts) path opens closes inner o are =
      let body = One' first shape row bs ts in
      let names = names_of_row _ row in
      let place = state_scope (name_tables s) (y body) in
      let wrong = buses (child_names body) (child_names body) bs in
      let members = members_are (child_names body) (child_names body) bs (no_front wrong (flat_map (transition (name_tables s) place body) ts) closes) in
      record {
        default = subst (λ z. is_in first z ≡ true) (sym names) (second_so (is_count 64 (length (children_of body))) (option_map_or (λ first. is_in first (child_names body)) (Some first) true) (opened_body s (y body) opens));
        transitions = transitions_scoped s h place (nearer size around) (made.new_component path first (row_names row) bs ts) o body names refl
            (λ x k. let r = one_of_map (λ (z : State). z.path) (row_inside (globals_of s) row path) (child_path path (at x 0)) (child_is_state s (nearer size around) [] _ row path x inner k) in
            subst (λ p. IsState s p) (sym r.2) (one_map (λ (z : State). z.path) (states s) r.0 (are r.0 r.1)))
            (subst (λ z. Each (AreMembers z) bs) (sym names) members)
            (none_each (transition (name_tables s) place body) ts (no_back wrong (flat_map (transition (name_tables s) place body) ts) closes));
      }

-- The walk over all states.

nearer_sized : (s : Spec) (size around : Option Amount) → IsSized (globals_of s) size → IsSized (globals_of s) around → IsSized (globals_of s) (nearer size around)
nearer_sized s None around z a = a
nearer_sized s (Some amount) around z a = z

module _ (s : Spec) (h : broken_rule s ≡ None) where
  mutual
    body_good : (body : Body) (around : Option Amount) (path : Path) → IsSized (globals_of s) around → IsOne (innermost path) (indices (globals_of s) around)
        → AreStates s (made.inside (globals_of s) body path) → Each (Clean s) (inside around body) → Each (Good s) (made.inside (globals_of s) body path)
    body_good Basic around path z m are clean = tt
    body_good (One' first shape row bs ts) around path z m are clean = row_good _ row true around [] path z m are clean
    body_good (All' shape row) around path z m are clean = row_good _ row false around [] path z m are clean

    row_good : (n : _) (row : Row_of-StateDecl n) (in_one : Bool) (around : Option Amount) (earlier : List Name) (path : Path) → IsSized (globals_of s) around → IsOne (innermost path) (indices (globals_of s) around)
        → AreStates s (row_inside (globals_of s) row path) → Each (Clean s) (row_parts in_one around earlier row) → Each (Good s) (row_inside (globals_of s) row path)
    row_good n end_of-StateDecl in_one around earlier path z m are clean = tt
    row_good n (more_of-StateDecl name size body others) in_one around earlier path z m are clean =
        let g = globals_of s in
        let x = placed name (is_in name earlier) size around in_one body in
        let made_by : ℕ → List State = λ i. new_state body (child_path path (at name i)) ∷ made.inside g body (child_path path (at name i)) in
        let rest = Closes x ∷ row_parts in_one around (earlier ++ (name ∷ [])) others in
        let inner = front_each (Clean s) (inside (nearer size around) body) rest clean.1 in
        let after = back_each (Clean s) (inside (nearer size around) body) rest clean.1 in
        let sizes = nearer_sized s size around (opened_size s x clean.0).1 z in
        each_append (Good s) (flat_map made_by (indices g size)) (row_inside g others path)
        (each_flat_map (Good s) made_by (indices g size)
        (λ i k.
        let index = inner_index s around size path name i sizes m k in
        let mine : AreStates s (made_by i) = λ q l. are q (one_front q (flat_map made_by (indices g size)) (row_inside g others path) (one_flat_map made_by (indices g size) i q k l)) in (
          state_good s h name (is_in name earlier) size around in_one body (child_path path (at name i)) clean.0 after.0 inner (record { this = refl; plain = refl; sized = sizes; among = index }) (λ q l. mine q (inr l)),
          body_good body (nearer size around) (child_path path (at name i)) sizes index (λ q l. mine q (inr l)) inner,
        )))
        (row_good _ others in_one around (earlier ++ (name ∷ [])) path z m (λ q l. are q (one_back q (flat_map made_by (indices g size)) (row_inside g others path) l)) after.1)

  all_good : Each (Good s) (states s)
  all_good =
      let c = clean_states s h in
      let path = at s.top 0 ∷ [] in (
        state_good s h s.top false None None false s.body path c.opens c.closes c.inner (record { this = refl; plain = refl; sized = tt; among = inl refl }) (λ q l. inr l),
        body_good s.body None path tt (inl refl) (λ q l. inr l) c.inner,
      )

  each_component : (xs : List State) → Each (Good s) xs → Each (IsScopedComponent s) (filter_map (λ x. x.component) xs)
  each_component [] k = tt
  each_component (x ∷ xs) k = by_component x.component k.0 (each_component xs k.1)
    where
      by_component : (o : Option Component) → IfScoped s o → Each (IsScopedComponent s) (filter_map (λ x. x.component) xs) → Each (IsScopedComponent s) (cons_option o (filter_map (λ x. x.component) xs))
      by_component None g rest = rest
      by_component (Some c) g rest = (g, rest)

  pub components_scoped : Each (IsScopedComponent s) (components s)
  components_scoped = each_component (states s) all_good
