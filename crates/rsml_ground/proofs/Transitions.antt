-- What the guards of transitions name is there.
use Rattle.std.proofs.Common.{◌≡◌, Bool, true, false, not, ◌&&◌, ◌||◌, List, [], ◌∷◌, ◌++◌, length, map, flat_map, filter_map, Option, Some, None, inl, refl}
use Rattle.std.specs.List.{cons_option, list_all, list_any}
use Rattle.std.specs.Cmp.{first_so}
use Rattle.rsml_syntax.specs.declared.syntax.Spec.{Spec}
use Rattle.rsml_syntax.specs.declared.syntax.Amount.{Amount}
use Rattle.rsml_syntax.specs.declared.syntax.Guard.{Guard}
use Rattle.rsml_syntax.specs.declared.syntax.Sum.{Sum}
use Rattle.rsml_syntax.specs.declared.syntax.Transition.{Transition}
use Rattle.rsml_syntax.specs.declared.syntax.Body.{Body, Basic, One', All', Row_of-StateDecl, end_of-StateDecl, more_of-StateDecl}
use Rattle.rsml_syntax.specs.declared.want.Want.TheVariants as want
use Rattle.rsml_syntax.specs.text.Names.{Name, is_in}
use Rattle.rsml_syntax.specs.grammar.Parts.{Part, Opens, Closes, nearer, placed, inside, row_parts, children_of, top_of, declared, parts}
use Rattle.rsml_syntax.specs.grammar.Parts as part
use Rattle.rsml_syntax.specs.grammar.Written.{sums_of_guard}
use Rattle.rsml_syntax.specs.limits.Checked.{IsChecked}
use Rattle.rsml_syntax.specs.limits.Comparisons.{Indices}
use Rattle.rsml_syntax.specs.limits.Previous.{sums_of_part, written_sums}
use Rattle.rsml_syntax.specs.rules.Breaches.{breach}
use Rattle.rsml_syntax.specs.rules.Globals.{indices}
use Rattle.rsml_syntax.specs.rules.Owners.{guard_kinds_match, guard_is_table, guard_is_long, owner}
use Rattle.rsml_syntax.specs.rules.Kinds.{has_kind}
use Rattle.rsml_syntax.specs.rules.Scopes.{Scope}
use Rattle.rsml_syntax.specs.rules.Uses.{mentioned, guard_used}
use Rattle.rsml_syntax.specs.rules.States.{child_names, bus_names, state_scope, buses, target, transition, raised_again}
use Rattle.rsml_syntax.specs.rules.Rules.{name_tables, broken_rule}
use Rattle.rsml_syntax.proofs.Clean.{Clean, all_clean, front_each, back_each, no_front, no_back, none_each, holds, unbroken}
use Rattle.rsml_meaning.specs.Words.{Each, IsOne, Path, at, child_path}
use Rattle.rsml_meaning.specs.Instances.{State, Component, globals_of, row_names, new_state, row_inside, subtree, child_states, states}
use Rattle.rsml_meaning.specs.Instances as made
use Rattle.rsml_meaning.specs.Truth.{within}
use Rattle.rsml_meaning.specs.Transitions.{TransitionInstance, innermost, sources, new_transition, transitions_of, transitions}
use Rattle.rsml_meaning.specs.Interfaces.{definitions}
use Rattle.rsml_meaning.proofs.Lists.{each_append, each_flat_map, each_map, each_one, each_ones, each_numbered_flat, one_flat_map}
use Rattle.rsml_meaning.proofs.rules.Sizes.{IsSized}
use Rattle.rsml_meaning.proofs.rules.Children.{inner_index, opened_size}
use Rattle.rsml_ground.specs.Scoped.{GuardIsScoped}
use Rattle.rsml_ground.proofs.Reading.{Reads, reads_plain}
use Rattle.rsml_ground.proofs.Written.{IsWritten, TransitionWritten, BodyWritten, ChildrenWritten, body_written}

-- Parts.

-- What is known of a part: it has no breach, and its sums are among those of the specification.
record IsKnown (s : Spec) (p : Part) : Type 0 where
  clean : Clean s p
  sums : (x : Sum) → IsOne x (sums_of_part p) → IsOne x (written_sums s)

all_known : (s : Spec) → broken_rule s ≡ None → Each (IsKnown s) (parts s)
all_known s h =
    each_ones (IsKnown s) (parts s)
    (λ p m. record { clean = each_one (Clean s) (parts s) p (all_clean s h) m; sums = λ x k. one_flat_map sums_of_part (parts s) p x m k })

-- What is known of the states.
record KnownStates (s : Spec) : Type 0 where
  opens : IsKnown s (Opens (top_of s))
  inner : Each (IsKnown s) (inside None s.body)
  closes : IsKnown s (Closes (top_of s))

known_states : (s : Spec) → broken_rule s ≡ None → KnownStates s
known_states s h =
    let last = Closes (top_of s) ∷ [] in
    let all = back_each (IsKnown s) (declared 0 s.decls) (Opens (top_of s) ∷ (inside None s.body ++ last)) (all_known s h) in
    record {
      opens = all.0;
      inner = front_each (IsKnown s) (inside None s.body) last all.1;
      closes = (back_each (IsKnown s) (inside None s.body) last all.1).0;
    }

-- Guards.

-- What is known of the guard of a transition: its table, its sums, and what it uses.
record IsClean (s : Spec) (place : Scope) (x : Guard) : Type 0 where
  is_table : guard_is_table x ≡ true
  is_short : guard_is_long x ≡ false
  used : guard_used (name_tables s) place x ≡ []

not_either : (a b c : Bool) → ((a || b) || c) ≡ false → a ≡ false
not_either true b c h = h
not_either false b c h = refl

guard_clean : (s : Spec) (place : Scope) (body : Body) (t : Transition) → transition (name_tables s) place body t ≡ [] → IsClean s place t.guard
guard_clean s place body t h =
    let w = name_tables s in
    let guards = t.guard ∷ [] in
    let first = breach 12 t.source (not (is_in t.source (child_names body) || is_in t.source (bus_names body))) in
    let raised = flat_map (mentioned w place want.Event) t.raises ++ raised_again [] t.raises in
    let from = mentioned w place want.Event t.trigger ++ (guard_used w place t.guard ++ raised) in
    let after = no_back first (owner w.globals t.source guards [] ++ (target (children_of body) t.target ++ from)) h in
    let owned = no_front (owner w.globals t.source guards []) (target (children_of body) t.target ++ from) after in
    let later = no_back (target (children_of body) t.target) from (no_back (owner w.globals t.source guards []) (target (children_of body) t.target ++ from) after) in
    let kinds = breach 7 t.source (not (list_all (guard_kinds_match w.globals) guards && list_all (has_kind w.globals) [])) in
    let tables = breach 8 t.source (not (list_all guard_is_table guards)) in
    let long = breach 16 t.source (list_any guard_is_long guards || false) in
    let shown = no_back kinds (tables ++ long) owned in
    record {
      is_table = first_so (guard_is_table t.guard) true (holds 8 t.source (list_all guard_is_table guards) (no_front tables long shown));
      is_short = not_either (guard_is_long t.guard) false false (unbroken 16 t.source (list_any guard_is_long guards || false) (no_back tables long shown));
      used = no_front (guard_used w place t.guard) raised (no_back (mentioned w place want.Event t.trigger) (guard_used w place t.guard ++ raised) later);
    }

-- States.

nearer_sized : (s : Spec) (size around : Option Amount) → IsSized (globals_of s) size → IsSized (globals_of s) around → IsSized (globals_of s) (nearer size around)
nearer_sized s None around z a = a
nearer_sized s (Some amount) around z a = z

-- what a guard names is there, after all declarations
abbrev pub GuardsAreScoped : Spec → Type 0
GuardsAreScoped s = (place : Scope) (r : Indices) → Reads s place r → place.before ≡ length (name_tables s).globals.names → (x : Guard) → IsWritten s x → guard_used (name_tables s) place x ≡ [] → guard_is_table x ≡ true → guard_is_long x ≡ false
    → GuardIsScoped s (length (definitions s)) r x

-- what the guard of a transition names is there
abbrev pub TransitionIsScoped : Spec → TransitionInstance → Type 0
TransitionIsScoped s t = GuardIsScoped s (length (definitions s)) (within t.this) t.guard

abbrev IfScoped : Spec → Option Component → Type 0
IfScoped s None = Unit {0}
IfScoped s (Some c) = Each (TransitionIsScoped s) (transitions_of (globals_of s) c)

abbrev Good : Spec → State → Type 0
Good s x = IfScoped s x.component

component_good : (s : Spec) (c : Component) → Each (λ t. GuardIsScoped s (length (definitions s)) (within (innermost c.path)) t.guard) c.transitions → Each (TransitionIsScoped s) (transitions_of (globals_of s) c)
component_good s c h =
    each_numbered_flat (TransitionIsScoped s) (λ t. map (new_transition (globals_of s) c t) (sources c t.1.source)) 1 c.transitions
    (λ n t m. each_map (TransitionIsScoped s) (new_transition (globals_of s) c (n, t)) (sources c t.source)
    (λ x. each_one (λ (t : Transition). GuardIsScoped s (length (definitions s)) (within (innermost c.path)) t.guard) c.transitions t h m))

-- what is known of the state with this body at this path
module _ (s : Spec) (guards : GuardsAreScoped s) (name : Name) (repeated : Bool) (size around : Option Amount) (in_one : Bool) where
  abbrev y : Body → part.State
  y body = placed name repeated size around in_one body

  state_good : (body : Body) (path : Path) → IsKnown s (Closes (y body)) → BodyWritten body → IsSized (globals_of s) (nearer size around) → IsOne (innermost path) (indices (globals_of s) (nearer size around)) → Good s (new_state body path)
  state_good Basic path known written z m = tt
  state_good (All' shape row) path known written z m = tt
  state_good (One' first shape row bs ts) path known written z m =
      let body = One' first shape row bs ts in
      let place = state_scope (name_tables s) (y body) in
      let right = none_each (transition (name_tables s) place body) ts (no_back (buses (child_names body) (child_names body) bs) (flat_map (transition (name_tables s) place body) ts) known.clean) in
      component_good s (made.new_component path first (row_names row) bs ts)
      (each_ones (λ (t : Transition). GuardIsScoped s (length (definitions s)) (within (innermost path)) t.guard) ts
      (λ t k.
      let c = guard_clean s place body t (each_one (λ t. transition (name_tables s) place body t ≡ []) ts t right k) in
      guards place (within (innermost path)) (reads_plain s place (nearer size around) (innermost path) refl refl z m) refl t.guard
      (record {
        sums = each_ones (λ x. IsOne x (written_sums s)) (sums_of_guard t.guard) (λ x l. known.sums x (one_flat_map (λ (t : Transition). sums_of_guard t.guard) ts t x k l));
        small = each_one TransitionWritten ts t written.1 k;
      })
      c.used c.is_table c.is_short))

-- The walk over all states.

module _ (s : Spec) (h : broken_rule s ≡ None) (guards : GuardsAreScoped s) where
  mutual
    body_good : (body : Body) (around : Option Amount) (path : Path) → BodyWritten body → IsSized (globals_of s) around → IsOne (innermost path) (indices (globals_of s) around) → Each (IsKnown s) (inside around body)
        → Each (Good s) (made.inside (globals_of s) body path)
    body_good Basic around path written z m known = tt
    body_good (One' first shape row bs ts) around path written z m known = row_good _ row true around [] path written.0 z m known
    body_good (All' shape row) around path written z m known = row_good _ row false around [] path written z m known

    row_good : (n : _) (row : Row_of-StateDecl n) (in_one : Bool) (around : Option Amount) (earlier : List Name) (path : Path) → ChildrenWritten row → IsSized (globals_of s) around → IsOne (innermost path) (indices (globals_of s) around)
        → Each (IsKnown s) (row_parts in_one around earlier row) → Each (Good s) (row_inside (globals_of s) row path)
    row_good n end_of-StateDecl in_one around earlier path written z m known = tt
    row_good n (more_of-StateDecl name size body others) in_one around earlier path written z m known =
        let g = globals_of s in
        let x = placed name (is_in name earlier) size around in_one body in
        let rest = Closes x ∷ row_parts in_one around (earlier ++ (name ∷ [])) others in
        let inner = front_each (IsKnown s) (inside (nearer size around) body) rest known.1 in
        let after = back_each (IsKnown s) (inside (nearer size around) body) rest known.1 in
        let sizes = nearer_sized s size around (opened_size s x known.0.clean).1 z in
        each_append (Good s) (child_states g path (record { name = name; size = size; body = body })) (row_inside g others path)
        (each_flat_map (Good s) (λ i. subtree g body (child_path path (at name i))) (indices g size)
        (λ i k.
        let index = inner_index s around size path name i sizes m k in (
          state_good s guards name (is_in name earlier) size around in_one body (child_path path (at name i)) after.0 written.0 sizes index,
          body_good body (nearer size around) (child_path path (at name i)) written.0 sizes index inner,
        )))
        (row_good _ others in_one around (earlier ++ (name ∷ [])) path written.1 z m after.1)

  each_good : BodyWritten s.body → Each (Good s) (states s)
  each_good written =
      let c = known_states s h in
      let path = at s.top 0 ∷ [] in (
        state_good s guards s.top false None None false s.body path c.closes written tt (inl refl),
        body_good s.body None path written tt (inl refl) c.inner,
      )

  each_transition : (xs : List State) → Each (Good s) xs → Each (TransitionIsScoped s) (flat_map (transitions_of (globals_of s)) (filter_map (λ x. x.component) xs))
  each_transition [] k = tt
  each_transition (x ∷ xs) k = by_component x.component k.0 (each_transition xs k.1)
    where
      rest : List Component
      rest = filter_map (λ x. x.component) xs

      by_component : (o : Option Component) → IfScoped s o → Each (TransitionIsScoped s) (flat_map (transitions_of (globals_of s)) rest) → Each (TransitionIsScoped s) (flat_map (transitions_of (globals_of s)) (cons_option o rest))
      by_component None good others = others
      by_component (Some c) good others = each_append (TransitionIsScoped s) (transitions_of (globals_of s) c) (flat_map (transitions_of (globals_of s)) rest) good others

-- what the guards of all transitions name is there
pub transitions_scoped : (s : Spec) → IsChecked s → GuardsAreScoped s → Each (TransitionIsScoped s) (transitions s)
transitions_scoped s checked guards =
    each_transition s checked.keeps.rules guards (states s) (each_good s checked.keeps.rules guards (body_written s checked.well_formed))
