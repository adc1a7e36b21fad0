-- The sources of a component's transitions are states, their triggers and the events that they raise are events.
use Rattle.std.proofs.Common.{◌≡◌, ℕ, Bool, true, false, cond, not, ◌||◌, List, [], ◌∷◌, ◌++◌, map, flat_map, find, Option, Some, None, inl, inr, ⊎_elim, refl, sym, ap, ◌∙◌, true≢false, IsTrue}
use Rattle.std.specs.List.{list_all, list_any}
use Rattle.std.specs.Cmp.{first_so, second_so}
use Rattle.rsml_syntax.specs.declared.syntax.Spec.{Spec}
use Rattle.rsml_syntax.specs.declared.syntax.Amount.{Amount}
use Rattle.rsml_syntax.specs.declared.syntax.Bus.{Bus}
use Rattle.rsml_syntax.specs.declared.syntax.Transition.{Transition}
use Rattle.rsml_syntax.specs.declared.syntax.StateDecl.{StateDecl}
use Rattle.rsml_syntax.specs.declared.syntax.Body.{Body, Row_of-StateDecl, end_of-StateDecl, more_of-StateDecl, items-the_row-StateDecl}
use Rattle.rsml_syntax.specs.declared.want.Want.TheVariants as want
use Rattle.rsml_syntax.specs.text.Names.{Name, same, is_in}
use Rattle.rsml_syntax.specs.rules.Breaches.{breach}
use Rattle.rsml_syntax.specs.grammar.Parts.{children_of}
use Rattle.rsml_syntax.specs.rules.Owners.{owner}
use Rattle.rsml_syntax.specs.rules.Scopes.{Scope}
use Rattle.rsml_syntax.specs.rules.Uses.{mentioned, guard_used}
use Rattle.rsml_syntax.specs.rules.States.{child_names, bus_names, are_members, has_repeat, buses, target, transition, raised_again}
use Rattle.rsml_syntax.specs.rules.Rules.{name_tables, broken_rule}
use Rattle.rsml_meaning.specs.Words.{Each, IsOne, at, child_path}
use Rattle.rsml_meaning.specs.Instances.{Component, globals_of, row_names}
use Rattle.rsml_meaning.specs.Truth.{within, instance}
use Rattle.rsml_meaning.specs.Transitions.{TransitionInstance, innermost, sources, new_transition, transitions_of}
use Rattle.rsml_meaning.specs.Scoped.{IsState, IsEvent}
use Rattle.rsml_meaning.proofs.Lists.{or_cases, each_map_ones, each_numbered_flat, each_one}
use Rattle.rsml_syntax.proofs.Clean.{no_front, no_back, none_each, holds}
use Rattle.rsml_meaning.proofs.rules.Mentions.{mentioned_is}
use Rattle.rsml_meaning.proofs.rules.Used.{Inside, event_is}
use Rattle.rsml_meaning.proofs.rules.Names.{is_in_any}

-- Buses.

-- members are children
abbrev pub AreMembers : List Name → Bus → Type 0
AreMembers children b = are_members children b.members ≡ true

pub members_are : (children earlier : List Name) (bs : List Bus) → buses children earlier bs ≡ [] → Each (AreMembers children) bs
members_are children earlier [] h = tt
members_are children earlier (b ∷ bs) h =
    let wrong = breach 11 b.name (not (are_members children b.members)) in
    let rest = buses children (earlier ++ (b.name ∷ [])) bs in
    let tail = no_back (breach 1 b.name (is_in b.name earlier)) (wrong ++ rest) h in
    (holds 11 b.name (are_members children b.members) (no_front wrong rest tail), members_are children (earlier ++ (b.name ∷ [])) bs (no_back wrong rest tail))

-- the bus of a name, if there is one, is one of them
found_is : (t : Bus → Bool) (bs : List Bus) (b : Bus) → find t bs ≡ Some b → IsOne b bs
found_is t [] b h = absurd (let no : ⊥ = cc in no)
found_is t (c ∷ bs) b h = by_test (t c) h (found_is t bs b)
  where
    by_test : (q : Bool) → cond q (Some c) (find t bs) ≡ Some b → (find t bs ≡ Some b → IsOne b bs) → IsOne b (c ∷ bs)
    by_test true e rest = inl (let same : c ≡ b = cc in sym same)
    by_test false e rest = inr (rest e)

not_found : (name : Name) (bs : List Bus) → find (λ (b : Bus). same name b.name) bs ≡ None → list_any (same name) (map (λ (b : Bus). b.name) bs) ≡ false
not_found name [] h = refl
not_found name (b ∷ bs) h = by_test (same name b.name) h (not_found name bs)
  where
    by_test : (q : Bool) → cond q (Some b) (find (λ (b : Bus). same name b.name) bs) ≡ None → (find (λ (b : Bus). same name b.name) bs ≡ None → list_any (same name) (map (λ (b : Bus). b.name) bs) ≡ false)
        → (q || list_any (same name) (map (λ (b : Bus). b.name) bs)) ≡ false
    by_test true e rest = absurd (let no : ⊥ = cc in no)
    by_test false e rest = rest e

all_each : {A : Type 0} (p : A → Bool) (xs : List A) → list_all p xs ≡ true → Each (λ x. p x ≡ true) xs
all_each p [] h = tt
all_each p (x ∷ xs) h = (first_so (p x) (list_all p xs) h, all_each p xs (second_so (p x) (list_all p xs) h))

-- what a source stands for is children
sources_are : (c : Component) (name : Name) → Each (AreMembers c.children) c.buses → (is_in name c.children || is_in name (map (λ (b : Bus). b.name) c.buses)) ≡ true → Each (λ x. is_in x c.children ≡ true) (sources c name)
sources_are c name m h = by_bus (find (λ (b : Bus). same name b.name) c.buses) refl
  where
    by_bus : (o : Option Bus) → find (λ (b : Bus). same name b.name) c.buses ≡ o → Each (λ x. is_in x c.children ≡ true) (elim o [ Some b ↦ b.members | None ↦ name ∷ [] ])
    by_bus (Some b) e =
        let are = each_one (AreMembers c.children) c.buses b m (found_is (λ (b : Bus). same name b.name) c.buses b e) in
        all_each (λ x. is_in x c.children) b.members (first_so (list_all (λ x. is_in x c.children) b.members) (not (has_repeat [] b.members)) are)
    by_bus None e = (
      ⊎_elim
          (λ k. k)
          (λ k. absurd (true≢false (sym k ∙ is_in_any name (map (λ (b : Bus). b.name) c.buses) ∙ not_found name c.buses e)))
          (or_cases (is_in name c.children) (is_in name (map (λ (b : Bus). b.name) c.buses)) h),
      tt,
    )

-- Transitions.

-- What is known of a transition.
pub record IsScopedTransition (s : Spec) (t : TransitionInstance) : Type 0 where
  pub source : IsState s t.source
  pub trigger : IsEvent s t.event
  pub raises : Each (IsEvent s) t.raises

-- What is known of a component.
pub record IsScopedComponent (s : Spec) (c : Component) : Type 0 where
  pub default : IsTrue (is_in c.default c.children)
  pub transitions : Each (IsScopedTransition s) (transitions_of (globals_of s) c)

-- what a transition of a body has, where it has no breach
source_right : (s : Spec) (place : Scope) (body : Body) (t : Transition) → transition (name_tables s) place body t ≡ [] → (is_in t.source (child_names body) || is_in t.source (bus_names body)) ≡ true
source_right s place body t h =
    holds 12 t.source (is_in t.source (child_names body) || is_in t.source (bus_names body))
    (no_front (breach 12 t.source (not (is_in t.source (child_names body) || is_in t.source (bus_names body))))
    (owner (name_tables s).globals t.source (t.guard ∷ []) []
    ++ (target (children_of body) t.target
    ++ (mentioned (name_tables s) place want.Event t.trigger
    ++ (guard_used (name_tables s) place t.guard
    ++ (flat_map (mentioned (name_tables s) place want.Event) t.raises ++ raised_again [] t.raises))))) h)

trigger_right : (s : Spec) (place : Scope) (body : Body) (t : Transition) → transition (name_tables s) place body t ≡ [] → mentioned (name_tables s) place want.Event t.trigger ≡ []
trigger_right s place body t h =
    let rest = guard_used (name_tables s) place t.guard ++ (flat_map (mentioned (name_tables s) place want.Event) t.raises ++ raised_again [] t.raises) in
    let from = mentioned (name_tables s) place want.Event t.trigger ++ rest in
    no_front (mentioned (name_tables s) place want.Event t.trigger) rest
    (no_back (target (children_of body) t.target) from
    (no_back (owner (name_tables s).globals t.source (t.guard ∷ []) []) (target (children_of body) t.target ++ from)
    (no_back (breach 12 t.source (not (is_in t.source (child_names body) || is_in t.source (bus_names body)))) (owner (name_tables s).globals t.source (t.guard ∷ []) [] ++ (target (children_of body) t.target ++ from)) h)))

raises_right : (s : Spec) (place : Scope) (body : Body) (t : Transition) → transition (name_tables s) place body t ≡ [] → flat_map (mentioned (name_tables s) place want.Event) t.raises ≡ []
raises_right s place body t h =
    let raised = flat_map (mentioned (name_tables s) place want.Event) t.raises in
    let rest = guard_used (name_tables s) place t.guard ++ (raised ++ raised_again [] t.raises) in
    let from = mentioned (name_tables s) place want.Event t.trigger ++ rest in
    no_front raised (raised_again [] t.raises)
    (no_back (guard_used (name_tables s) place t.guard) (raised ++ raised_again [] t.raises)
    (no_back (mentioned (name_tables s) place want.Event t.trigger) rest
    (no_back (target (children_of body) t.target) from
    (no_back (owner (name_tables s).globals t.source (t.guard ∷ []) []) (target (children_of body) t.target ++ from)
    (no_back (breach 12 t.source (not (is_in t.source (child_names body) || is_in t.source (bus_names body)))) (owner (name_tables s).globals t.source (t.guard ∷ []) [] ++ (target (children_of body) t.target ++ from)) h)))))

pub names_of_row : (n : _) (row : Row_of-StateDecl n) → row_names row ≡ map (λ (c : StateDecl). c.name) (items-the_row-StateDecl n row)
names_of_row n end_of-StateDecl = refl
names_of_row n (more_of-StateDecl a z b others) = ap (λ r. a ∷ r) (names_of_row _ others)

module _ (s : Spec) (h : broken_rule s ≡ None) (place : Scope) (around : Option Amount) (c : Component) (o : Inside s place around (innermost c.path))
    (body : Body) (names : c.children ≡ child_names body) (bus : map (λ (b : Bus). b.name) c.buses ≡ bus_names body)
    (children : (x : Name) → is_in x c.children ≡ true → IsState s (child_path c.path (at x 0))) (members : Each (AreMembers c.children) c.buses) where
  raises_events : (t : Transition) → transition (name_tables s) place body t ≡ [] → Each (IsEvent s) (map (instance (globals_of s) (within (innermost c.path))) t.raises)
  raises_events t k =
      let right = none_each (mentioned (name_tables s) place want.Event) t.raises (raises_right s place body t k) in
      each_map_ones (IsEvent s) (instance (globals_of s) (within (innermost c.path))) t.raises
      (λ m l. event_is s h place around (innermost c.path) o m (mentioned_is s place want.Event m (each_one (λ m. mentioned (name_tables s) place want.Event m ≡ []) t.raises m right l)))

  transition_scoped : (n : ℕ) (t : Transition) → transition (name_tables s) place body t ≡ [] → Each (IsScopedTransition s) (map (new_transition (globals_of s) c (n, t)) (sources c t.source))
  transition_scoped n t k =
      let source : (is_in t.source c.children || is_in t.source (map (λ (b : Bus). b.name) c.buses)) ≡ true =
      ap (λ z. is_in t.source z || is_in t.source (map (λ (b : Bus). b.name) c.buses)) names ∙ ap (λ z. is_in t.source (child_names body) || is_in t.source z) bus ∙ source_right s place body t k in
      let are = sources_are c t.source members source in
      let event = event_is s h place around (innermost c.path) o t.trigger (mentioned_is s place want.Event t.trigger (trigger_right s place body t k)) in
      each_map_ones (IsScopedTransition s) (new_transition (globals_of s) c (n, t)) (sources c t.source)
      (λ x m. record { source = children x (each_one (λ x. is_in x c.children ≡ true) (sources c t.source) x are m); trigger = event; raises = raises_events t k })

  pub transitions_scoped : Each (λ t. transition (name_tables s) place body t ≡ []) c.transitions → Each (IsScopedTransition s) (transitions_of (globals_of s) c)
  transitions_scoped k = each_numbered_flat (IsScopedTransition s) (λ t. map (new_transition (globals_of s) c t) (sources c t.1.source)) 1 c.transitions
      (λ n t m. transition_scoped n t (each_one (λ t. transition (name_tables s) place body t ≡ []) c.transitions t k m))
