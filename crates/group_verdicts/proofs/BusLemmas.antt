-- In a checked specification no bus has a member twice.
use Rattle.std.proofs.Common.{◌≡◌, Bool, true, false, not, ◌||◌, cond, List, [], ◌∷◌, ◌++◌, find, flat_map, Option, Some, None, inl, inr, refl, sym, subst, true≢false}
use Rattle.std.specs.Cmp.{second_so}
use Rattle.std.specs.List.{list_all}
use Rattle.std.proofs.lemmas.Option.{same_Some}
use Rattle.rsml_syntax.specs.declared.syntax.Spec.{Spec}
use Rattle.rsml_syntax.specs.declared.syntax.Bus.{Bus}
use Rattle.rsml_syntax.specs.declared.syntax.Amount.{Amount}
use Rattle.rsml_syntax.specs.declared.syntax.Body.{Body, Basic, One', All', Row_of-StateDecl, end_of-StateDecl, more_of-StateDecl}
use Rattle.rsml_syntax.specs.text.Names.{Name, same, is_in}
use Rattle.rsml_syntax.specs.rules.Globals.{indices}
use Rattle.rsml_syntax.specs.grammar.Parts.{Closes, nearer, placed, row_parts}
use Rattle.rsml_syntax.specs.grammar.Parts as part
use Rattle.rsml_syntax.specs.rules.States.{buses, child_names, has_repeat, state_scope, transition}
use Rattle.rsml_syntax.specs.rules.Rules.{name_tables}
use Rattle.rsml_syntax.specs.limits.Checked.{IsChecked}
use Rattle.rsml_syntax.proofs.Clean.{Clean, clean_row, clean_states, each_append, no_front}
use Rattle.rsml_meaning.specs.Words.{Each, IsOne, Path, at, child_path}
use Rattle.rsml_meaning.specs.Instances.{State, Component, globals_of, new_component, new_state, row_inside, row_names, states}
use Rattle.rsml_meaning.specs.Instances as made
use Rattle.rsml_meaning.specs.Transitions.{sources}
use Rattle.rsml_meaning.proofs.rules.Components.{AreMembers, members_are}
use Rattle.state_tree.proofs.Lists.{each_flat_map}
use Rattle.state_tree.proofs.Spread.{made_by, not_earlier, not_last}
use Rattle.ground_groups.proofs.Rising.{each_one, each_so}
use Rattle.group_verdicts.proofs.PairLemmas.{ArePairs}

-- Names.

or_first : (a b : Bool) → (a || b) ≡ false → a ≡ false
or_first true b h = absurd (true≢false h)
or_first false b h = refl

or_second : (a b : Bool) → (a || b) ≡ false → b ≡ false
or_second true b h = absurd (true≢false h)
or_second false b h = h

not_so : (b : Bool) → not b ≡ true → b ≡ false
not_so true h = sym h
not_so false h = refl

none_of : (earlier names : List Name) → has_repeat earlier names ≡ false → Each (λ y. is_in y earlier ≡ false) names
none_of earlier [] h = tt
none_of earlier (x ∷ names) h = (
  or_first (is_in x earlier) (has_repeat (earlier ++ (x ∷ [])) names) h,
  each_so (λ y. is_in y (earlier ++ (x ∷ [])) ≡ false) (λ y. is_in y earlier ≡ false) names (λ y k. not_earlier y x earlier k)
      (none_of (earlier ++ (x ∷ [])) names (or_second (is_in x earlier) (has_repeat (earlier ++ (x ∷ [])) names) h)),
)

-- names of which none stands twice
names_apart : (earlier names : List Name) → has_repeat earlier names ≡ false → ArePairs (λ x y. x ≡ y → ⊥) names
names_apart earlier [] h = tt
names_apart earlier (x ∷ names) h =
    let rest = or_second (is_in x earlier) (has_repeat (earlier ++ (x ∷ [])) names) h in (
      each_so (λ y. is_in y (earlier ++ (x ∷ [])) ≡ false) (λ y. x ≡ y → ⊥) names (λ y k e. not_last y x earlier k (sym e)) (none_of (earlier ++ (x ∷ [])) names rest),
      names_apart (earlier ++ (x ∷ [])) names rest,
    )

-- Buses.

abbrev NoRepeat : Bus → Type 0
NoRepeat b = has_repeat [] b.members ≡ false

-- What is known of a state's component, if it has one.
abbrev pub IsFit : State → Type 0
IsFit x = (c : Component) → x.component ≡ Some c → (c.path ≡ x.path) × Each NoRepeat c.buses

found_is : (t : Bus → Bool) (bs : List Bus) (b : Bus) → find t bs ≡ Some b → IsOne b bs
found_is t [] b h = absurd (let no : ⊥ = cc in no)
found_is t (c ∷ bs) b h = by_test (t c) h (found_is t bs b)
  where
    by_test : (q : Bool) → cond q (Some c) (find t bs) ≡ Some b → (find t bs ≡ Some b → IsOne b bs) → IsOne b (c ∷ bs)
    by_test true e rest = inl (sym (same_Some c b e))
    by_test false e rest = inr (rest e)

-- what a source stands for, each once
pub sources_apart : (c : Component) (name : Name) → Each NoRepeat c.buses → ArePairs (λ x y. x ≡ y → ⊥) (sources c name)
sources_apart c name h = by_bus (find (λ (b : Bus). same name b.name) c.buses) refl
  where
    by_bus : (o : Option Bus) → find (λ (b : Bus). same name b.name) c.buses ≡ o → ArePairs (λ x y. x ≡ y → ⊥) (elim o [ Some b ↦ b.members | None ↦ name ∷ [] ])
    by_bus (Some b) e = names_apart [] b.members (each_one NoRepeat c.buses b h (found_is (λ (b : Bus). same name b.name) c.buses b e))
    by_bus None e = (tt, tt)

-- All states.

state_fit : (s : Spec) (name : Name) (repeated : Bool) (size around : Option Amount) (in_one : Bool) (body : Body) (path : Path) → Clean s (Closes (placed name repeated size around in_one body)) → IsFit (new_state body path)
state_fit s name repeated size around in_one Basic path closes c e = absurd (let no : ⊥ = cc in no)
state_fit s name repeated size around in_one (All' shape row) path closes c e = absurd (let no : ⊥ = cc in no)
state_fit s name repeated size around in_one (One' first shape row bs ts) path closes c e =
    let body = One' first shape row bs ts in
    let names = child_names body in
    let place = state_scope (name_tables s) (placed name repeated size around in_one body) in
    let d = new_component path first (row_names row) bs ts in
    let members = members_are names names bs (no_front (buses names names bs) (flat_map (transition (name_tables s) place body) ts) closes) in
    subst (λ (z : Component). (z.path ≡ path) × Each NoRepeat z.buses) (same_Some d c e)
    (refl, each_so (AreMembers names) NoRepeat bs (λ b k. not_so (has_repeat [] b.members) (second_so (list_all (λ m. is_in m names) b.members) (not (has_repeat [] b.members)) k)) members)

mutual
  body_fit : (s : Spec) (body : Body) (array : Option Amount) (path : Path) → Each (Clean s) (part.inside array body) → Each IsFit (made.inside (globals_of s) body path)
  body_fit s Basic array path clean = tt
  body_fit s (One' first shape row bs ts) array path clean = row_fit s _ row true array [] path clean
  body_fit s (All' shape row) array path clean = row_fit s _ row false array [] path clean

  row_fit : (s : Spec) (n : _) (row : Row_of-StateDecl n) (in_one : Bool) (array : Option Amount) (earlier : List Name) (path : Path) → Each (Clean s) (row_parts in_one array earlier row)
      → Each IsFit (row_inside (globals_of s) row path)
  row_fit s n end_of-StateDecl in_one array earlier path clean = tt
  row_fit s n (more_of-StateDecl name size body others) in_one array earlier path clean =
      let g = globals_of s in
      let r = clean_row s in_one array earlier name size body others clean.0 clean.1 in
      each_append IsFit (flat_map (made_by g name body path) (indices g size)) (row_inside g others path)
      (each_flat_map IsFit (made_by g name body path) (indices g size)
      (λ i m. (
        state_fit s name (is_in name earlier) size array in_one body (child_path path (at name i)) r.last,
        body_fit s body (nearer size array) (child_path path (at name i)) r.inner,
      )))
      (row_fit s _ others in_one array (earlier ++ (name ∷ [])) path r.after)

pub all_fit : (s : Spec) → IsChecked s → Each IsFit (states s)
all_fit s h =
    let k = clean_states s h.keeps.rules in
    (state_fit s s.top false None None false s.body (at s.top 0 ∷ []) k.closes, body_fit s s.body None (at s.top 0 ∷ []) k.inner)
