-- No two children of a component have one name.
use Rattle.std.proofs.Common.{◌≡◌, ℕ, zero, suc, Bool, true, false, List, [], ◌∷◌, ◌++◌, flat_map, Option, Some, None, refl, sym, ap, subst, slice_get}
use Rattle.std.proofs.lemmas.Option.{same_Some}
use Rattle.rsml_syntax.specs.declared.syntax.Spec.{Spec}
use Rattle.rsml_syntax.specs.declared.syntax.Amount.{Amount}
use Rattle.rsml_syntax.specs.declared.syntax.Body.{Body, Basic, One', All', Row_of-StateDecl, end_of-StateDecl, more_of-StateDecl}
use Rattle.rsml_syntax.specs.text.Names.{Name, is_in}
use Rattle.rsml_syntax.specs.rules.Globals.{indices}
use Rattle.rsml_syntax.specs.grammar.Parts.{nearer, row_parts}
use Rattle.rsml_syntax.specs.grammar.Parts as part
use Rattle.rsml_syntax.specs.limits.Checked.{IsChecked}
use Rattle.rsml_meaning.specs.Words.{Each, Path, at, child_path}
use Rattle.rsml_meaning.specs.Instances.{State, Component, globals_of, new_state, row_names, row_inside, states}
use Rattle.rsml_meaning.specs.Instances as made
use Rattle.rsml_syntax.proofs.Clean.{Clean, clean_states, clean_row, each_append}
use Rattle.state_tree.proofs.Lists.{one_at, each_flat_map}
use Rattle.state_tree.proofs.Spread.{made_by, not_earlier, not_last}
use Rattle.state_tree.proofs.Goods.{each_one}

-- no name is among the earlier ones
abbrev AreNew : List Name → List Name → Type 0
AreNew earlier [] = Unit {0}
AreNew earlier (n ∷ ns) = (is_in n earlier ≡ false) × AreNew (earlier ++ (n ∷ [])) ns

row_new : (s : Spec) (n : _) (row : Row_of-StateDecl n) (in_one : Bool) (array : Option Amount) (earlier : List Name) → Each (Clean s) (row_parts in_one array earlier row) → AreNew earlier (row_names row)
row_new s n end_of-StateDecl in_one array earlier clean = tt
row_new s n (more_of-StateDecl name size body others) in_one array earlier clean =
    let r = clean_row s in_one array earlier name size body others clean.0 clean.1 in
    (r.first.new, row_new s _ others in_one array (earlier ++ (name ∷ [])) r.after)

not_before : (earlier ns : List Name) (i : ℕ) (x : Name) → AreNew earlier ns → slice_get ns i ≡ Some x → is_in x earlier ≡ false
not_before earlier [] i x h e = absurd (let no : ⊥ = cc in no)
not_before earlier (n ∷ ns) zero x h e = subst (λ y. is_in y earlier ≡ false) (same_Some n x e) h.0
not_before earlier (n ∷ ns) (suc i) x h e = not_earlier x n earlier (not_before (earlier ++ (n ∷ [])) ns i x h.1 e)

-- a name stands at one place
one_place : (earlier ns : List Name) (i j : ℕ) (x : Name) → AreNew earlier ns → slice_get ns i ≡ Some x → slice_get ns j ≡ Some x → i ≡ j
one_place earlier [] i j x h e f = absurd (let no : ⊥ = cc in no)
one_place earlier (n ∷ ns) zero zero x h e f = refl
one_place earlier (n ∷ ns) zero (suc j) x h e f = absurd (not_last x n earlier (not_before (earlier ++ (n ∷ [])) ns j x h.1 f) (sym (same_Some n x e)))
one_place earlier (n ∷ ns) (suc i) zero x h e f = absurd (not_last x n earlier (not_before (earlier ++ (n ∷ [])) ns i x h.1 e) (sym (same_Some n x f)))
one_place earlier (n ∷ ns) (suc i) (suc j) x h e f = ap suc (one_place (earlier ++ (n ∷ [])) ns i j x h.1 e f)

-- the children of a state's component have new names
abbrev HasNew : State → Type 0
HasNew x = (c : Component) → x.component ≡ Some c → AreNew [] c.children

state_new : (s : Spec) (body : Body) (array : Option Amount) (path : Path) → Each (Clean s) (part.inside array body) → HasNew (new_state body path)
state_new s Basic array path clean c e = absurd (let no : ⊥ = cc in no)
state_new s (All' shape row) array path clean c e = absurd (let no : ⊥ = cc in no)
state_new s (One' first shape row bs ts) array path clean c e =
    subst (λ (k : Component). AreNew [] k.children) (same_Some (made.new_component path first (row_names row) bs ts) c e) (row_new s _ row true array [] clean)

mutual
  body_new : (s : Spec) (body : Body) (array : Option Amount) (path : Path) → Each (Clean s) (part.inside array body) → Each HasNew (made.inside (globals_of s) body path)
  body_new s Basic array path clean = tt
  body_new s (One' first shape row bs ts) array path clean = inside_new s _ row true array [] path clean
  body_new s (All' shape row) array path clean = inside_new s _ row false array [] path clean

  inside_new : (s : Spec) (n : _) (row : Row_of-StateDecl n) (in_one : Bool) (array : Option Amount) (earlier : List Name) (path : Path) → Each (Clean s) (row_parts in_one array earlier row)
      → Each HasNew (row_inside (globals_of s) row path)
  inside_new s n end_of-StateDecl in_one array earlier path clean = tt
  inside_new s n (more_of-StateDecl name size body others) in_one array earlier path clean =
      let g = globals_of s in
      let r = clean_row s in_one array earlier name size body others clean.0 clean.1 in
      let f = made_by g name body path in
      each_append HasNew (flat_map f (indices g size)) (row_inside g others path)
      (each_flat_map HasNew f (indices g size) (λ i m. (
        state_new s body (nearer size array) (child_path path (at name i)) r.inner,
        body_new s body (nearer size array) (child_path path (at name i)) r.inner,
      )))
      (inside_new s _ others in_one array (earlier ++ (name ∷ [])) path r.after)

pub one_child : (s : Spec) → IsChecked s → (node : ℕ) (x : State) (c : Component) → slice_get (states s) node ≡ Some x → x.component ≡ Some c
    → (i j : ℕ) (name : Name) → slice_get c.children i ≡ Some name → slice_get c.children j ≡ Some name → i ≡ j
one_child s h node x c e f i j name a b =
    let k = clean_states s h.keeps.rules in
    let path = at s.top 0 ∷ [] in
    let all : Each HasNew (states s) = (state_new s s.body None path k.inner, body_new s s.body None path k.inner) in
    one_place [] c.children i j name (each_one HasNew (states s) x all (one_at (states s) node x e) c f) a b
