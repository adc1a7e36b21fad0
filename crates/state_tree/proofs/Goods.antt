-- Each component has at most 64 children, its path is that of its state, and its children are states.
use Rattle.std.proofs.Common.{◌≡◌, ℕ, suc, ◌≤◌, Bool, true, false, ◌&&◌, List, [], ◌∷◌, ◌++◌, map, flat_map, length, is_some, Option, Some, None, inl, inr, refl, sym, ap, ◌∙◌, subst, slice_get, true≢false, arith, nat_le}
use Rattle.std.specs.Cmp.{first_so, second_so}
use Rattle.std.proofs.lemmas.Bool.Decides.{nat_tests}
use Rattle.std.proofs.lemmas.Option.{same_Some}
use Rattle.rsml_syntax.specs.declared.syntax.Spec.{Spec}
use Rattle.rsml_syntax.specs.declared.syntax.Amount.{Amount}
use Rattle.rsml_syntax.specs.declared.syntax.StateDecl.{StateDecl}
use Rattle.rsml_syntax.specs.declared.syntax.Body.{Body, Basic, One', All', Row_of-StateDecl, end_of-StateDecl, more_of-StateDecl, items-the_row-StateDecl}
use Rattle.rsml_syntax.specs.text.Names.{Name}
use Rattle.rsml_syntax.specs.rules.Globals.{indices}
use Rattle.rsml_syntax.specs.grammar.Parts.{nearer, row_parts, children_of, default_of, is_basic}
use Rattle.rsml_syntax.specs.grammar.Parts as part
use Rattle.rsml_syntax.specs.rules.States.{is_composed}
use Rattle.rsml_syntax.specs.rules.Owners.{is_count}
use Rattle.rsml_syntax.specs.limits.Checked.{IsChecked}
use Rattle.rsml_meaning.specs.Words.{Each, IsOne, Path, at, child_path}
use Rattle.rsml_meaning.specs.Instances.{State, Component, globals_of, new_state, component_of, row_names, row_inside, states, components}
use Rattle.rsml_meaning.specs.Instances as made
use Rattle.rsml_syntax.proofs.Clean.{Clean, clean_states, clean_row, opened, each_append}
use Rattle.state_tree.proofs.Lists.{one_at, each_flat_map}
use Rattle.state_tree.proofs.Spread.{made_by}

-- the names of a row of children
pub names_of_row : (n : _) (row : Row_of-StateDecl n) → row_names row ≡ map (λ (c : StateDecl). c.name) (items-the_row-StateDecl n row)
names_of_row n end_of-StateDecl = refl
names_of_row n (more_of-StateDecl a z b others) = ap (λ r. a ∷ r) (names_of_row _ others)

-- these states are among those
abbrev AreAmong : List State → List State → Type 0
AreAmong xs ys = (x : State) → IsOne x xs → IsOne x ys

-- What is known of a component.
pub record IsGood (xs : List State) (path : Path) (c : Component) : Type 0 where
  pub here : c.path ≡ path
  pub few : length c.children ≤ 64
  pub there : (n : Name) → IsOne n c.children → (x : State) × (IsOne x xs) × (x.path ≡ child_path path (at n 0))

abbrev Good : List State → State → Type 0
Good xs x = (c : Component) → x.component ≡ Some c → IsGood xs x.path c

one_front : {A : Type 0} (x : A) (xs ys : List A) → IsOne x xs → IsOne x (xs ++ ys)
one_front x [] ys m = absurd m
one_front x (z ∷ xs) ys (inl e) = inl e
one_front x (z ∷ xs) ys (inr m) = inr (one_front x xs ys m)

one_back : {A : Type 0} (x : A) (xs ys : List A) → IsOne x ys → IsOne x (xs ++ ys)
one_back x [] ys m = m
one_back x (z ∷ xs) ys m = inr (one_back x xs ys m)

one_flat_map : {A B : Type 0} (f : A → List B) (xs : List A) (x : A) (y : B) → IsOne x xs → IsOne y (f x) → IsOne y (flat_map f xs)
one_flat_map f [] x y m k = absurd m
one_flat_map f (z ∷ xs) x y (inl e) k = one_front y (f z) (flat_map f xs) (subst (λ a. IsOne y (f a)) e k)
one_flat_map f (z ∷ xs) x y (inr m) k = one_back y (f z) (flat_map f xs) (one_flat_map f xs x y m k)

-- a child of a `one` state has no size, so that its path is that of a state
children_there : (s : Spec) (array : Option Amount) (earlier : List Name) (n : _) (row : Row_of-StateDecl n) (path : Path) (x : Name) → Each (Clean s) (row_parts true array earlier row) → IsOne x (row_names row)
    → (y : State) × (IsOne y (row_inside (globals_of s) row path)) × (y.path ≡ child_path path (at x 0))
children_there s array earlier n end_of-StateDecl path x h m = absurd m
children_there s array earlier n (more_of-StateDecl name size body others) path x h (inl e) =
    let r = clean_row s true array earlier name size body others h.0 h.1 in
    let y = new_state body (child_path path (at name 0)) in
    (y, one_front y (flat_map (made_by (globals_of s) name body path) (indices (globals_of s) size)) (row_inside (globals_of s) others path) (no_size size r.first.no_array), ap (λ (z : Name). child_path path (at z 0)) (sym e))
  where
    no_size : (size : Option Amount) → (is_some size && true) ≡ false → IsOne (new_state body (child_path path (at name 0))) (flat_map (made_by (globals_of s) name body path) (indices (globals_of s) size))
    no_size None k = inl refl
    no_size (Some a) k = absurd (true≢false k)
children_there s array earlier n (more_of-StateDecl name size body others) path x h (inr m) =
    let r = clean_row s true array earlier name size body others h.0 h.1 in
    let y = children_there s array (earlier ++ (name ∷ [])) _ others path x r.after m in
    (y.0, one_back y.0 (flat_map (made_by (globals_of s) name body path) (indices (globals_of s) size)) (row_inside (globals_of s) others path) y.1, y.2)

same_length : {A B : Type 0} (f : A → B) (xs : List A) → length (map f xs) ≡ length xs
same_length f [] = refl
same_length f (x ∷ xs) = ap suc (same_length f xs)

at_most_64 : (n : ℕ) → is_count 64 n ≡ true → n ≤ 64
at_most_64 n h = let k = second_so (nat_le 1 n) (nat_le n 64) h in grind (arith, nat_tests)

state_good : (s : Spec) (xs : List State) (body : Body) (array : Option Amount) (path : Path) → is_composed body ≡ true → Each (Clean s) (part.inside array body) → AreAmong (made.inside (globals_of s) body path) xs → Good xs (new_state body path)
state_good s xs Basic array path h clean are c e = absurd (let no : ⊥ = cc in no)
state_good s xs (All' shape row) array path h clean are c e = absurd (let no : ⊥ = cc in no)
state_good s xs (One' first shape row bs ts) array path h clean are c e =
    let d = made.new_component path first (row_names row) bs ts in
    subst (λ k. IsGood xs path k) (same_Some d c e) record {
      here = refl;
      few = subst (λ n. n ≤ 64) (sym (ap length (names_of_row _ row) ∙ same_length (λ (x : StateDecl). x.name) (items-the_row-StateDecl _ row)))
          (at_most_64 (length (items-the_row-StateDecl _ row)) (first_so (is_count 64 (length (items-the_row-StateDecl _ row))) _ h));
      there = λ n m. let r = children_there s array [] _ row path n clean m in (r.0, are r.0 r.1, r.2);
    }

mutual
  body_good : (s : Spec) (xs : List State) (body : Body) (array : Option Amount) (path : Path) → Each (Clean s) (part.inside array body) → AreAmong (made.inside (globals_of s) body path) xs → Each (Good xs) (made.inside (globals_of s) body path)
  body_good s xs Basic array path clean are = tt
  body_good s xs (One' first shape row bs ts) array path clean are = row_good s xs _ row true array [] path clean are
  body_good s xs (All' shape row) array path clean are = row_good s xs _ row false array [] path clean are

  row_good : (s : Spec) (xs : List State) (n : _) (row : Row_of-StateDecl n) (in_one : Bool) (array : Option Amount) (earlier : List Name) (path : Path) → Each (Clean s) (row_parts in_one array earlier row)
      → AreAmong (row_inside (globals_of s) row path) xs → Each (Good xs) (row_inside (globals_of s) row path)
  row_good s xs n end_of-StateDecl in_one array earlier path clean are = tt
  row_good s xs n (more_of-StateDecl name size body others) in_one array earlier path clean are =
      let g = globals_of s in
      let r = clean_row s in_one array earlier name size body others clean.0 clean.1 in
      let rest = row_inside g others path in
      let f = made_by g name body path in
      each_append (Good xs) (flat_map f (indices g size)) rest
      (each_flat_map (Good xs) f (indices g size) (λ i m.
      let mine : AreAmong (f i) xs = λ y k. are y (one_front y (flat_map f (indices g size)) rest (one_flat_map f (indices g size) i y m k)) in (
        state_good s xs body (nearer size array) (child_path path (at name i)) r.first.composed r.inner (λ y k. mine y (inr k)),
        body_good s xs body (nearer size array) (child_path path (at name i)) r.inner (λ y k. mine y (inr k)),
      )))
      (row_good s xs _ others in_one array (earlier ++ (name ∷ [])) path r.after (λ y k. are y (one_back y (flat_map f (indices g size)) rest k)))

pub each_one : {A : Type 0} (P : A → Type 0) (xs : List A) (x : A) → Each P xs → IsOne x xs → P x
each_one P [] x h m = absurd m
each_one P (y ∷ ys) x h (inl e) = subst P (sym e) h.0
each_one P (y ∷ ys) x h (inr m) = each_one P ys x h.1 m

pub good_at : (s : Spec) → IsChecked s → (node : ℕ) (x : State) (c : Component) → slice_get (states s) node ≡ Some x → x.component ≡ Some c → IsGood (states s) x.path c
good_at s h node x c e =
    let k = clean_states s h.keeps.rules in
    let path = at s.top 0 ∷ [] in
    let all : Each (Good (states s)) (states s) = (
      state_good s (states s) s.body None path (opened s (part.top_of s) k.opens).composed k.inner (λ y m. inr m),
      body_good s (states s) s.body None path k.inner (λ y m. inr m),
    ) in
    each_one (Good (states s)) (states s) x all (one_at (states s) node x e) c
