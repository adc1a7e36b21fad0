-- The states of a specification that keeps the rules are a tree.
use Rattle.std.proofs.Common.{◌≡◌, ℕ, zero, suc, ◌+◌, ◌<◌, Bool, true, false, cond, List, [], ◌∷◌, ◌++◌, flat_map, Option, Some, None, is_some, inl, inr, ⊎_elim, ◌⊎◌, refl, sym, ap, ◌∙◌, subst, arith, true≢false, append_assoc, append-nil}
use Rattle.std.specs.List.{position_from, range_with_len}
use Rattle.rsml_syntax.specs.declared.syntax.Amount.{Amount}
use Rattle.rsml_syntax.specs.declared.syntax.Spec.{Spec}
use Rattle.rsml_syntax.specs.declared.syntax.Body.{Body, Basic, One', All', Row_of-StateDecl, end_of-StateDecl, more_of-StateDecl}
use Rattle.rsml_syntax.specs.limits.Checked.{IsChecked}
use Rattle.rsml_syntax.specs.text.Names.{Name, same, is_in}
use Rattle.rsml_syntax.specs.rules.Globals.{Globals, many, indices}
use Rattle.rsml_syntax.specs.grammar.Parts.{inside, row_parts, nearer}
use Rattle.rsml_syntax.specs.rules.Rules.{broken_rule}
use Rattle.rsml_meaning.specs.Words.{Path, Instance, Each, IsOne, at, child_path}
use Rattle.rsml_meaning.specs.Instances.{State, globals_of, row_names, new_state, row_inside, subtree, states}
use Rattle.rsml_meaning.specs.Instances as made
use Rattle.rsml_meaning.proofs.Same.{name_itself}
use Rattle.rsml_syntax.proofs.Clean.{Clean, clean_states, clean_row, each_append}
use Rattle.state_tree.proofs.Lists.{each_flat_map}
use Rattle.state_arrays.specs.Trees.{PathsDiffer, HasPath, IsStep, IsTree}
use Rattle.state_arrays.proofs.RangeLemmas.{range_up_to}
use Rattle.state_arrays.proofs.PathLemmas.{cancel_front}

-- Lists.

one_append : {A : Type 0} (x : A) (xs ys : List A) → IsOne x (xs ++ (ys)) → IsOne x xs ⊎ IsOne x ys
one_append x [] ys m = inr m
one_append x (z ∷ xs) ys (inl e) = inl (inl e)
one_append x (z ∷ xs) ys (inr m) = ⊎_elim (λ l. inl (inr l)) (λ r. inr r) (one_append x xs ys m)

one_front : {A : Type 0} (x : A) (xs ys : List A) → IsOne x xs → IsOne x (xs ++ ys)
one_front x [] ys m = absurd m
one_front x (z ∷ xs) ys (inl e) = inl e
one_front x (z ∷ xs) ys (inr m) = inr (one_front x xs ys m)

one_back : {A : Type 0} (x : A) (xs ys : List A) → IsOne x ys → IsOne x (xs ++ ys)
one_back x [] ys m = m
one_back x (z ∷ xs) ys m = inr (one_back x xs ys m)

one_flat_map : {A B : Type 0} (f : A → List B) (xs : List A) (x : A) (y : B) → IsOne x xs → IsOne y (f x) → IsOne y (flat_map f xs)
one_flat_map f [] x y m n = absurd m
one_flat_map f (z ∷ xs) x y (inl e) n = one_front y (f z) (flat_map f xs) (subst (λ w. IsOne y (f w)) e n)
one_flat_map f (z ∷ xs) x y (inr m) n = one_back y (f z) (flat_map f xs) (one_flat_map f xs x y m n)

each_more : {A : Type 0} (P Q : A → Type 0) → ((x : A) → P x → Q x) → (xs : List A) → Each P xs → Each Q xs
each_more P Q f [] h = tt
each_more P Q f (x ∷ xs) h = (f x h.0, each_more P Q f xs h.1)

-- the fact holds of each pair of the two lists
each_pair : {A : Type 0} (P Q : A → Type 0) (R : A → A → Type 0) → ((x y : A) → P x → Q y → R x y) → (xs ys : List A) → Each P xs → Each Q ys → Each (λ x. Each (R x) ys) xs
each_pair P Q R f [] ys p q = tt
each_pair P Q R f (x ∷ xs) ys p q = (each_more Q (R x) (λ y k. f x y p.0 k) ys q, each_pair P Q R f xs ys p.1 q)

-- Names of children.

found_one : (name : Name) (i : ℕ) (names : List Name) → IsOne name names → is_some (position_from (same name) i names) ≡ true
found_one name i [] m = absurd m
found_one name i (n ∷ names) (inl e) = ap (λ (b : Bool). is_some (cond b (Some i) (position_from (same name) (i + 1) names))) (ap (same name) (sym e) ∙ name_itself name)
found_one name i (n ∷ names) (inr m) = by (same name n) (found_one name (i + 1) names m)
  where
    by : (b : Bool) → is_some (position_from (same name) (i + 1) names) ≡ true → is_some (cond b (Some i) (position_from (same name) (i + 1) names)) ≡ true
    by true k = refl
    by false k = k

-- no later child has the name of an earlier one
none_again : (s : Spec) (in_one : Bool) (array : Option Amount) (earlier : List Name) (name : Name) (n : _) (row : Row_of-StateDecl n) → Each (Clean s) (row_parts in_one array earlier row) → IsOne name earlier
    → IsOne name (row_names row) → ⊥
none_again s in_one array earlier name n end_of-StateDecl h m k = k
none_again s in_one array earlier name n (more_of-StateDecl x size body others) h m (inl e) =
    let r = clean_row s in_one array earlier x size body others h.0 h.1 in
    true≢false (sym (found_one name 0 earlier m) ∙ ap (λ z. is_in z earlier) e ∙ r.first.new)
none_again s in_one array earlier name n (more_of-StateDecl x size body others) h m (inr k) =
    let r = clean_row s in_one array earlier x size body others h.0 h.1 in
    none_again s in_one array (earlier ++ (x ∷ [])) name _ others r.after (one_front name earlier (x ∷ []) m) k

-- Paths below a path.

-- The path goes on from this one by a step of this kind.
record GoesOn (path : Path) (P : Instance → Type 0) (p : Path) : Type 0 where
  step : Instance
  rest : Path
  is : p ≡ path ++ (step ∷ rest)
  kind : P step

-- paths that go on by steps of two kinds differ
go_apart : (path : Path) (P Q : Instance → Type 0) → ((x : Instance) → P x → Q x → ⊥) → (p q : Path) → GoesOn path P p → GoesOn path Q q → p ≡ q → ⊥
go_apart path P Q apart p q a b e =
    let f = cancel_front path (a.step ∷ a.rest) (b.step ∷ b.rest) (sym a.is ∙ e ∙ b.is) in
    let g : a.step ≡ b.step = cc in
    apart b.step (subst P g a.kind) b.kind

-- a path differs from those that go on from it
not_itself : (path : Path) (P : Instance → Type 0) (p : Path) → GoesOn path P p → path ≡ p → ⊥
not_itself path P p a e = let f = cancel_front path [] (a.step ∷ a.rest) (append-nil path ∙ e ∙ a.is) in let none : ⊥ = cc in none

-- the kinds of steps: one that is this one, or one whose name is among these
abbrev IsThis : Instance → Instance → Type 0
IsThis x y = y ≡ x

abbrev Names : List Name → Instance → Type 0
Names names x = IsOne x.name names

-- the states at the indices of a child
abbrev made_by : Globals → Path → Name → Body → ℕ → List State
made_by g path name body i = subtree g body (child_path path (at name i))

mutual
  inside_goes : (g : Globals) (body : Body) (path : Path) → Each (λ x. GoesOn path (λ y. Unit {0}) x.path) (made.inside g body path)
  inside_goes g Basic path = tt
  inside_goes g (One' first _ row buses transitions) path = each_more (λ x. GoesOn path (Names (row_names row)) x.path) (λ x. GoesOn path (λ y. Unit {0}) x.path) (λ x r. record { step = r.step; rest = r.rest; is = r.is; kind = tt }) (row_inside g row path) (row_goes g _ row path)
  inside_goes g (All' _ row) path = each_more (λ x. GoesOn path (Names (row_names row)) x.path) (λ x. GoesOn path (λ y. Unit {0}) x.path) (λ x r. record { step = r.step; rest = r.rest; is = r.is; kind = tt }) (row_inside g row path) (row_goes g _ row path)

  row_goes : (g : Globals) (n : _) (row : Row_of-StateDecl n) (path : Path) → Each (λ x. GoesOn path (Names (row_names row)) x.path) (row_inside g row path)
  row_goes g n end_of-StateDecl path = tt
  row_goes g n (more_of-StateDecl name size body others) path =
      each_append (λ x. GoesOn path (Names (name ∷ row_names others)) x.path) (flat_map (made_by g path name body) (indices g size)) (row_inside g others path)
      (each_flat_map (λ x. GoesOn path (Names (name ∷ row_names others)) x.path) (made_by g path name body) (indices g size) (λ i m. (
        record { step = at name i; rest = []; is = refl; kind = inl refl },
        each_more (λ x. GoesOn (child_path path (at name i)) (λ y. Unit {0}) x.path) (λ x. GoesOn path (Names (name ∷ row_names others)) x.path)
            (λ x r. record { step = at name i; rest = r.step ∷ r.rest; is = r.is ∙ append_assoc path (at name i ∷ []) (r.step ∷ r.rest); kind = inl refl })
            (made.inside g body (child_path path (at name i))) (inside_goes g body (child_path path (at name i))),
      )))
      (each_more (λ x. GoesOn path (Names (row_names others)) x.path) (λ x. GoesOn path (Names (name ∷ row_names others)) x.path) (λ x r. record { step = r.step; rest = r.rest; is = r.is; kind = inr r.kind }) (row_inside g others path) (row_goes g _ others path))

-- the states of one instance go on by it
made_goes : (g : Globals) (path : Path) (name : Name) (body : Body) (i : ℕ) → Each (λ x. GoesOn path (IsThis (at name i)) x.path) (made_by g path name body i)
made_goes g path name body i = (
  record { step = at name i; rest = []; is = refl; kind = refl },
  each_more (λ x. GoesOn (child_path path (at name i)) (λ y. Unit {0}) x.path) (λ x. GoesOn path (IsThis (at name i)) x.path)
      (λ x r. record { step = at name i; rest = r.step ∷ r.rest; is = r.is ∙ append_assoc path (at name i ∷ []) (r.step ∷ r.rest); kind = refl })
      (made.inside g body (child_path path (at name i))) (inside_goes g body (child_path path (at name i))),
)

-- Paths that differ.

differ_append : (xs ys : List State) → PathsDiffer xs → PathsDiffer ys → Each (λ x. Each (λ y. x.path ≡ y.path → ⊥) ys) xs → PathsDiffer (xs ++ ys)
differ_append [] ys p q r = q
differ_append (x ∷ xs) ys p q r = (each_append (λ y. x.path ≡ y.path → ⊥) xs ys p.0 r.0, differ_append xs ys p.1 q r.1)

module _ (g : Globals) (path : Path) (name : Name) (body : Body) where
  range_goes : (low first n : ℕ) → low < first → Each (λ x. GoesOn path (λ y. low < y.index) x.path) (flat_map (made_by g path name body) (range_with_len first n))
  range_goes low first zero h = tt
  range_goes low first (suc n) h =
      each_append (λ x. GoesOn path (λ y. low < y.index) x.path) (made_by g path name body first) (flat_map (made_by g path name body) (range_with_len (first + 1) n))
      (each_more (λ x. GoesOn path (IsThis (at name first)) x.path) (λ x. GoesOn path (λ y. low < y.index) x.path)
      (λ x r. record { step = r.step; rest = r.rest; is = r.is; kind = subst (λ (y : Instance). low < y.index) (sym r.kind) h })
      (made_by g path name body first) (made_goes g path name body first))
      (range_goes low (first + 1) n (omega (arith, h)))

  range_differs : ((i : ℕ) → PathsDiffer (made_by g path name body i)) → (low n : ℕ) → PathsDiffer (flat_map (made_by g path name body) (range_with_len low n))
  range_differs h low zero = tt
  range_differs h low (suc n) =
      differ_append (made_by g path name body low) (flat_map (made_by g path name body) (range_with_len (low + 1) n)) (h low) (range_differs h (low + 1) n)
      (each_pair (λ (x : State). GoesOn path (IsThis (at name low)) x.path) (λ (x : State). GoesOn path (λ y. low < y.index) x.path) (λ (x y : State). x.path ≡ y.path → ⊥)
      (λ x y a b. go_apart path (IsThis (at name low)) (λ z. low < z.index) (λ z e l. let f = ap (λ (w : Instance). w.index) e in let none : ⊥ = omega (arith, f, l) in none) x.path y.path a b)
      (made_by g path name body low) (flat_map (made_by g path name body) (range_with_len (low + 1) n)) (made_goes g path name body low) (range_goes low (low + 1) n (omega arith)))

  indices_differ : ((i : ℕ) → PathsDiffer (made_by g path name body i)) → (size : Option Amount) → PathsDiffer (flat_map (made_by g path name body) (indices g size))
  indices_differ h None = range_differs h 0 1
  indices_differ h (Some amount) = subst (λ is. PathsDiffer (flat_map (made_by g path name body) is)) (range_up_to (many g (Some amount))) (range_differs h 1 (many g (Some amount)))

  indices_go : (size : Option Amount) → Each (λ x. GoesOn path (λ y. y.name ≡ name) x.path) (flat_map (made_by g path name body) (indices g size))
  indices_go size = each_flat_map (λ x. GoesOn path (λ y. y.name ≡ name) x.path) (made_by g path name body) (indices g size) (λ i m.
      each_more (λ x. GoesOn path (IsThis (at name i)) x.path) (λ x. GoesOn path (λ y. y.name ≡ name) x.path)
      (λ x r. record { step = r.step; rest = r.rest; is = r.is; kind = ap (λ (y : Instance). y.name) r.kind })
      (made_by g path name body i) (made_goes g path name body i))

-- a state and what is inside it
subtree_differs : (g : Globals) (body : Body) (path : Path) → PathsDiffer (made.inside g body path) → PathsDiffer (subtree g body path)
subtree_differs g body path h = (
  each_more (λ x. GoesOn path (λ y. Unit {0}) x.path) (λ y. path ≡ y.path → ⊥) (λ x r. not_itself path (λ y. Unit {0}) x.path r) (made.inside g body path) (inside_goes g body path),
  h,
)

mutual
  inside_differs : (s : Spec) (body : Body) (array : Option Amount) (path : Path) → Each (Clean s) (inside array body) → PathsDiffer (made.inside (globals_of s) body path)
  inside_differs s Basic array path h = tt
  inside_differs s (One' first _ row buses transitions) array path h = row_differs s _ row true array [] path h
  inside_differs s (All' _ row) array path h = row_differs s _ row false array [] path h

  row_differs : (s : Spec) (n : _) (row : Row_of-StateDecl n) (in_one : Bool) (array : Option Amount) (earlier : List Name) (path : Path) → Each (Clean s) (row_parts in_one array earlier row)
      → PathsDiffer (row_inside (globals_of s) row path)
  row_differs s n end_of-StateDecl in_one array earlier path h = tt
  row_differs s n (more_of-StateDecl name size body others) in_one array earlier path h =
      let g = globals_of s in
      let r = clean_row s in_one array earlier name size body others h.0 h.1 in
      differ_append (flat_map (made_by g path name body) (indices g size)) (row_inside g others path)
      (indices_differ g path name body (λ i. subtree_differs g body (child_path path (at name i)) (inside_differs s body (nearer size array) (child_path path (at name i)) r.inner)) size)
      (row_differs s _ others in_one array (earlier ++ (name ∷ [])) path r.after)
      (each_pair (λ (x : State). GoesOn path (λ y. y.name ≡ name) x.path) (λ (x : State). GoesOn path (Names (row_names others)) x.path) (λ (x y : State). x.path ≡ y.path → ⊥)
      (λ x y a b. go_apart path (λ z. z.name ≡ name) (Names (row_names others)) (λ z e k. none_again s in_one array (earlier ++ (name ∷ [])) name _ others r.after (one_back name earlier (name ∷ []) (inl refl)) (subst (λ w. IsOne w (row_names others)) e k)) x.path y.path a b)
      (flat_map (made_by g path name body) (indices g size)) (row_inside g others path) (indices_go g path name body size) (row_goes g _ others path))

-- Around each state is another.

one_path : (x : State) (xs : List State) → IsOne x xs → HasPath xs x.path
one_path x [] m = absurd m
one_path x (y ∷ xs) (inl e) = (0, ap (λ (z : State). Some z.path) (sym e))
one_path x (y ∷ xs) (inr m) = let r = one_path x xs m in (suc r.0, r.1)

module _ (all : List State) (g : Globals) where
  mutual
    inside_steps : (body : Body) (path : Path) → HasPath all path → ((x : State) → IsOne x (made.inside g body path) → HasPath all x.path) → Each (λ x. IsStep all x.path) (made.inside g body path)
    inside_steps Basic path h are = tt
    inside_steps (One' first _ row buses transitions) path h are = row_steps _ row path h are
    inside_steps (All' _ row) path h are = row_steps _ row path h are

    row_steps : (n : _) (row : Row_of-StateDecl n) (path : Path) → HasPath all path → ((x : State) → IsOne x (row_inside g row path) → HasPath all x.path) → Each (λ x. IsStep all x.path) (row_inside g row path)
    row_steps n end_of-StateDecl path h are = tt
    row_steps n (more_of-StateDecl name size body others) path h are =
        each_append (λ x. IsStep all x.path) (flat_map (made_by g path name body) (indices g size)) (row_inside g others path)
        (each_flat_map (λ x. IsStep all x.path) (made_by g path name body) (indices g size) (λ i m.
        let here = child_path path (at name i) in
        let mine = λ (x : State) (k : IsOne x (made_by g path name body i)). are x (one_front x (flat_map (made_by g path name body) (indices g size)) (row_inside g others path) (one_flat_map (made_by g path name body) (indices g size) i x m k)) in (
          record { above = path; step = at name i; is = refl; around = inr h },
          inside_steps body here (mine (new_state body here) (inl refl)) (λ x k. mine x (inr k)),
        )))
        (row_steps _ others path h (λ x k. are x (one_back x (flat_map (made_by g path name body) (indices g size)) (row_inside g others path) k)))

tree_of : (s : Spec) → broken_rule s ≡ None → IsTree (states s)
tree_of s h =
    let g = globals_of s in
    let top = at s.top 0 ∷ [] in
    record {
      differ = subtree_differs g s.body top (inside_differs s s.body None top (clean_states s h).inner);
      steps = (
        record { above = []; step = at s.top 0; is = refl; around = inl refl },
        inside_steps (states s) g s.body top (0, refl) (λ x m. one_path x (states s) (inr m)),
      );
    }

pub tree_by : (xs : List State) (s : Spec) → IsChecked s → xs ≡ states s → IsTree xs
tree_by xs s c e = subst IsTree (sym e) (tree_of s c.keeps.rules)
