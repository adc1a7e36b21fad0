-- The states in one state stand together, the state itself as the first of them.
use Rattle.std.proofs.Common.{◌≡◌, ℕ, zero, suc, ◌+◌, ◌<◌, ◌≤◌, Bool, true, false, cond, ◌&&◌, ◌||◌, List, [], ◌∷◌, ◌++◌, flat_map, length, is_some, Option, Some, None, ◌⊎◌, inl, inr, ⊎_elim, refl, sym, ap, ◌∙◌, subst, slice_get, true≢false, append_assoc, append-nil, arith, nat_le, nat_lt}
use Rattle.std.proofs.lemmas.Bool.Decides.{nat_tests}
use Rattle.std.proofs.lemmas.Option.{same_Some}
use Rattle.std.specs.List.{list_any, position_from}
use Rattle.rsml_syntax.specs.declared.syntax.Spec.{Spec}
use Rattle.rsml_syntax.specs.declared.syntax.Amount.{Amount}
use Rattle.rsml_syntax.specs.declared.syntax.Body.{Body, Basic, One', All', Row_of-StateDecl, end_of-StateDecl, more_of-StateDecl}
use Rattle.rsml_syntax.specs.declared.world.Step.{Step}
use Rattle.rsml_syntax.specs.text.Names.{Name, same, is_in}
use Rattle.rsml_syntax.specs.rules.Globals.{Globals, indices, many, up_to}
use Rattle.rsml_syntax.specs.grammar.Parts.{nearer, row_parts}
use Rattle.rsml_syntax.specs.grammar.Parts as part
use Rattle.rsml_syntax.specs.limits.Checked.{IsChecked}
use Rattle.rsml_meaning.specs.Words.{Each, IsOne, Path, at, child_path, is_prefix}
use Rattle.rsml_meaning.specs.Instances.{State, globals_of, new_state, row_inside, subtree, states}
use Rattle.rsml_meaning.specs.Instances as made
use Rattle.rsml_meaning.proofs.Same.{name_itself}
use Rattle.state_tree.specs.nodes.Numbers.{paths}
use Rattle.rsml_syntax.proofs.Clean.{Clean, clean_states, clean_row, each_append}
use Rattle.rsml_meaning.proofs.Prefixes.{prefix_append, prefix_self, prefix_length, parted, longer}
use Rattle.state_tree.proofs.Lists.{one_at, get_of_map, each_flat_map, not_true}

-- Names in lists.

found_is_any : (t : Name → Bool) (names : List Name) (i : ℕ) → is_some (position_from t i names) ≡ list_any t names
found_is_any t [] i = refl
found_is_any t (x ∷ names) i = by_test (t x) (found_is_any t names (i + 1))
  where
    by_test : (b : Bool) → is_some (position_from t (i + 1) names) ≡ list_any t names → is_some (cond b (Some i) (position_from t (i + 1) names)) ≡ (b || list_any t names)
    by_test true e = refl
    by_test false e = e

any_front : (t : Name → Bool) (xs ys : List Name) → list_any t xs ≡ true → list_any t (xs ++ ys) ≡ true
any_front t [] ys h = absurd (true≢false (sym h))
any_front t (x ∷ xs) ys h = by_test (t x) h (any_front t xs ys)
  where
    by_test : (b : Bool) → (b || list_any t xs) ≡ true → (list_any t xs ≡ true → list_any t (xs ++ ys) ≡ true) → (b || list_any t (xs ++ ys)) ≡ true
    by_test true k f = refl
    by_test false k f = f k

any_last : (t : Name → Bool) (xs : List Name) (y : Name) → t y ≡ true → list_any t (xs ++ y ∷ []) ≡ true
any_last t [] y h = ap (λ b. b || false) h
any_last t (x ∷ xs) y h = by_test (t x) (any_last t xs y h)
  where
    by_test : (b : Bool) → list_any t (xs ++ y ∷ []) ≡ true → (b || list_any t (xs ++ y ∷ [])) ≡ true
    by_test true k = refl
    by_test false k = k

pub not_earlier : (n name : Name) (earlier : List Name) → is_in n (earlier ++ (name ∷ [])) ≡ false → is_in n earlier ≡ false
not_earlier n name earlier h = not_true (is_in n earlier) (λ k. true≢false (sym (found_is_any (same n) (earlier ++ (name ∷ [])) 0 ∙ any_front (same n) earlier (name ∷ []) (sym (found_is_any (same n) earlier 0) ∙ k)) ∙ h))

pub not_last : (n name : Name) (earlier : List Name) → is_in n (earlier ++ (name ∷ [])) ≡ false → n ≡ name → ⊥
not_last n name earlier h e = true≢false (sym (found_is_any (same n) (earlier ++ (name ∷ [])) 0 ∙ any_last (same n) earlier name (subst (λ z. same n z ≡ true) e (name_itself n))) ∙ h)

-- Where paths begin.

-- the state is in the one of this path
abbrev pub Strictly : Path → State → Type 0
Strictly p x = (y : Step) × (r : Path) × (x.path ≡ p ++ (y ∷ r))

-- the state is not in the one of this path
abbrev pub Outside : Path → State → Type 0
Outside p x = is_prefix p x.path ≡ false

-- the state is this child, or in it
abbrev InChild : Path → Step → State → Type 0
InChild p step x = (r : Path) × (x.path ≡ p ++ (step ∷ r))

-- the state is a child with none of these names, or in it
abbrev Later : Path → List Name → State → Type 0
Later p earlier x = (n : Name) × (i : ℕ) × (InChild p (at n i) x) × (is_in n earlier ≡ false)

each_more : {A : Type 0} (P Q : A → Type 0) → ((x : A) → P x → Q x) → (xs : List A) → Each P xs → Each Q xs
each_more P Q f [] h = tt
each_more P Q f (x ∷ xs) h = (f x h.0, each_more P Q f xs h.1)

each_one : {A : Type 0} (P : A → Type 0) (xs : List A) (x : A) → Each P xs → IsOne x xs → P x
each_one P [] x h m = absurd m
each_one P (y ∷ ys) x h (inl e) = subst P (sym e) h.0
each_one P (y ∷ ys) x h (inr m) = each_one P ys x h.1 m

abbrev pub made_by : Globals → Name → Body → Path → ℕ → List State
made_by g name body path i = new_state body (child_path path (at name i)) ∷ made.inside g body (child_path path (at name i))

below_child : (p : Path) (step : Step) (x : State) → Strictly (child_path p step) x → InChild p step x
below_child p step x h = (h.0 ∷ h.1, h.2 ∙ append_assoc p (step ∷ []) (h.0 ∷ h.1))

-- an instance of a child with what is inside it
in_instance : (g : Globals) (name : Name) (body : Body) (p : Path) (i : ℕ) → Each (Strictly (child_path p (at name i))) (made.inside g body (child_path p (at name i))) → Each (InChild p (at name i)) (made_by g name body p i)
in_instance g name body p i h = (([], refl), each_more (Strictly (child_path p (at name i))) (InChild p (at name i)) (below_child p (at name i)) (made.inside g body (child_path p (at name i))) h)

mutual
  pub body_below : (s : Spec) (body : Body) (array : Option Amount) (path : Path) → Each (Clean s) (part.inside array body) → Each (Strictly path) (made.inside (globals_of s) body path)
  body_below s Basic array path clean = tt
  body_below s (One' first shape row bs ts) array path clean = each_more (Later path []) (Strictly path) (λ x l. (at l.0 l.1, l.2.0, l.2.1)) (row_inside (globals_of s) row path) (row_later s _ row true array [] path clean)
  body_below s (All' shape row) array path clean = each_more (Later path []) (Strictly path) (λ x l. (at l.0 l.1, l.2.0, l.2.1)) (row_inside (globals_of s) row path) (row_later s _ row false array [] path clean)

  pub row_later : (s : Spec) (n : _) (row : Row_of-StateDecl n) (in_one : Bool) (array : Option Amount) (earlier : List Name) (path : Path) → Each (Clean s) (row_parts in_one array earlier row)
      → Each (Later path earlier) (row_inside (globals_of s) row path)
  row_later s n end_of-StateDecl in_one array earlier path clean = tt
  row_later s n (more_of-StateDecl name size body others) in_one array earlier path clean =
      let g = globals_of s in
      let r = clean_row s in_one array earlier name size body others clean.0 clean.1 in
      each_append (Later path earlier) (flat_map (made_by g name body path) (indices g size)) (row_inside g others path)
      (each_flat_map (Later path earlier) (made_by g name body path) (indices g size)
      (λ i m. each_more (InChild path (at name i)) (Later path earlier) (λ x h. (name, i, h, r.first.new)) (made_by g name body path i)
      (in_instance g name body path i (body_below s body (nearer size array) (child_path path (at name i)) r.inner))))
      (each_more (Later path (earlier ++ (name ∷ []))) (Later path earlier) (λ x l. (l.0, l.1, l.2, not_earlier l.0 name earlier l.3)) (row_inside g others path)
      (row_later s _ others in_one array (earlier ++ (name ∷ [])) path r.after))

-- Stretches.

-- The states in the one of a path stand together, it is the first of them, and its body makes the others.
pub record Stretch (g : Globals) (p : Path) (xs : List State) : Type 0 where
  pub before : List State
  pub first : State
  pub inner : List State
  pub after : List State
  pub is : xs ≡ before ++ (first ∷ (inner ++ after))
  pub here : first.path ≡ p
  pub outside : Each (Outside p) before
  pub strictly : Each (Strictly p) inner
  pub past : Each (Outside p) after
  pub whole : inner ≡ made.inside g first.body p

widen : (g : Globals) (p : Path) (us ys vs : List State) → Each (Outside p) us → Each (Outside p) vs → Stretch g p ys → Stretch g p (us ++ (ys ++ vs))
widen g p us ys vs a b h = record {
  before = us ++ h.before;
  first = h.first;
  inner = h.inner;
  after = h.after ++ vs;
  is = ap (λ zs. us ++ (zs ++ vs)) h.is
      ∙ ap (λ zs. us ++ zs) (append_assoc h.before (h.first ∷ (h.inner ++ h.after)) vs ∙ ap (λ zs. h.before ++ (h.first ∷ zs)) (append_assoc h.inner h.after vs))
      ∙ sym (append_assoc us h.before (h.first ∷ (h.inner ++ (h.after ++ vs))));
  here = h.here;
  outside = each_append (Outside p) us h.before a h.outside;
  strictly = h.strictly;
  past = each_append (Outside p) h.after vs h.past b;
  whole = h.whole;
}

-- each state has its stretch
abbrev Stretches : Globals → List State → Type 0
Stretches g xs = (x : State) → IsOne x xs → Stretch g x.path xs

-- what is in one child is outside what is in another
apart : (p : Path) (a b : Step) (x y : State) → (a ≡ b → ⊥) → InChild p a x → InChild p b y → Outside x.path y
apart p a b x y differ h k = ap (λ z. is_prefix z y.path) h.1 ∙ ap (λ z. is_prefix (p ++ (a ∷ h.0)) z) k.1 ∙ parted p a b h.0 k.0 differ

one_of_append : {A : Type 0} (x : A) (xs ys : List A) → IsOne x (xs ++ ys) → IsOne x xs ⊎ IsOne x ys
one_of_append x [] ys m = inr m
one_of_append x (z ∷ xs) ys (inl e) = inl (inl e)
one_of_append x (z ∷ xs) ys (inr m) = ⊎_elim (λ l. inl (inr l)) (λ r. inr r) (one_of_append x xs ys m)

-- a state with what is inside it
subtree_stretches : (g : Globals) (x : State) (xs : List State) → Each (Strictly x.path) xs → xs ≡ made.inside g x.body x.path → Stretches g xs → Stretches g (x ∷ xs)
subtree_stretches g x xs below makes inner y (inl e) = subst (λ z. Stretch g z.path (x ∷ xs)) (sym e)
    record { before = []; first = x; inner = xs; after = []; is = ap (λ zs. x ∷ zs) (sym (append-nil xs)); here = refl; outside = tt; strictly = below; past = tt; whole = makes }
subtree_stretches g x xs below makes inner y (inr m) =
    let b = each_one (Strictly x.path) xs y below m in
    let outside : Outside y.path x = not_true (is_prefix y.path x.path) (λ h. let l = prefix_length y.path x.path h in let k = longer x.path b.0 b.1 in let e = ap length b.2 in omega (arith, l, k, e)) in
    subst (λ zs. Stretch g y.path (x ∷ zs)) (append-nil xs) (widen g y.path (x ∷ []) xs [] (outside, tt) tt (inner y m))

-- no two are the same
abbrev Distinct : List ℕ → Type 0
Distinct [] = Unit {0}
Distinct (i ∷ is) = Each (λ j. i ≡ j → ⊥) is × Distinct is

distinct_push : (is : List ℕ) (k : ℕ) → Each (λ j. j ≡ k → ⊥) is → Distinct is → Distinct (is ++ (k ∷ []))
distinct_push [] k h d = (tt, tt)
distinct_push (i ∷ is) k h d = (each_append (λ j. i ≡ j → ⊥) is (k ∷ []) d.0 (h.0, tt), distinct_push is k h.1 d.1)

below_up_to : (n m : ℕ) → n ≤ m → Each (λ j. j ≡ suc m → ⊥) (up_to n)
below_up_to zero m l = tt
below_up_to (suc n) m l = each_append (λ j. j ≡ suc m → ⊥) (up_to n) (suc n ∷ []) (below_up_to n m (omega (arith, l))) ((λ e. omega (arith, e, l)), tt)

distinct_up_to : (n : ℕ) → Distinct (up_to n)
distinct_up_to zero = tt
distinct_up_to (suc n) = distinct_push (up_to n) (suc n) (below_up_to n n (omega arith)) (distinct_up_to n)

distinct_indices : (g : Globals) (size : Option Amount) → Distinct (indices g size)
distinct_indices g None = (tt, tt)
distinct_indices g (Some a) = distinct_up_to (many g (Some a))

-- the instances of a child
array_stretches : (g : Globals) (f : ℕ → List State) (p : Path) (name : Name) (is : List ℕ) → Distinct is → ((i : ℕ) → Each (InChild p (at name i)) (f i)) → ((i : ℕ) → Stretches g (f i)) → Stretches g (flat_map f is)
array_stretches g f p name [] d own inner x m = absurd m
array_stretches g f p name (i ∷ is) d own inner x m = ⊎_elim
    (λ k. widen g x.path [] (f i) (flat_map f is) tt (others x (each_one (InChild p (at name i)) (f i) x (own i) k) is d.0) (inner i x k))
    (λ k. subst (λ zs. Stretch g x.path (f i ++ zs)) (append-nil (flat_map f is)) (widen g x.path (f i) (flat_map f is) [] (back x k) tt (array_stretches g f p name is d.1 own inner x k)))
    (one_of_append x (f i) (flat_map f is) m)
  where
    others : (x : State) → InChild p (at name i) x → (is : List ℕ) → Each (λ j. i ≡ j → ⊥) is → Each (Outside x.path) (flat_map f is)
    others x h [] d = tt
    others x h (j ∷ is) d = each_append (Outside x.path) (f j) (flat_map f is)
        (each_more (InChild p (at name j)) (Outside x.path) (λ y k. apart p (at name i) (at name j) x y (λ e. d.0 (ap (λ (z : Step). z.index) e)) h k) (f j) (own j)) (others x h is d.1)

    from : (x : State) (is : List ℕ) → Each (λ j. i ≡ j → ⊥) is → IsOne x (flat_map f is) → (j : ℕ) × (i ≡ j → ⊥) × InChild p (at name j) x
    from x [] d k = absurd k
    from x (j ∷ is) d k = ⊎_elim (λ l. (j, d.0, each_one (InChild p (at name j)) (f j) x (own j) l)) (λ l. from x is d.1 l) (one_of_append x (f j) (flat_map f is) k)

    back : (x : State) → IsOne x (flat_map f is) → Each (Outside x.path) (f i)
    back x k = let r = from x is d.0 k in
        each_more (InChild p (at name i)) (Outside x.path) (λ y h. apart p (at name r.0) (at name i) x y (λ e. r.1 (sym (ap (λ (z : Step). z.index) e))) r.2 h) (f i) (own i)

-- children of one name, and those of other names
two_stretches : (g : Globals) (p : Path) (name : Name) (xs ys : List State) (earlier : List Name) → Each (λ x. (i : ℕ) × InChild p (at name i) x) xs → Each (Later p (earlier ++ (name ∷ []))) ys → Stretches g xs → Stretches g ys → Stretches g (xs ++ ys)
two_stretches g p name xs ys earlier own later a b x m = ⊎_elim
    (λ k. let h = each_one (λ x. (i : ℕ) × InChild p (at name i) x) xs x own k in
    widen g x.path [] xs ys tt (each_more (Later p (earlier ++ (name ∷ []))) (Outside x.path) (λ y l. apart p (at name h.0) (at l.0 l.1) x y (λ e. not_last l.0 name earlier l.3 (sym (ap (λ (z : Step). z.name) e))) h.1 l.2) ys later) (a x k))
    (λ k. let l = each_one (Later p (earlier ++ (name ∷ []))) ys x later k in
    subst (λ zs. Stretch g x.path (xs ++ zs)) (append-nil ys)
    (widen g x.path xs ys [] (each_more (λ x. (i : ℕ) × InChild p (at name i) x) (Outside x.path) (λ y h. apart p (at l.0 l.1) (at name h.0) x y (λ e. not_last l.0 name earlier l.3 (ap (λ (z : Step). z.name) e)) l.2 h.1) xs own) tt (b x k)))
    (one_of_append x xs ys m)

mutual
  body_stretches : (s : Spec) (body : Body) (array : Option Amount) (path : Path) → Each (Clean s) (part.inside array body) → Stretches (globals_of s) (made.inside (globals_of s) body path)
  body_stretches s Basic array path clean = λ x m. absurd m
  body_stretches s (One' first shape row bs ts) array path clean = row_stretches s _ row true array [] path clean
  body_stretches s (All' shape row) array path clean = row_stretches s _ row false array [] path clean

  row_stretches : (s : Spec) (n : _) (row : Row_of-StateDecl n) (in_one : Bool) (array : Option Amount) (earlier : List Name) (path : Path) → Each (Clean s) (row_parts in_one array earlier row)
      → Stretches (globals_of s) (row_inside (globals_of s) row path)
  row_stretches s n end_of-StateDecl in_one array earlier path clean = λ x m. absurd m
  row_stretches s n (more_of-StateDecl name size body others) in_one array earlier path clean =
      let g = globals_of s in
      let r = clean_row s in_one array earlier name size body others clean.0 clean.1 in
      let below = λ (i : ℕ). body_below s body (nearer size array) (child_path path (at name i)) r.inner in
      two_stretches g path name (flat_map (made_by g name body path) (indices g size)) (row_inside g others path) earlier
      (each_flat_map (λ x. (i : ℕ) × InChild path (at name i) x) (made_by g name body path) (indices g size)
      (λ i m. each_more (InChild path (at name i)) (λ x. (i : ℕ) × InChild path (at name i) x) (λ x h. (i, h)) (made_by g name body path i) (in_instance g name body path i (below i))))
      (row_later s _ others in_one array (earlier ++ (name ∷ [])) path r.after)
      (array_stretches g (made_by g name body path) path name (indices g size) (distinct_indices g size) (λ i. in_instance g name body path i (below i))
      (λ i. subtree_stretches g (new_state body (child_path path (at name i))) (made.inside g body (child_path path (at name i))) (below i) refl (body_stretches s body (nearer size array) (child_path path (at name i)) r.inner)))
      (row_stretches s _ others in_one array (earlier ++ (name ∷ [])) path r.after)

pub all_stretches : (s : Spec) → IsChecked s → Stretches (globals_of s) (states s)
all_stretches s h =
    let c = clean_states s h.keeps.rules in
    let path = at s.top 0 ∷ [] in
    subtree_stretches (globals_of s) (new_state s.body path) (made.inside (globals_of s) s.body path) (body_below s s.body None path c.inner) refl (body_stretches s s.body None path c.inner)

-- each path is that of the top, or goes on from it
pub some_steps : (s : Spec) → IsChecked s → (node : ℕ) (p : Path) → slice_get (paths (states s)) node ≡ Some p → 1 ≤ length p
some_steps s h node p e = by_state (get_of_map (λ (x : State). x.path) (states s) node p e)
  where
    top : Path
    top = at s.top 0 ∷ []

    by_one : (x : State) → IsOne x (states s) → 1 ≤ length x.path
    by_one x (inl q) = let k = ap (λ (y : State). length y.path) q in omega (arith, k)
    by_one x (inr m) = let b = each_one (Strictly top) (made.inside (globals_of s) s.body top) x (body_below s s.body None top (clean_states s h.keeps.rules).inner) m in
        let k = ap length b.2 in let l = longer top b.0 b.1 in omega (arith, k, l)

    by_state : ((x : State) × (slice_get (states s) node ≡ Some x) × (x.path ≡ p)) → 1 ≤ length p
    by_state r = subst (λ q. 1 ≤ length q) r.2 (by_one r.0 (one_at (states s) node r.0 r.1))

-- Places.

strictly_not : (p : Path) (x : State) → Strictly p x → x.path ≡ p → ⊥
strictly_not p x h e = let l = longer p h.0 h.1 in let k = ap length (sym e ∙ h.2) in omega (arith, l, k)

outside_not : (p : Path) (x : State) → Outside p x → x.path ≡ p → ⊥
outside_not p x h e = true≢false (sym (subst (λ z. is_prefix p z ≡ true) (sym e) (prefix_self p)) ∙ h)

pub get_parts : {A : Type 0} (xs ys : List A) (j : ℕ) (x : A) → slice_get (xs ++ ys) j ≡ Some x → ((j < length xs) × IsOne x xs) ⊎ ((k : ℕ) × (j ≡ length xs + k) × (slice_get ys k ≡ Some x))
get_parts [] ys j x h = inr (j, omega arith, h)
get_parts (z ∷ xs) ys zero x h = inl (omega arith, inl (sym (same_Some z x h)))
get_parts (z ∷ xs) ys (suc j) x h = ⊎_elim (λ l. let q = l.0 in inl (omega (arith, q), inr l.1)) (λ r. let q = r.1 in inr (r.0, omega (arith, q), r.2)) (get_parts xs ys j x h)

inside_test : (a j e : ℕ) → a ≤ j → j < e → (nat_le a j && nat_lt j e) ≡ true
inside_test a j e h k = grind (arith, nat_tests)

before_test : (a j e : ℕ) → j < a → (nat_le a j && nat_lt j e) ≡ false
before_test a j e h = grind (arith, nat_tests)

past_test : (a j e : ℕ) → e ≤ j → (nat_le a j && nat_lt j e) ≡ false
past_test a j e h = grind (arith, nat_tests)

strictly_prefix : (p : Path) (x : State) → Strictly p x → is_prefix p x.path ≡ true
strictly_prefix p x h = subst (λ z. is_prefix p z ≡ true) (sym h.2) (prefix_append p (h.0 ∷ h.1))

-- which states are in the one of a path
pub stretch_span : {g : Globals} (p : Path) (xs : List State) (h : Stretch g p xs) (j : ℕ) (x : State) → slice_get xs j ≡ Some x
    → is_prefix p x.path ≡ (nat_le (length h.before) j && nat_lt j (length h.before + suc (length h.inner)))
stretch_span p xs h j x e = ⊎_elim
    (λ l. each_one (Outside p) h.before x h.outside l.1 ∙ sym (before_test (length h.before) j (length h.before + suc (length h.inner)) l.0))
    (λ r. by_rest r.0 r.1 r.2)
    (get_parts h.before (h.first ∷ (h.inner ++ h.after)) j x (ap (λ zs. slice_get zs j) (sym h.is) ∙ e))
  where
    a : ℕ
    a = length h.before

    by_rest : (k : ℕ) → j ≡ a + k → slice_get (h.first ∷ (h.inner ++ h.after)) k ≡ Some x → is_prefix p x.path ≡ (nat_le a j && nat_lt j (a + suc (length h.inner)))
    by_rest zero q g = subst (λ z. is_prefix p z ≡ true) (sym h.here ∙ ap (λ (z : State). z.path) (same_Some h.first x g)) (prefix_self p) ∙ sym (inside_test a j (a + suc (length h.inner)) (omega (arith, q)) (omega (arith, q)))
    by_rest (suc k) q g = ⊎_elim
        (λ l. let m = l.0 in strictly_prefix p x (each_one (Strictly p) h.inner x h.strictly l.1) ∙ sym (inside_test a j (a + suc (length h.inner)) (omega (arith, q)) (omega (arith, q, m))))
        (λ r. let m = r.1 in each_one (Outside p) h.after x h.past (one_at h.after r.0 x r.2) ∙ sym (past_test a j (a + suc (length h.inner)) (omega (arith, q, m))))
        (get_parts h.inner h.after k x g)

-- where the state of the path stands
stretch_first : {g : Globals} (p : Path) (xs : List State) (h : Stretch g p xs) (j : ℕ) (x : State) → slice_get xs j ≡ Some x → x.path ≡ p → j ≡ length h.before
stretch_first p xs h j x e here = ⊎_elim
    (λ l. absurd (outside_not p x (each_one (Outside p) h.before x h.outside l.1) here))
    (λ r. by_rest r.0 r.1 r.2)
    (get_parts h.before (h.first ∷ (h.inner ++ h.after)) j x (ap (λ zs. slice_get zs j) (sym h.is) ∙ e))
  where
    by_rest : (k : ℕ) → j ≡ length h.before + k → slice_get (h.first ∷ (h.inner ++ h.after)) k ≡ Some x → j ≡ length h.before
    by_rest zero q g = omega (arith, q)
    by_rest (suc k) q g = absurd (⊎_elim
        (λ l. strictly_not p x (each_one (Strictly p) h.inner x h.strictly l.1) here)
        (λ r. outside_not p x (each_one (Outside p) h.after x h.past (one_at h.after r.0 x r.2)) here)
        (get_parts h.inner h.after k x g))

pub stretch_at : (s : Spec) → IsChecked s → (j : ℕ) (p : Path) → slice_get (paths (states s)) j ≡ Some p → (h : Stretch (globals_of s) p (states s)) × (j ≡ length h.before)
stretch_at s c j p e =
    let r = get_of_map (λ (x : State). x.path) (states s) j p e in
    let h = subst (λ q. Stretch (globals_of s) q (states s)) r.2 (all_stretches s c r.0 (one_at (states s) j r.0 r.1)) in
    (h, stretch_first p (states s) h j r.0 r.1 r.2)

-- no two states have one path
pub one_place : (s : Spec) → IsChecked s → (i j : ℕ) (p : Path) → slice_get (paths (states s)) i ≡ Some p → slice_get (paths (states s)) j ≡ Some p → i ≡ j
one_place s c i j p e f =
    let h = stretch_at s c i p e in
    let r = get_of_map (λ (x : State). x.path) (states s) j p f in
    h.1 ∙ sym (stretch_first p (states s) h.0 j r.0 r.1 r.2)

-- each state has an end
pub end_is : (s : Spec) → IsChecked s → (i : ℕ) (p : Path) → slice_get (paths (states s)) i ≡ Some p → (e : ℕ) × ((j : ℕ) (q : Path) → slice_get (paths (states s)) j ≡ Some q → is_prefix p q ≡ (nat_le i j && nat_lt j e))
end_is s c i p f =
    let h = stretch_at s c i p f in (
      length h.0.before + suc (length h.0.inner),
      λ j q g.
          let r = get_of_map (λ (x : State). x.path) (states s) j q g in
          ap (λ z. is_prefix p z) (sym r.2) ∙ stretch_span p (states s) h.0 j r.0 r.1 ∙ ap (λ k. nat_le k j && nat_lt j (length h.0.before + suc (length h.0.inner))) (sym h.1),
    )
