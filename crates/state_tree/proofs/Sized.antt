-- The states of a checked specification are no more than 4096, and no index is past 64.
use Rattle.std.proofs.Common.{◌≡◌, ℕ, zero, suc, ◌+◌, ◌*◌, ◌≤◌, Bool, true, false, ◌&&◌, ◌||◌, List, [], ◌∷◌, ◌++◌, length, flat_map, is_some, Option, Some, None, ℤ, pos, negsuc, unsigned_abs, int_le, nat_lt, refl, sym, ap, ◌∙◌, inl, inr, arith, true≢false, length-append, ltb-false, drop}
use Rattle.std.proofs.Math.Nat.{add-mul, mul-add, zero-mul}
use Rattle.std.proofs.lemmas.Int.{ints}
use Rattle.std.specs.Option.{option_map_or}
use Rattle.std.specs.Cmp.{first_so, second_so}
use Rattle.rsml_syntax.specs.declared.syntax.Spec.{Spec}
use Rattle.rsml_syntax.specs.declared.syntax.Amount.{Amount}
use Rattle.rsml_syntax.specs.declared.syntax.Body.{Body, Basic, One', All', Row_of-StateDecl, end_of-StateDecl, more_of-StateDecl}
use Rattle.rsml_syntax.specs.text.Names.{Name, is_in}
use Rattle.rsml_syntax.specs.rules.Globals.{Globals, indices, many, up_to, amount_of}
use Rattle.rsml_syntax.specs.grammar.Parts.{Part, Opens, Closes, declared, nearer, placed, row_parts, top_of, parts}
use Rattle.rsml_syntax.specs.grammar.Parts as part
use Rattle.rsml_syntax.specs.rules.Scopes.{Scope, is_up_to}
use Rattle.rsml_syntax.specs.rules.Uses.{sized, is_amount, amount_used}
use Rattle.rsml_syntax.specs.rules.States.{state_scope}
use Rattle.rsml_syntax.specs.rules.Rules.{name_tables}
use Rattle.rsml_syntax.specs.limits.Limits.{adds, total, states_at, limits, first_over, shown, Limit, limit}
use Rattle.rsml_syntax.specs.limits.Checked.{IsChecked}
use Rattle.rsml_meaning.specs.Words.{Each, IsOne, Path, at, child_path}
use Rattle.rsml_meaning.specs.Instances.{State, globals_of, new_state, row_inside, states}
use Rattle.rsml_meaning.specs.Instances as made
use Rattle.state_tree.specs.nodes.Numbers.{HasIndices, Fit}
use Rattle.rsml_syntax.proofs.Clean.{Clean, clean_states, clean_row, front_breach, each_append}
use Rattle.state_tree.proofs.Lists.{each_flat_map}

-- How many states.

flat_length : (f h : ℕ → List State) (is : List ℕ) → ((i : ℕ) → length (f i) ≡ length (h i)) → length (flat_map f is) ≡ length (flat_map h is)
flat_length f h [] e = refl
flat_length f h (i ∷ is) e = omega (arith, e i, flat_length f h is e, length-append (f i) (flat_map f is), length-append (h i) (flat_map h is))

flat_many : (f : ℕ → List State) (k : ℕ) (is : List ℕ) → ((i : ℕ) → length (f i) ≡ k) → length (flat_map f is) ≡ length is * k
flat_many f k [] e = sym (zero-mul k)
flat_many f k (i ∷ is) e = length-append (f i) (flat_map f is) ∙ ap (λ n. n + length (flat_map f is)) (e i) ∙ ap (λ n. k + n) (flat_many f k is e) ∙ (let m = add-mul 1 (length is) k in omega (arith, m))

abbrev made_by : Globals → Name → Body → Path → ℕ → List State
made_by g name body path i = new_state body (child_path path (at name i)) ∷ made.inside g body (child_path path (at name i))

mutual
  same_length : (g : Globals) (body : Body) (p q : Path) → length (made.inside g body p) ≡ length (made.inside g body q)
  same_length g Basic p q = refl
  same_length g (One' first shape row bs ts) p q = row_length g _ row p q
  same_length g (All' shape row) p q = row_length g _ row p q

  row_length : (g : Globals) (n : _) (row : Row_of-StateDecl n) (p q : Path) → length (row_inside g row p) ≡ length (row_inside g row q)
  row_length g n end_of-StateDecl p q = refl
  row_length g n (more_of-StateDecl name size body others) p q =
      length-append (flat_map (made_by g name body p) (indices g size)) (row_inside g others p)
      ∙ omega (
        arith,
        flat_length (made_by g name body p) (made_by g name body q) (indices g size) (λ i. ap suc (same_length g body (child_path p (at name i)) (child_path q (at name i)))),
        row_length g _ others p q,
      )
      ∙ sym (length-append (flat_map (made_by g name body q) (indices g size)) (row_inside g others q))

length_up_to : (n : ℕ) → length (up_to n) ≡ n
length_up_to zero = refl
length_up_to (suc n) = omega (arith, length-append (up_to n) (suc n ∷ []), length_up_to n)

length_indices : (g : Globals) (size : Option Amount) → length (indices g size) ≡ many g size
length_indices g None = refl
length_indices g (Some a) = length_up_to (many g (Some a))

adds_append : {A : Type 0} (f : A → ℕ) (xs ys : List A) → adds f (xs ++ ys) ≡ adds f xs + adds f ys
adds_append f [] ys = omega arith
adds_append f (x ∷ xs) ys = omega (arith, adds_append f xs ys)

-- L1 counts a state once for each index of the innermost array around it.

abbrev count : Spec → List Part → ℕ
count s ps = adds (states_at (globals_of s)) ps

-- a child that is no array
plain_count : (m l r a b : ℕ) → m * l ≡ a → m * r ≡ b → m * (suc l + r) ≡ m + (a + (0 + b))
plain_count m l r a b e f = let h = mul-add m (suc l) r in let k = mul-add m 1 l in omega (arith, h, k, e, f)

-- an array
array_count : (n l r a b : ℕ) → n * l ≡ a → 1 * r ≡ b → 1 * (n * suc l + r) ≡ n + (a + (0 + b))
array_count n l r a b e f = let k = mul-add n 1 l in omega (arith, k, e, f)

by_size : (s : Spec) (size array : Option Amount) (in_one : Bool) (name : Name) (body : Body) {m : _} (others : Row_of-StateDecl m) (path : Path)
    → (is_some size && (in_one || is_some array)) ≡ false → (a b : ℕ)
    → ((p : Path) → many (globals_of s) (nearer size array) * length (made.inside (globals_of s) body p) ≡ a)
    → many (globals_of s) array * length (row_inside (globals_of s) others path) ≡ b
    → many (globals_of s) array * (length (flat_map (made_by (globals_of s) name body path) (indices (globals_of s) size)) + length (row_inside (globals_of s) others path))
    ≡ many (globals_of s) (nearer size array) + (a + (0 + b))
by_size s None array in_one name body others path h a b inner after =
    let g = globals_of s in
    let p = child_path path (at name 0) in
    ap (λ n. many g array * (n + length (row_inside g others path))) (length-append (made_by g name body path 0) [] ∙ omega arith)
    ∙ plain_count (many g array) (length (made.inside g body p)) (length (row_inside g others path)) a b (inner p) after
by_size s (Some z) None in_one name body others path h a b inner after =
    let g = globals_of s in
    let l = length (made.inside g body path) in
    let each = flat_many (made_by g name body path) (suc l) (indices g (Some z)) (λ i. ap suc (same_length g body (child_path path (at name i)) path)) in
    ap (λ n. 1 * (n + length (row_inside g others path))) (each ∙ ap (λ n. n * suc l) (length_indices g (Some z)))
    ∙ array_count (many g (Some z)) l (length (row_inside g others path)) a b (inner path) after
by_size s (Some z) (Some y) in_one name body others path h a b inner after = absurd (no_array in_one h)
  where
    no_array : (b : Bool) → (true && (b || true)) ≡ false → ⊥
    no_array true k = true≢false k
    no_array false k = true≢false k

mutual
  body_count : (s : Spec) (body : Body) (array : Option Amount) (path : Path) → Each (Clean s) (part.inside array body)
      → many (globals_of s) array * length (made.inside (globals_of s) body path) ≡ count s (part.inside array body)
  body_count s Basic array path clean = omega arith
  body_count s (One' first shape row bs ts) array path clean = row_count s _ row true array [] path clean
  body_count s (All' shape row) array path clean = row_count s _ row false array [] path clean

  row_count : (s : Spec) (n : _) (row : Row_of-StateDecl n) (in_one : Bool) (array : Option Amount) (earlier : List Name) (path : Path) → Each (Clean s) (row_parts in_one array earlier row)
      → many (globals_of s) array * length (row_inside (globals_of s) row path) ≡ count s (row_parts in_one array earlier row)
  row_count s n end_of-StateDecl in_one array earlier path clean = omega arith
  row_count s n (more_of-StateDecl name size body others) in_one array earlier path clean =
      let g = globals_of s in
      let r = clean_row s in_one array earlier name size body others clean.0 clean.1 in
      let rest = Closes (placed name (is_in name earlier) size array in_one body) ∷ row_parts in_one array (earlier ++ (name ∷ [])) others in
      ap (λ n. many g array * n) (length-append (flat_map (made_by g name body path) (indices g size)) (row_inside g others path))
      ∙ by_size s size array in_one name body others path r.first.no_array
      (count s (part.inside (nearer size array) body)) (count s (row_parts in_one array (earlier ++ (name ∷ [])) others))
      (λ p. body_count s body (nearer size array) p r.inner)
      (row_count s _ others in_one array (earlier ++ (name ∷ [])) path r.after)
      ∙ ap (λ n. many g (nearer size array) + n) (sym (adds_append (states_at g) (part.inside (nearer size array) body) rest))

first_limit : (s : Spec) (l : Limit) (ls : List Limit) → first_over s (l ∷ ls) ≡ None → l.count s ≤ l.greatest
first_limit s l ls h = by_test (nat_lt l.greatest (l.count s)) refl h
  where
    answer : Bool → Option (ℕ × ℕ)
    answer b = elim b [ true ↦ Some (l.number, shown (l.count s)) | false ↦ first_over s ls ]

    by_test : (b : Bool) → nat_lt l.greatest (l.count s) ≡ b → answer b ≡ None → l.count s ≤ l.greatest
    by_test true e k = absurd (let no : ⊥ = cc in no)
    by_test false e k = ltb-false l.greatest (l.count s) e

few_states : (s : Spec) → IsChecked s → length (states s) ≤ 4096
few_states s h =
    let g = globals_of s in
    let c = clean_states s h.keeps.rules in
    let tail = Opens (top_of s) ∷ (part.inside None s.body ++ (Closes (top_of s) ∷ [])) in
    let l = first_limit s (limit 1 (total states_at) 4096) later h.keeps.limits in
    let inner = body_count s s.body None (at s.top 0 ∷ []) c.inner in
    let all = adds_append (states_at g) (declared 0 s.decls) tail in
    let most = adds_append (states_at g) (part.inside None s.body) (Closes (top_of s) ∷ []) in
    omega (arith, l, inner, all, most)
  where
    later : List Limit
    later = drop 1 limits

-- Indices.

of_up_to : (n i : ℕ) → IsOne i (up_to n) → i ≤ n
of_up_to zero i m = absurd m
of_up_to (suc n) i m = by_place (up_to n) m (of_up_to n i)
  where
    by_place : (xs : List ℕ) → IsOne i (xs ++ (suc n ∷ [])) → (IsOne i xs → i ≤ n) → i ≤ suc n
    by_place [] (inl e) f = omega (arith, e)
    by_place [] (inr k) f = absurd k
    by_place (x ∷ xs) (inl e) f = let l = f (inl e) in omega (arith, l)
    by_place (x ∷ xs) (inr k) f = by_place xs k (λ o. f (inr o))

small_number : (z : ℤ) → (int_le (pos 1) z && int_le z (pos 64)) ≡ true → unsigned_abs z ≤ 64
small_number (pos n) h = let k = second_so (int_le (pos 1) (pos n)) (int_le (pos n) (pos 64)) h in grind (arith, ints)
small_number (negsuc n) h = absurd (let k = first_so (int_le (pos 1) (negsuc n)) (int_le (negsuc n) (pos 64)) h in let l : ⊥ = grind (arith, ints) in l)

small_many : (s : Spec) (a : Amount) → is_amount (name_tables s) a ≡ true → many (globals_of s) (Some a) ≤ 64
small_many s a h = by_amount (amount_of (globals_of s) a) h
  where
    by_amount : (o : Option ℤ) → option_map_or (is_up_to (pos 64)) o true ≡ true → option_map_or unsigned_abs o 1 ≤ 64
    by_amount None k = omega arith
    by_amount (Some z) k = small_number z k

small_size : (s : Spec) (scope : Scope) (name : Name) (size : Option Amount) → sized (name_tables s) scope name size ≡ [] → (i : ℕ) → IsOne i (indices (globals_of s) size) → i ≤ 64
small_size s scope name None h i (inl e) = omega (arith, e)
small_size s scope name None h i (inr k) = absurd k
small_size s scope name (Some a) h i m =
    let l = small_many s a (front_breach s 5 name (is_amount (name_tables s) a) (amount_used (name_tables s) scope a) h) in
    let r = of_up_to (many (globals_of s) (Some a)) i m in
    omega (arith, l, r)

one_more : (p : Path) (name : Name) (i : ℕ) → HasIndices p → i ≤ 64 → HasIndices (child_path p (at name i))
one_more p name i h l = each_append (λ step. step.index ≤ 64) p (at name i ∷ []) h (l, tt)

mutual
  body_small : (s : Spec) (body : Body) (array : Option Amount) (path : Path) → HasIndices path → Each (Clean s) (part.inside array body) → Each (λ x. HasIndices x.path) (made.inside (globals_of s) body path)
  body_small s Basic array path h clean = tt
  body_small s (One' first shape row bs ts) array path h clean = row_small s _ row true array [] path h clean
  body_small s (All' shape row) array path h clean = row_small s _ row false array [] path h clean

  row_small : (s : Spec) (n : _) (row : Row_of-StateDecl n) (in_one : Bool) (array : Option Amount) (earlier : List Name) (path : Path) → HasIndices path → Each (Clean s) (row_parts in_one array earlier row)
      → Each (λ x. HasIndices x.path) (row_inside (globals_of s) row path)
  row_small s n end_of-StateDecl in_one array earlier path h clean = tt
  row_small s n (more_of-StateDecl name size body others) in_one array earlier path h clean =
      let g = globals_of s in
      let r = clean_row s in_one array earlier name size body others clean.0 clean.1 in
      let small = small_size s (state_scope (name_tables s) (placed name (is_in name earlier) size array in_one body)) name size r.first.size in
      each_append (λ x. HasIndices x.path) (flat_map (made_by g name body path) (indices g size)) (row_inside g others path)
      (each_flat_map (λ x. HasIndices x.path) (made_by g name body path) (indices g size)
      (λ i m. let q = one_more path name i h (small i m) in (q, body_small s body (nearer size array) (child_path path (at name i)) q r.inner)))
      (row_small s _ others in_one array (earlier ++ (name ∷ [])) path h r.after)

pub all_fit : (s : Spec) → IsChecked s → Fit 0 (states s)
all_fit s h =
    let c = clean_states s h.keeps.rules in
    let top : HasIndices (at s.top 0 ∷ []) = (omega arith, tt) in
    let l = few_states s h in record { room = omega (arith, l); indices = (top, body_small s s.body None (at s.top 0 ∷ []) top c.inner) }
