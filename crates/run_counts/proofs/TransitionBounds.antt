-- A checked specification has at most 8,192 transitions.
use Rattle.std.proofs.Common.{◌≡◌, ℕ, zero, suc, ◌+◌, ◌*◌, ◌≤◌, Bool, true, false, ◌&&◌, ◌||◌, List, [], ◌∷◌, ◌++◌, map, length, flat_map, is_some, Option, Some, None, nat_lt, refl, sym, ap, ◌∙◌, arith, true≢false, length-append, ltb-false, drop}
use Rattle.std.specs.Prelude.{filter_map, find, if◌then◌else◌}
use Rattle.std.specs.List.{cons_option}
use Rattle.std.specs.Option.{option_map_or}
use Rattle.std.proofs.Math.Nat.{add-mul, mul-add, zero-mul}
use Rattle.std.specs.Cmp.Lexicographic.{nat_list_eq_equiv}
use Rattle.rsml_syntax.specs.declared.syntax.Spec.{Spec}
use Rattle.rsml_syntax.specs.declared.syntax.Amount.{Amount}
use Rattle.rsml_syntax.specs.declared.syntax.Bus.{Bus}
use Rattle.rsml_syntax.specs.declared.syntax.Transition.{Transition}
use Rattle.rsml_syntax.specs.declared.syntax.Body.{Body, Basic, One', All', Row_of-StateDecl, end_of-StateDecl, more_of-StateDecl}
use Rattle.rsml_syntax.specs.text.Names.{Name, is_in, same}
use Rattle.rsml_syntax.specs.rules.Globals.{Globals, indices, many, up_to}
use Rattle.rsml_syntax.specs.grammar.Parts.{Part, Opens, Closes, declared, nearer, placed, row_parts, top_of}
use Rattle.rsml_syntax.specs.grammar.Parts as part
use Rattle.rsml_syntax.specs.limits.Limits.{adds, total, transitions_at, limits, first_over, shown, Limit}
use Rattle.rsml_syntax.specs.limits.Limits as limit
use Rattle.rsml_syntax.specs.limits.Limits.{Keeps}
use Rattle.rsml_meaning.specs.Words.{Each, Path, at, child_path, numbered_from}
use Rattle.rsml_meaning.specs.Instances.{State, Component, globals_of, new_state, row_inside, states}
use Rattle.rsml_meaning.specs.Instances as made
use Rattle.rsml_meaning.specs.Transitions.{new_transition, sources, transitions_of, transitions}
use Rattle.rsml_syntax.proofs.Clean.{Clean, clean_states, clean_row}

-- How many transitions a state has of its own.

length_map : {A B : Type 0} (f : A → B) (xs : List A) → length (map f xs) ≡ length xs
length_map f [] = refl
length_map f (x ∷ xs) = ap suc (length_map f xs)

found_swapped : (name : Name) (bs : List Bus) → find (λ b. same name b.name) bs ≡ find (λ b. same b.name name) bs
found_swapped name [] = refl
found_swapped name (b ∷ bs) =
    ap (λ (t : Bool). if t then Some b else find (λ b. same name b.name) bs) (nat_list_eq_equiv.symm name b.name)
    ∙ ap (λ (o : Option Bus). if same b.name name then Some b else o) (found_swapped name bs)

-- the sources of a transition from this name, by the buses
abbrev many_sources : List Bus → Name → ℕ
many_sources bs name = option_map_or (λ b. length b.members) (find (λ b. same b.name name) bs) 1

sources_many : (c : Component) (name : Name) → length (sources c name) ≡ many_sources c.buses name
sources_many c name = by (find (λ b. same name b.name) c.buses) ∙ ap (λ (o : Option Bus). option_map_or (λ b. length b.members) o 1) (found_swapped name c.buses)
  where
    by : (o : Option Bus) → length {A = Name} (elim o [ Some b ↦ b.members | None ↦ name ∷ [] ]) ≡ option_map_or (λ b. length b.members) o 1
    by None = refl
    by (Some b) = refl

abbrev many_of : List Bus → List Transition → ℕ
many_of bs ts = adds (λ t. many_sources bs t.source) ts

made_many : (g : Globals) (c : Component) (n : ℕ) (ts : List Transition)
    → length (flat_map (λ t. map (new_transition g c t) (sources c t.1.source)) (numbered_from n ts)) ≡ many_of c.buses ts
made_many g c n [] = refl
made_many g c n (t ∷ ts) =
    let here = map (new_transition g c (n, t)) (sources c t.source) in
    let rest = flat_map (λ t. map (new_transition g c t) (sources c t.1.source)) (numbered_from (suc n) ts) in
    let l = length-append here rest in
    let m = length_map (new_transition g c (n, t)) (sources c t.source) in
    let k = sources_many c t.source in
    let r = made_many g c (suc n) ts in
    omega (arith, l, m, k, r)

-- the transitions of its own
abbrev own : Globals → State → ℕ
own g x = option_map_or (λ c. length (transitions_of g c)) x.component 0

abbrev own_of : Body → ℕ
own_of Basic = 0
own_of (One' first shape row bs ts) = many_of bs ts
own_of (All' shape row) = 0

own_is : (g : Globals) (body : Body) (path : Path) → own g (new_state body path) ≡ own_of body
own_is g Basic path = refl
own_is g (One' first shape row bs ts) path = made_many g (made.new_component path first (made.row_names row) bs ts) 1 ts
own_is g (All' shape row) path = refl

all_owned : (g : Globals) (xs : List State) → length (flat_map (transitions_of g) (filter_map (λ x. x.component) xs)) ≡ adds (own g) xs
all_owned g [] = refl
all_owned g (x ∷ xs) = by x.component (all_owned g xs)
  where
    by : (o : Option Component) → length (flat_map (transitions_of g) (filter_map (λ x. x.component) xs)) ≡ adds (own g) xs
        → length (flat_map (transitions_of g) (cons_option o (filter_map (λ x. x.component) xs))) ≡ option_map_or (λ c. length (transitions_of g c)) o 0 + adds (own g) xs
    by None h = omega (arith, h)
    by (Some c) h = let l = length-append (transitions_of g c) (flat_map (transitions_of g) (filter_map (λ x. x.component) xs)) in omega (arith, h, l)

-- How many those of a body have together.

adds_append : {A : Type 0} (f : A → ℕ) (xs ys : List A) → adds f (xs ++ ys) ≡ adds f xs + adds f ys
adds_append f [] ys = omega arith
adds_append f (x ∷ xs) ys = omega (arith, adds_append f xs ys)

abbrev size : Globals → List State → ℕ
size g xs = adds (own g) xs

flat_same : (g : Globals) (f h : ℕ → List State) (is : List ℕ) → ((i : ℕ) → size g (f i) ≡ size g (h i)) → size g (flat_map f is) ≡ size g (flat_map h is)
flat_same g f h [] e = refl
flat_same g f h (i ∷ is) e = omega (arith, e i, flat_same g f h is e, adds_append (own g) (f i) (flat_map f is), adds_append (own g) (h i) (flat_map h is))

flat_many : (g : Globals) (f : ℕ → List State) (k : ℕ) (is : List ℕ) → ((i : ℕ) → size g (f i) ≡ k) → size g (flat_map f is) ≡ length is * k
flat_many g f k [] e = sym (zero-mul k)
flat_many g f k (i ∷ is) e = adds_append (own g) (f i) (flat_map f is) ∙ ap (λ n. n + size g (flat_map f is)) (e i) ∙ ap (λ n. k + n) (flat_many g f k is e) ∙ (let m = add-mul 1 (length is) k in omega (arith, m))

abbrev made_by : Globals → Name → Body → Path → ℕ → List State
made_by g name body path i = new_state body (child_path path (at name i)) ∷ made.inside g body (child_path path (at name i))

made_same : (g : Globals) (body : Body) (p q : Path) → size g (made.inside g body p) ≡ size g (made.inside g body q) → size g (new_state body p ∷ made.inside g body p) ≡ size g (new_state body q ∷ made.inside g body q)
made_same g body p q h = let a = own_is g body p in let b = own_is g body q in omega (arith, a, b, h)

mutual
  same_size : (g : Globals) (body : Body) (p q : Path) → size g (made.inside g body p) ≡ size g (made.inside g body q)
  same_size g Basic p q = refl
  same_size g (One' first shape row bs ts) p q = row_size g _ row p q
  same_size g (All' shape row) p q = row_size g _ row p q

  row_size : (g : Globals) (n : _) (row : Row_of-StateDecl n) (p q : Path) → size g (row_inside g row p) ≡ size g (row_inside g row q)
  row_size g n end_of-StateDecl p q = refl
  row_size g n (more_of-StateDecl name length_of body others) p q =
      adds_append (own g) (flat_map (made_by g name body p) (indices g length_of)) (row_inside g others p)
      ∙ omega (
        arith,
        flat_same g (made_by g name body p) (made_by g name body q) (indices g length_of) (λ i. made_same g body (child_path p (at name i)) (child_path q (at name i)) (same_size g body (child_path p (at name i)) (child_path q (at name i)))),
        row_size g _ others p q,
      )
      ∙ sym (adds_append (own g) (flat_map (made_by g name body q) (indices g length_of)) (row_inside g others q))

length_up_to : (n : ℕ) → length (up_to n) ≡ n
length_up_to zero = refl
length_up_to (suc n) = omega (arith, length-append (up_to n) (suc n ∷ []), length_up_to n)

length_indices : (g : Globals) (size : Option Amount) → length (indices g size) ≡ many g size
length_indices g None = refl
length_indices g (Some a) = length_up_to (many g (Some a))

-- L2 counts a transition once for each index of the innermost array around its state.

abbrev count : Spec → List Part → ℕ
count s ps = adds (transitions_at (globals_of s)) ps

closes_count : (s : Spec) (name : Name) (repeated : Bool) (own_size array : Option Amount) (in_one : Bool) (body : Body)
    → transitions_at (globals_of s) (Closes (placed name repeated own_size array in_one body)) ≡ many (globals_of s) (nearer own_size array) * own_of body
closes_count s name repeated own_size array in_one Basic = refl
closes_count s name repeated own_size array in_one (One' first shape row bs ts) = refl
closes_count s name repeated own_size array in_one (All' shape row) = refl

-- a child that is no array
plain_count : (m w l r a b : ℕ) → m * l ≡ a → m * r ≡ b → m * ((w + l) + r) ≡ a + (m * w + b)
plain_count m w l r a b e f = let h = mul-add m (w + l) r in let k = mul-add m w l in omega (arith, h, k, e, f)

-- an array
array_count : (n w l r a b : ℕ) → n * l ≡ a → 1 * r ≡ b → 1 * (n * (w + l) + r) ≡ a + (n * w + b)
array_count n w l r a b e f = let k = mul-add n w l in omega (arith, k, e, f)

by_size : (s : Spec) (own_size array : Option Amount) (in_one : Bool) (name : Name) (body : Body) {m : _} (others : Row_of-StateDecl m) (path : Path)
    → (is_some own_size && (in_one || is_some array)) ≡ false → (a b : ℕ)
    → ((p : Path) → many (globals_of s) (nearer own_size array) * size (globals_of s) (made.inside (globals_of s) body p) ≡ a)
    → many (globals_of s) array * size (globals_of s) (row_inside (globals_of s) others path) ≡ b
    → many (globals_of s) array * (size (globals_of s) (flat_map (made_by (globals_of s) name body path) (indices (globals_of s) own_size)) + size (globals_of s) (row_inside (globals_of s) others path))
    ≡ a + (many (globals_of s) (nearer own_size array) * own_of body + b)
by_size s None array in_one name body others path h a b inner after =
    let g = globals_of s in
    let p = child_path path (at name 0) in
    let one = adds_append (own g) (made_by g name body path 0) [] in
    let mine = own_is g body p in
    let there : size g (flat_map (made_by g name body path) (indices g None)) ≡ own_of body + size g (made.inside g body p) = omega (arith, one, mine) in
    ap (λ n. many g array * (n + size g (row_inside g others path))) there
    ∙ plain_count (many g array) (own_of body) (size g (made.inside g body p)) (size g (row_inside g others path)) a b (inner p) after
by_size s (Some z) None in_one name body others path h a b inner after =
    let g = globals_of s in
    let l = size g (made.inside g body path) in
    let each = flat_many g (made_by g name body path) (own_of body + l) (indices g (Some z))
    (λ i. let mine = own_is g body (child_path path (at name i)) in let rest = same_size g body (child_path path (at name i)) path in omega (arith, mine, rest)) in
    ap (λ n. 1 * (n + size g (row_inside g others path))) (each ∙ ap (λ n. n * (own_of body + l)) (length_indices g (Some z)))
    ∙ array_count (many g (Some z)) (own_of body) l (size g (row_inside g others path)) a b (inner path) after
by_size s (Some z) (Some y) in_one name body others path h a b inner after = absurd (no_array in_one h)
  where
    no_array : (b : Bool) → (true && (b || true)) ≡ false → ⊥
    no_array true k = true≢false k
    no_array false k = true≢false k

mutual
  body_count : (s : Spec) (body : Body) (array : Option Amount) (path : Path) → Each (Clean s) (part.inside array body)
      → many (globals_of s) array * size (globals_of s) (made.inside (globals_of s) body path) ≡ count s (part.inside array body)
  body_count s Basic array path clean = omega arith
  body_count s (One' first shape row bs ts) array path clean = row_count s _ row true array [] path clean
  body_count s (All' shape row) array path clean = row_count s _ row false array [] path clean

  row_count : (s : Spec) (n : _) (row : Row_of-StateDecl n) (in_one : Bool) (array : Option Amount) (earlier : List Name) (path : Path) → Each (Clean s) (row_parts in_one array earlier row)
      → many (globals_of s) array * size (globals_of s) (row_inside (globals_of s) row path) ≡ count s (row_parts in_one array earlier row)
  row_count s n end_of-StateDecl in_one array earlier path clean = omega arith
  row_count s n (more_of-StateDecl name own_size body others) in_one array earlier path clean =
      let g = globals_of s in
      let r = clean_row s in_one array earlier name own_size body others clean.0 clean.1 in
      let closing = Closes (placed name (is_in name earlier) own_size array in_one body) in
      let later = row_parts in_one array (earlier ++ (name ∷ [])) others in
      let split = adds_append (transitions_at g) (part.inside (nearer own_size array) body) (closing ∷ later) in
      let close = closes_count s name (is_in name earlier) own_size array in_one body in
      ap (λ n. many g array * n) (adds_append (own g) (flat_map (made_by g name body path) (indices g own_size)) (row_inside g others path))
      ∙ by_size s own_size array in_one name body others path r.first.no_array
      (count s (part.inside (nearer own_size array) body)) (count s later)
      (λ p. body_count s body (nearer own_size array) p r.inner)
      (row_count s _ others in_one array (earlier ++ (name ∷ [])) path r.after)
      ∙ omega (arith, split, close)

-- The limit.

second_limit : (s : Spec) (l k : Limit) (ls : List Limit) → first_over s (l ∷ k ∷ ls) ≡ None → k.count s ≤ k.greatest
second_limit s l k ls h = by_test (nat_lt l.greatest (l.count s)) (nat_lt k.greatest (k.count s)) refl h
  where
    answer : Bool → Bool → Option (ℕ × ℕ)
    answer a b = elim a [ true ↦ Some (l.number, shown (l.count s)) | false ↦ elim b [ true ↦ Some (k.number, shown (k.count s)) | false ↦ first_over s ls ] ]

    by_test : (a b : Bool) → nat_lt k.greatest (k.count s) ≡ b → answer a b ≡ None → k.count s ≤ k.greatest
    by_test true b e h = absurd (let no : ⊥ = cc in no)
    by_test false true e h = absurd (let no : ⊥ = cc in no)
    by_test false false e h = ltb-false k.greatest (k.count s) e

pub few_transitions : (s : Spec) → Keeps s → length (transitions s) ≤ 8192
few_transitions s h =
    let g = globals_of s in
    let c = clean_states s h.rules in
    let tail = Opens (top_of s) ∷ (part.inside None s.body ++ (Closes (top_of s) ∷ [])) in
    let l = second_limit s (limit.limit 1 (total limit.states_at) 4096) (limit.limit 2 (total transitions_at) 8192) (drop 2 limits) h.limits in
    let inner = body_count s s.body None (at s.top 0 ∷ []) c.inner in
    let mine = own_is g s.body (at s.top 0 ∷ []) in
    let close = closes_count s s.top false None None false s.body in
    let owned = all_owned g (states s) in
    let all = adds_append (transitions_at g) (declared 0 s.decls) tail in
    let most = adds_append (transitions_at g) (part.inside None s.body) (Closes (top_of s) ∷ []) in
    omega (arith, l, inner, mine, close, owned, all, most)
