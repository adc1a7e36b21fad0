-- An `in` path that keeps the rules is that of a state.
use Rattle.std.proofs.Common.{◌≡◌, ℕ, ◌+◌, Bool, true, false, not, ◌&&◌, cond, List, [], ◌∷◌, ◌++◌, map, flat_map, find, is_none, Option, Some, None, inl, inr, if◌then◌else◌, refl, sym, ap, ◌∙◌, subst, arith, true≢false, append_assoc, append-nil}
use Rattle.std.specs.List.{position_from}
use Rattle.std.specs.Option.{option_map_or}
use Rattle.std.specs.Cmp.{first_so, second_so}
use Rattle.rsml_syntax.specs.declared.syntax.Spec.{Spec}
use Rattle.rsml_syntax.specs.declared.syntax.Amount.{Amount}
use Rattle.rsml_syntax.specs.declared.syntax.Mention.{Mention}
use Rattle.rsml_syntax.specs.declared.syntax.Index.{Index}
use Rattle.rsml_syntax.specs.declared.syntax.StateDecl.{StateDecl}
use Rattle.rsml_syntax.specs.declared.syntax.Body.{Body, Basic, One', All', Row_of-StateDecl, end_of-StateDecl, more_of-StateDecl, items-the_row-StateDecl}
use Rattle.rsml_syntax.specs.text.Names.{Name, same, is_in}
use Rattle.rsml_syntax.specs.grammar.Parts.{nearer, placed, inside, row_parts, children_of}
use Rattle.rsml_syntax.specs.grammar.WellFormed.{has_items}
use Rattle.rsml_syntax.specs.limits.Checked.{IsChecked}
use Rattle.rsml_syntax.specs.limits.Comparisons.{Indices, index_number}
use Rattle.rsml_syntax.specs.rules.Globals.{Globals, indices}
use Rattle.rsml_syntax.specs.rules.Breaches.{breach}
use Rattle.rsml_syntax.specs.rules.Scopes.{Scope, size_number, is_indexed}
use Rattle.rsml_syntax.specs.rules.Uses.{child_named, steps_used, are_steps, names_state, last_name, path_used}
use Rattle.rsml_syntax.specs.rules.States.{state_scope}
use Rattle.rsml_syntax.specs.rules.Rules.{name_tables}
use Rattle.rsml_syntax.proofs.Clean.{Clean, clean_row, clean_states, no_front, no_back, holds}
use Rattle.rsml_meaning.specs.Words.{Each, IsOne, Path, at, child_path, same_path}
use Rattle.rsml_meaning.specs.Instances.{State, globals_of, new_state, row_inside, subtree, child_states, states}
use Rattle.rsml_meaning.specs.Instances as made
use Rattle.rsml_meaning.specs.Truth.{instance}
use Rattle.rsml_meaning.proofs.Same.{name_same}
use Rattle.rsml_meaning.proofs.Prefixes.{same_path_self}
use Rattle.rsml_meaning.proofs.Lists.{each_one, one_map, one_of_map, one_flat_map}
use Rattle.state_arrays.specs.Places.{path_place}
use Rattle.rsml_ground.specs.Scoped.{IndexFits, PathIsScoped}
use Rattle.rsml_ground.proofs.Reading.{IsFew, few_sized, size_few, one_few, Reads, index_is}

-- Lists.

-- what is found is one of the items, and passes
found_is : {A : Type 0} (t : A → Bool) (xs : List A) (x : A) → find t xs ≡ Some x → IsOne x xs × (t x ≡ true)
found_is t [] x h = absurd (let no : ⊥ = cc in no)
found_is {A} t (y ∷ xs) x h = by_test (t y) refl h (found_is t xs x)
  where
    by_test : (q : Bool) → t y ≡ q → cond q (Some y) (find t xs) ≡ Some x → (find t xs ≡ Some x → IsOne x xs × (t x ≡ true)) → IsOne x (y ∷ xs) × (t x ≡ true)
    by_test true e f rest = let is : y ≡ x = cc in (inl (sym is), subst (λ z. t z ≡ true) is e)
    by_test false e f rest = let r = rest f in (inr r.0, r.1)

-- a path of states has a place among them
there_from : (xs : List State) (k : ℕ) (p : Path) → IsOne p (map (λ (x : State). x.path) xs) → (n : ℕ) × (position_from (λ (x : State). same_path p x.path) k xs ≡ Some n)
there_from [] k p m = absurd m
there_from (x ∷ xs) k p m = by_test (same_path p x.path) refl m (there_from xs (k + 1) p)
  where
    by_test : (b : Bool) → same_path p x.path ≡ b → IsOne p (map (λ (x : State). x.path) (x ∷ xs)) → (IsOne p (map (λ (x : State). x.path) xs) → (n : ℕ) × (position_from (λ (x : State). same_path p x.path) (k + 1) xs ≡ Some n))
        → (n : ℕ) × (cond b (Some k) (position_from (λ (x : State). same_path p x.path) (k + 1) xs) ≡ Some n)
    by_test true e m rest = (k, refl)
    by_test false e (inl q) rest = absurd (true≢false (sym (same_path_self p) ∙ ap (same_path p) q ∙ e))
    by_test false e (inr m) rest = rest m

pub place_is : (xs : List State) (p : Path) → IsOne p (map (λ (x : State). x.path) xs) → (n : ℕ) × (path_place xs p ≡ Some n)
place_is xs p m = there_from xs 0 p m

-- Children.

inside_row : (g : Globals) (p : Path) (n : _) (row : Row_of-StateDecl n) → row_inside g row p ≡ flat_map (child_states g p) (items-the_row-StateDecl n row)
inside_row g p n end_of-StateDecl = refl
inside_row g p n (more_of-StateDecl name size body others) = ap (λ r. child_states g p (record { name = name; size = size; body = body }) ++ r) (inside_row g p _ others)

-- the states inside a state are those of its children
inside_body : (g : Globals) (p : Path) (body : Body) → made.inside g body p ≡ flat_map (child_states g p) (children_of body)
inside_body g p Basic = refl
inside_body g p (One' first shape row buses transitions) = inside_row g p _ row
inside_body g p (All' shape row) = inside_row g p _ row

-- What is known of a child: its size, and what is inside it.
record IsClean (s : Spec) (c : StateDecl) : Type 0 where
  few : IsFew (globals_of s) c.size
  array : Option Amount
  inner : Each (Clean s) (inside array c.body)

clean_in_row : (s : Spec) (n : _) (row : Row_of-StateDecl n) (in_one : Bool) (array : Option Amount) (earlier : List Name) → Each (Clean s) (row_parts in_one array earlier row) → Each (IsClean s) (items-the_row-StateDecl n row)
clean_in_row s n end_of-StateDecl in_one array earlier h = tt
clean_in_row s n (more_of-StateDecl name size body others) in_one array earlier h =
    let r = clean_row s in_one array earlier name size body others h.0 h.1 in (
      record { few = size_few s (state_scope (name_tables s) (placed name (is_in name earlier) size array in_one body)) name size r.first.size; array = nearer size array; inner = r.inner },
      clean_in_row s _ others in_one array (earlier ++ (name ∷ [])) r.after,
    )

clean_children : (s : Spec) (array : Option Amount) (body : Body) → Each (Clean s) (inside array body) → Each (IsClean s) (children_of body)
clean_children s array Basic h = tt
clean_children s array (One' first shape row buses transitions) h = clean_in_row s _ row true array [] h
clean_children s array (All' shape row) h = clean_in_row s _ row false array [] h

-- Steps.

module _ (s : Spec) (place : Scope) (r : Indices) (o : Reads s place r) where
  abbrev g : Globals
  g = globals_of s

  -- What is known of the steps below a state: they lead to a state inside it, and their indices are small.
  record Leads (body : Body) (p : Path) (ms : List Mention) : Type 0 where
    reached : IsOne (p ++ map (instance g r) ms) (map (λ (x : State). x.path) (subtree g body p))
    fits : Each (IndexFits s r) ms

  -- what is inside a child is inside the state
  in_child : (body : Body) (p : Path) (c : StateDecl) (i : ℕ) (q : Path) → IsOne c (children_of body) → IsOne i (indices g c.size) → IsOne q (map (λ (x : State). x.path) (subtree g c.body (child_path p (at c.name i))))
      → IsOne q (map (λ (x : State). x.path) (made.inside g body p))
  in_child body p c i q m k h =
      let x = one_of_map (λ (x : State). x.path) (subtree g c.body (child_path p (at c.name i))) q h in
      let here : IsOne x.0 (child_states g p c) = one_flat_map (λ i. subtree g c.body (child_path p (at c.name i))) (indices g c.size) i x.0 k x.1 in
      let all : IsOne x.0 (made.inside g body p) = subst (λ xs. IsOne x.0 xs) (sym (inside_body g p body)) (one_flat_map (child_states g p) (children_of body) c x.0 m here) in
      subst (λ z. IsOne z (map (λ (x : State). x.path) (made.inside g body p))) (sym x.2) (one_map (λ (x : State). x.path) (made.inside g body p) x.0 all)

  steps_lead : (ms : List Mention) (body : Body) (array : Option Amount) (p : Path) → Each (Clean s) (inside array body) → steps_used (name_tables s) place (children_of body) ms ≡ [] → are_steps (children_of body) ms ≡ true → Leads body p ms
  steps_lead [] body array p clean h k = record { reached = inl (append-nil p); fits = tt }
  steps_lead (m ∷ ms) body array p clean h k = by_child (child_named m.name (children_of body)) refl h k (steps_lead ms)
    where
      i : ℕ
      i = index_number g r m.index

      by_child : (found : Option StateDecl) → child_named m.name (children_of body) ≡ found
          → option_map_or (λ c. breach 6 m.name (not (is_indexed g place (size_number g c.size) m.index)) ++ steps_used (name_tables s) place (children_of c.body) ms) found [] ≡ []
          → option_map_or (λ c. are_steps (children_of c.body) ms) found false ≡ true
          → ((body : Body) (array : Option Amount) (p : Path) → Each (Clean s) (inside array body) → steps_used (name_tables s) place (children_of body) ms ≡ [] → are_steps (children_of body) ms ≡ true → Leads body p ms)
          → Leads body p (m ∷ ms)
      by_child None e h k next = absurd (true≢false (sym k))
      by_child (Some c) e h k next =
          let wrong = breach 6 m.name (not (is_indexed g place (size_number g c.size) m.index)) in
          let f = found_is (λ (c : StateDecl). same m.name c.name) (children_of body) c e in
          let child = each_one (IsClean s) (children_of body) c (clean_children s array body clean) f.0 in
          let right = holds 6 m.name (is_indexed g place (size_number g c.size) m.index) (no_front wrong (steps_used (name_tables s) place (children_of c.body) ms) h) in
          let index = index_is s place r o c.size (few_sized g c.size child.few) m.index right in
          let inner = next c.body child.array (child_path p (at c.name i)) child.inner (no_back wrong (steps_used (name_tables s) place (children_of c.body) ms) h) k in
          let named : child_path p (at c.name i) ++ map (instance g r) ms ≡ p ++ (at m.name i ∷ map (instance g r) ms) =
          append_assoc p (at c.name i ∷ []) (map (instance g r) ms) ∙ ap (λ n. p ++ (at n i ∷ map (instance g r) ms)) (sym (name_same m.name c.name f.1)) in
          record {
            reached = inr (subst (λ q. IsOne q (map (λ (x : State). x.path) (made.inside g body p))) named (in_child body p c i (child_path p (at c.name i) ++ map (instance g r) ms) f.0 index inner.reached));
            fits = (one_few g c.size i child.few index, inner.fits);
          }

-- Paths.

-- S6 and S9 are kept: the path is that of a state, and each index is small
pub path_scoped : (s : Spec) → IsChecked s → (place : Scope) (r : Indices) → Reads s place r → (path : List Mention) → has_items path ≡ true → path_used (name_tables s) place path ≡ [] → PathIsScoped s r path
path_scoped s checked place r o [] k h = absurd (true≢false (sym k))
path_scoped s checked place r o (m ∷ ms) k h = scoped
  where
    right : (same m.name s.top && (is_none m.index && are_steps (children_of s.body) ms)) ≡ true
    right = holds 9 (last_name m ms) (names_state (name_tables s) m ms)
        (no_back (if same m.name s.top then steps_used (name_tables s) place (children_of s.body) ms else []) (breach 9 (last_name m ms) (not (names_state (name_tables s) m ms))) h)

    top : same m.name s.top ≡ true
    top = first_so (same m.name s.top) (is_none m.index && are_steps (children_of s.body) ms) right

    later : (is_none m.index && are_steps (children_of s.body) ms) ≡ true
    later = second_so (same m.name s.top) (is_none m.index && are_steps (children_of s.body) ms) right

    no_index : (x : Option Index) → is_none x ≡ true → index_number (globals_of s) r x ≡ 0
    no_index None e = refl
    no_index (Some x) e = absurd (true≢false (sym e))

    zero_index : index_number (globals_of s) r m.index ≡ 0
    zero_index = no_index m.index (first_so (is_none m.index) (are_steps (children_of s.body) ms) later)

    kept : steps_used (name_tables s) place (children_of s.body) ms ≡ []
    kept = ap (λ b. if b then steps_used (name_tables s) place (children_of s.body) ms else []) (sym top)
        ∙ no_front (if same m.name s.top then steps_used (name_tables s) place (children_of s.body) ms else []) (breach 9 (last_name m ms) (not (names_state (name_tables s) m ms))) h

    leads : Leads s place r o s.body (at s.top 0 ∷ []) ms
    leads = steps_lead s place r o ms s.body None (at s.top 0 ∷ []) (clean_states s checked.keeps.rules).inner kept (second_so (is_none m.index) (are_steps (children_of s.body) ms) later)

    is : at s.top 0 ∷ map (instance (globals_of s) r) ms ≡ map (instance (globals_of s) r) (m ∷ ms)
    is = ap (λ n. at n 0 ∷ map (instance (globals_of s) r) ms) (sym (name_same m.name s.top top)) ∙ ap (λ k. at m.name k ∷ map (instance (globals_of s) r) ms) (sym zero_index)

    scoped : PathIsScoped s r (m ∷ ms)
    scoped =
        let there = place_is (states s) (map (instance (globals_of s) r) (m ∷ ms)) (subst (λ q. IsOne q (map (λ (x : State). x.path) (states s))) is leads.reached) in
        record { node = there.0; place = there.1; fits = (omega (arith, zero_index), leads.fits) }
