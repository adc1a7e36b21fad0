-- The children of a state: the index of `this`, and the paths of those of a `one` state.
use Rattle.std.proofs.Common.{◌≡◌, ℕ, ◌≤◌, true, false, not, ◌&&◌, ◌==◌, List, [], ◌∷◌, ◌++◌, map, flat_map, fold, is_some, Option, Some, None, if◌then◌else◌, inl, inr, ⊎_elim, refl, sym, ap, ◌∙◌, subst, true≢false, arith}
use Rattle.std.proofs.lemmas.Bool.Decides.{nat_tests}
use Rattle.rsml_syntax.specs.declared.syntax.Spec.{Spec}
use Rattle.rsml_syntax.specs.declared.syntax.Amount.{Amount}
use Rattle.rsml_syntax.specs.declared.syntax.Body.{Row_of-StateDecl, end_of-StateDecl, more_of-StateDecl}
use Rattle.rsml_syntax.specs.declared.world.Step.{Step}
use Rattle.rsml_syntax.specs.text.Names.{Name, is_in}
use Rattle.rsml_syntax.specs.rules.Globals.{indices}
use Rattle.rsml_syntax.specs.rules.Breaches.{breach}
use Rattle.rsml_syntax.specs.grammar.Parts.{Opens, Closes, nearer, placed, inside, row_parts}
use Rattle.rsml_syntax.specs.grammar.Parts as part
use Rattle.rsml_syntax.specs.rules.Uses.{sized}
use Rattle.rsml_syntax.specs.rules.States.{state_scope, is_composed, is_misplaced}
use Rattle.rsml_syntax.specs.rules.Rules.{name_tables}
use Rattle.rsml_meaning.specs.Words.{Each, IsOne, Path, at, child_path}
use Rattle.rsml_meaning.specs.Instances.{State, globals_of, row_names, new_state, row_inside}
use Rattle.rsml_meaning.specs.Instances as made
use Rattle.rsml_meaning.specs.Transitions.{innermost}
use Rattle.rsml_meaning.proofs.Lists.{one_map, one_of_map, one_front, one_back}
use Rattle.rsml_syntax.proofs.Clean.{Clean, back_each, no_front, no_back, holds, unbroken}
use Rattle.rsml_meaning.proofs.rules.Names.{in_cases}
use Rattle.rsml_meaning.proofs.rules.Sizes.{IsSized, size_is, of_up_to, indices_are}

-- The index of `this`.

innermost_more : (path : Path) (step : Step) → innermost (child_path path step) ≡ (if step.index == 0 then innermost path else step.index)
innermost_more path step = last path 0
  where
    last : (p : Path) (i : ℕ) → fold (λ i (step : Step). if step.index == 0 then i else step.index) i (p ++ (step ∷ [])) ≡ (if step.index == 0 then fold (λ i (step : Step). if step.index == 0 then i else step.index) i p else step.index)
    last [] i = refl
    last (x ∷ p) i = last p (if x.index == 0 then i else x.index)

-- the innermost index of a child is one of the innermost array's
pub inner_index : (s : Spec) (around size : Option Amount) (path : Path) (name : Name) (i : ℕ) → IsSized (globals_of s) (nearer size around) → IsOne (innermost path) (indices (globals_of s) around) → IsOne i (indices (globals_of s) size)
    → IsOne (innermost (child_path path (at name i))) (indices (globals_of s) (nearer size around))
inner_index s around None path name i z m (inl e) = subst (λ k. IsOne k (indices (globals_of s) around)) (sym (innermost_more path (at name i) ∙ ap (λ (k : ℕ). if k == 0 then innermost path else k) e)) m
inner_index s around None path name i z m (inr k) = absurd k
inner_index s around (Some amount) path name i z m k =
    let r = of_up_to z.0 i (subst (λ ns. IsOne i ns) (indices_are (globals_of s) amount z.0 z.1) k) in
    subst (λ j. IsOne j (indices (globals_of s) (Some amount))) (sym (innermost_more path (at name i) ∙ not_zero i r.0)) k
  where
    not_zero : (i : ℕ) → 1 ≤ i → (if i == 0 then innermost path else i) ≡ i
    not_zero i l = let no : (i == 0) ≡ false = grind (arith, nat_tests) in ap (λ b. if b then innermost path else i) no

-- Children of a `one` state.

-- what is known of a state where it opens
pub opened_size : (s : Spec) (x : part.State) → Clean s (Opens x) → (is_misplaced x ≡ false) × IsSized (globals_of s) x.size
opened_size s x h =
    let size = sized (name_tables s) (state_scope (name_tables s) x) x.name x.size in
    let after = no_back (breach 10 x.name (not (is_composed x.body))) (breach 13 x.name (is_misplaced x) ++ size) (no_back (breach 1 x.name x.repeated) (breach 10 x.name (not (is_composed x.body)) ++ (breach 13 x.name (is_misplaced x) ++ size)) h) in
    (unbroken 13 x.name (is_misplaced x) (no_front (breach 13 x.name (is_misplaced x)) size after), size_is s (state_scope (name_tables s) x) x.name x.size (no_back (breach 13 x.name (is_misplaced x)) size after))

pub opened_body : (s : Spec) (x : part.State) → Clean s (Opens x) → is_composed x.body ≡ true
opened_body s x h =
    let rest = breach 13 x.name (is_misplaced x) ++ sized (name_tables s) (state_scope (name_tables s) x) x.name x.size in
    holds 10 x.name (is_composed x.body) (no_front (breach 10 x.name (not (is_composed x.body))) rest (no_back (breach 1 x.name x.repeated) (breach 10 x.name (not (is_composed x.body)) ++ rest) h))

-- a child of a `one` state has no size, so that its path is that of a state
pub child_is_state : (s : Spec) (around : Option Amount) (earlier : List Name) (n : _) (row : Row_of-StateDecl n) (path : Path) (x : Name) → Each (Clean s) (row_parts true around earlier row) → is_in x (row_names row) ≡ true
    → IsOne (child_path path (at x 0)) (map (λ (y : State). y.path) (row_inside (globals_of s) row path))
child_is_state s around earlier n end_of-StateDecl path x h k = absurd (true≢false (sym k))
child_is_state s around earlier n (more_of-StateDecl name size body others) path x h k =
    let y = placed name (is_in name earlier) size around true body in
    let here = flat_map (λ i. new_state body (child_path path (at name i)) ∷ made.inside (globals_of s) body (child_path path (at name i))) (indices (globals_of s) size) in
    let later = row_inside (globals_of s) others path in
    let rest = back_each (Clean s) (inside (nearer size around) body) (Closes y ∷ row_parts true around (earlier ++ (name ∷ [])) others) h.1 in
    ⊎_elim
    (λ e. front here later (subst (λ z. IsOne (child_path path (at z 0)) (map (λ (y : State). y.path) here)) (sym e) (no_size size (opened_size s y h.0).0)))
    (λ m. back here later (child_is_state s around (earlier ++ (name ∷ [])) _ others path x rest.1 m))
    (in_cases x name (row_names others) k)
  where
    front : (a b : List State) → IsOne (child_path path (at x 0)) (map (λ (y : State). y.path) a) → IsOne (child_path path (at x 0)) (map (λ (y : State). y.path) (a ++ b))
    front a b m = let r = one_of_map (λ (y : State). y.path) a (child_path path (at x 0)) m in
        subst (λ p. IsOne p (map (λ (y : State). y.path) (a ++ b))) (sym r.2) (one_map (λ (y : State). y.path) (a ++ b) r.0 (one_front r.0 a b r.1))

    back : (a b : List State) → IsOne (child_path path (at x 0)) (map (λ (y : State). y.path) b) → IsOne (child_path path (at x 0)) (map (λ (y : State). y.path) (a ++ b))
    back a b m = let r = one_of_map (λ (y : State). y.path) b (child_path path (at x 0)) m in
        subst (λ p. IsOne p (map (λ (y : State). y.path) (a ++ b))) (sym r.2) (one_map (λ (y : State). y.path) (a ++ b) r.0 (one_back r.0 a b r.1))

    no_size : (size : Option Amount) → (is_some size && true) ≡ false
        → IsOne (child_path path (at name 0)) (map (λ (y : State). y.path) (flat_map (λ i. new_state body (child_path path (at name i)) ∷ made.inside (globals_of s) body (child_path path (at name i))) (indices (globals_of s) size)))
    no_size None e = inl refl
    no_size (Some amount) e = absurd (true≢false e)
