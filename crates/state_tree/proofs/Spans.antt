-- The end of a state.
use Rattle.std.proofs.Common.{◌≡◌, ℕ, zero, suc, ◌+◌, ◌<◌, ◌≤◌, true, false, ◌&&◌, List, [], ◌∷◌, ◌++◌, length, Some, None, ◌⊎◌, inl, inr, ⊎_elim, sym, ap, ◌∙◌, subst, slice_get, true≢false, arith, nat_le, nat_lt, eq-or-lt_of_le, length-append, append-nil}
use Rattle.std.specs.Option.{option_and_then}
use Rattle.std.proofs.lemmas.Bool.{cases_lt}
use Rattle.std.proofs.lemmas.Bool.Decides.{nat_tests}
use Rattle.std.proofs.lemmas.Option.{same_Some}
use Rattle.std.proofs.lemmas.List.{length-map}
use Rattle.rsml_syntax.specs.declared.syntax.Spec.{Spec}
use Rattle.rsml_syntax.specs.declared.world.Step.{Step}
use Rattle.rsml_syntax.specs.limits.Checked.{IsChecked}
use Rattle.rsml_meaning.specs.Words.{Path, child_path, is_prefix}
use Rattle.rsml_meaning.specs.Instances.{State, states}
use Rattle.state_tree.specs.nodes.Numbers.{IsPlace, paths, path_above, path_around}
use Rattle.state_tree.specs.Tables.{IsEnd}
use Rattle.state_tree.proofs.Above.{above_is, above_none}
use Rattle.state_tree.proofs.Lists.{get_within, within_get, get_map, get_of_map, not_true}
use Rattle.rsml_meaning.proofs.Prefixes.{prefix_self, prefix_append, prefix_rest, prefix_then, whole_prefix, linear, longer}
use Rattle.state_tree.proofs.Spread.{end_is, one_place, some_steps, get_parts}
use Rattle.state_tree.proofs.Walks.{told_none, told_path}

inside_test : (a j e : ℕ) → a ≤ j → j < e → (nat_le a j && nat_lt j e) ≡ true
inside_test a j e h k = grind (arith, nat_tests)

before_test : (a j e : ℕ) → j < a → (nat_le a j && nat_lt j e) ≡ false
before_test a j e h = grind (arith, nat_tests)

past_test : (a j e : ℕ) → e ≤ j → (nat_le a j && nat_lt j e) ≡ false
past_test a j e h = grind (arith, nat_tests)

-- a test that holds says so
pub is_inside : (a j e : ℕ) → (nat_le a j && nat_lt j e) ≡ true → (a ≤ j) × (j < e)
is_inside a j e h = (
  ⊎_elim (λ l. absurd (true≢false (sym h ∙ before_test a j e l))) (λ l. l) (cases_lt j a),
  ⊎_elim (λ l. l) (λ l. absurd (true≢false (sym h ∙ past_test a j e l))) (cases_lt j e),
)

pub is_past : (a j e : ℕ) → a ≤ j → (nat_le a j && nat_lt j e) ≡ false → e ≤ j
is_past a j e l h = ⊎_elim (λ k. absurd (true≢false (sym (inside_test a j e l k) ∙ h))) (λ k. k) (cases_lt j e)

-- all from a state on are in it up to here, and none from here on
abbrev pub AllIn : List Path → Path → ℕ → ℕ → Type 0
AllIn ps p node end = (j : ℕ) (q : Path) → node < j → j < end → slice_get ps j ≡ Some q → is_prefix p q ≡ true

end_by : (s : Spec) → IsChecked s → (node end : ℕ) (p : Path) → slice_get (paths (states s)) node ≡ Some p → node < end → end ≤ length (paths (states s)) → AllIn (paths (states s)) p node end
    → ((j : ℕ) (q : Path) → end ≤ j → slice_get (paths (states s)) j ≡ Some q → is_prefix p q ≡ false) → IsEnd (paths (states s)) node end
end_by s c node end p here l within all rest = record {
  within = within;
  span = λ p' e j q g. subst (λ z. is_prefix z q ≡ (nat_le node j && nat_lt j end)) (same_Some p p' (sym here ∙ e)) (by_place j q g (cases_lt j node));
}
  where
    at_least : (j : ℕ) (q : Path) → slice_get (paths (states s)) j ≡ Some q → node ≤ j → j < end → is_prefix p q ≡ true
    at_least j q g a b = ⊎_elim
        (λ e. subst (λ z. is_prefix p z ≡ true) (same_Some p q (sym here ∙ ap (λ k. slice_get (paths (states s)) k) e ∙ g)) (prefix_self p))
        (λ m. all j q m b g)
        (eq-or-lt_of_le a)

    by_place : (j : ℕ) (q : Path) → slice_get (paths (states s)) j ≡ Some q → (j < node) ⊎ (node ≤ j) → is_prefix p q ≡ (nat_le node j && nat_lt j end)
    by_place j q g (inl k) = let r = end_is s c node p here in r.1 j q g ∙ before_test node j r.0 k ∙ sym (before_test node j end k)
    by_place j q g (inr k) = ⊎_elim
        (λ b. at_least j q g k b ∙ sym (inside_test node j end k b))
        (λ b. rest j q b g ∙ sym (past_test node j end b))
        (cases_lt j end)

-- the first state that is not in it ends it
pub end_found : (s : Spec) → IsChecked s → (node end : ℕ) (p q : Path) → slice_get (paths (states s)) node ≡ Some p → slice_get (paths (states s)) end ≡ Some q → is_prefix p q ≡ false → node < end
    → AllIn (paths (states s)) p node end → IsEnd (paths (states s)) node end
end_found s c node end p q here there out l all =
    let r = end_is s c node p here in
    let past = is_past node end r.0 (omega (arith, l)) (sym (r.1 end q there) ∙ out) in
    let w = get_within (paths (states s)) end q there in
    end_by s c node end p here l (omega (arith, w)) all (λ j z b g. r.1 j z g ∙ past_test node j r.0 (omega (arith, past, b)))

-- where there is none, it ends with all states
pub end_last : (s : Spec) → IsChecked s → (node : ℕ) (p : Path) → slice_get (paths (states s)) node ≡ Some p → AllIn (paths (states s)) p node (length (paths (states s))) → IsEnd (paths (states s)) node (length (paths (states s)))
end_last s c node p here all =
    let w = get_within (paths (states s)) node p here in
    end_by s c node (length (paths (states s))) p here w (omega arith) all (λ j q b g. let l = get_within (paths (states s)) j q g in absurd (omega (arith, l, b)))

-- one more state is in it
pub one_more_in : (ps : List Path) (p : Path) (node end : ℕ) (r : Path) → slice_get ps end ≡ Some r → is_prefix p r ≡ true → AllIn ps p node end → AllIn ps p node (end + 1)
one_more_in ps p node end r there also all j q a b g = ⊎_elim
    (λ l. all j q a l g)
    (λ l. let e : end ≡ j = omega (arith, l, b) in subst (λ z. is_prefix p z ≡ true) (same_Some r q (sym there ∙ ap (λ k. slice_get ps k) e ∙ g)) also)
    (cases_lt j end)

pub longer_prefix : (p q : Path) (step : Step) → q ≡ child_path p step → is_prefix p q ≡ true
longer_prefix p q step e = subst (λ z. is_prefix p z ≡ true) (sym e) (prefix_append p (step ∷ []))

-- what begins a path that is one step longer is that path, or begins the shorter one
prefix_of_child : (p r q : Path) (x : Step) → q ≡ child_path r x → is_prefix p q ≡ true → (p ≡ q) ⊎ (is_prefix p r ≡ true)
prefix_of_child p r q x e h = let a = prefix_rest p q h in ⊎_elim
    (λ b. inr (subst (λ z. is_prefix p z ≡ true) (sym b.1) (prefix_append p b.0)))
    (λ b. by_rest b.0 b.1)
    (linear p r a.0 (x ∷ []) (sym a.1 ∙ e))
  where
    by_rest : (b : Path) → p ≡ r ++ b → (p ≡ q) ⊎ (is_prefix p r ≡ true)
    by_rest [] k = inr (subst (λ z. is_prefix z r ≡ true) (sym (k ∙ append-nil r)) (prefix_self r))
    by_rest (y ∷ b) k = inl (whole_prefix p q h (let d = ap length e in let f = ap length k in omega (arith, d, f, length-append r (x ∷ []), length-append r (y ∷ b))))

-- the path of a state that is there
path_at : (xs : List State) (node : ℕ) → node < length xs → (p : Path) × (slice_get (paths xs) node ≡ Some p)
path_at xs node l = let r = within_get xs node l in (r.0.path, get_map (λ (x : State). x.path) xs node r.0 r.1)

-- By the state around.

-- what is in a state comes after it
around_first : (s : Spec) → IsChecked s → (parent node : ℕ) (r q : Path) (x : Step) → slice_get (paths (states s)) parent ≡ Some r → slice_get (paths (states s)) node ≡ Some q → q ≡ child_path r x → parent < node
around_first s c parent node r q x there here e =
    let h = end_is s c parent r there in
    let l = is_inside parent node h.0 (sym (h.1 node q here) ∙ longer_prefix r q x e) in
    ⊎_elim
    (λ k. absurd (let d = ap length (same_Some r q (sym there ∙ ap (λ n. slice_get (paths (states s)) n) k ∙ here) ∙ e) in let m = longer r x [] in omega (arith, d, m)))
    (λ k. k)
    (eq-or-lt_of_le l.0)

-- a state is in one that all between the two are in, where the state around it does not come before that one
pub also_in : (s : Spec) → IsChecked s → (node end parent : ℕ) (p q : Path) → slice_get (paths (states s)) node ≡ Some p → slice_get (paths (states s)) end ≡ Some q → AllIn (paths (states s)) p node end
    → IsPlace (paths (states s)) (path_above q) (Some parent) → node ≤ parent → is_prefix p q ≡ true
also_in s c node end parent p q here there all place l =
    let t = told_path (paths (states s)) (path_above q) parent place in
    let a = above_is q t.0 t.1 in
    let before = around_first s c parent end t.0 q a.0 t.2 there a.1 in
    prefix_then p t.0 q
    (⊎_elim
    (λ e. subst (λ z. is_prefix p z ≡ true) (same_Some p t.0 (sym here ∙ ap (λ k. slice_get (paths (states s)) k) e ∙ t.2)) (prefix_self p))
    (λ m. all parent t.0 m before t.2)
    (eq-or-lt_of_le l))
    (longer_prefix t.0 q a.0 a.1)

-- a later state is not in one that comes after the state around it
pub not_in : (s : Spec) → IsChecked s → (node end parent : ℕ) (p q : Path) → slice_get (paths (states s)) node ≡ Some p → slice_get (paths (states s)) end ≡ Some q → node < end
    → IsPlace (paths (states s)) (path_above q) (Some parent) → parent < node → is_prefix p q ≡ false
not_in s c node end parent p q here there l place m = not_true (is_prefix p q) (λ h.
    let t = told_path (paths (states s)) (path_above q) parent place in
    let a = above_is q t.0 t.1 in
    let e = end_is s c node p here in
    ⊎_elim
    (λ d. let same = one_place s c node end q (here ∙ ap (λ z. Some z) d) there in omega (arith, same, l))
    (λ k. let i = is_inside node parent e.0 (sym (e.1 parent t.0 t.2) ∙ k) in let n = i.0 in omega (arith, n, m))
    (prefix_of_child p t.0 q a.0 a.1 h))

-- no later state is the top
pub not_top : (s : Spec) → IsChecked s → (node end : ℕ) (p q : Path) → slice_get (paths (states s)) node ≡ Some p → slice_get (paths (states s)) end ≡ Some q → node < end → path_above q ≡ None → is_prefix p q ≡ false
not_top s c node end p q here there l top = not_true (is_prefix p q) (λ h.
    let some = some_steps s c node p here in
    let same = whole_prefix p q h (let k = above_none q top in omega (arith, k, some)) in
    let place = one_place s c node end q (here ∙ ap (λ z. Some z) same) there in
    omega (arith, place, l))

-- The end of a state of a list that is that of the states.

-- the path of a state by the number that is told of the state around it
around_is : (xs : List State) (end : ℕ) (q : Path) → slice_get (paths xs) end ≡ Some q → path_around xs end ≡ path_above q
around_is xs end q there =
    let r = get_of_map (λ (x : State). x.path) xs end q there in
    ap (λ o. option_and_then (λ (x : State). path_above x.path) o) r.1 ∙ ap path_above r.2

-- all between a state and here are in it
abbrev pub InSoFar : List State → ℕ → ℕ → Type 0
InSoFar xs node end = (p : Path) → slice_get (paths xs) node ≡ Some p → AllIn (paths xs) p node end

abbrev StaysIn : List State → Type 0
StaysIn xs = (node end parent : ℕ) → end < length xs → IsPlace (paths xs) (path_around xs end) (Some parent) → node ≤ parent → InSoFar xs node end → InSoFar xs node (end + 1)

pub stays_in : (s : Spec) (xs : List State) → IsChecked s → xs ≡ states s → StaysIn xs
stays_in s xs c e = subst StaysIn (sym e) (λ node end parent l place m all p here.
    let q = path_at (states s) end l in
    one_more_in (paths (states s)) p node end q.0 q.1
    (also_in s c node end parent p q.0 here q.1 (all p here) (subst (λ o. IsPlace (paths (states s)) o (Some parent)) (around_is (states s) end q.0 q.1) place) m) (all p here))

abbrev EndsHere : List State → Type 0
EndsHere xs = (node end parent : ℕ) → end < length xs → node < end → IsPlace (paths xs) (path_around xs end) (Some parent) → parent < node → InSoFar xs node end → IsEnd (paths xs) node end

pub ends_here : (s : Spec) (xs : List State) → IsChecked s → xs ≡ states s → EndsHere xs
ends_here s xs c e = subst EndsHere (sym e) (λ node end parent l after place m all.
    let p = path_at (states s) node (omega (arith, l, after)) in
    let q = path_at (states s) end l in
    end_found s c node end p.0 q.0 p.1 q.1
    (not_in s c node end parent p.0 q.0 p.1 q.1 after (subst (λ o. IsPlace (paths (states s)) o (Some parent)) (around_is (states s) end q.0 q.1) place) m) after (all p.0 p.1))

abbrev EndsAtTop : List State → Type 0
EndsAtTop xs = (node end : ℕ) → end < length xs → node < end → IsPlace (paths xs) (path_around xs end) None → InSoFar xs node end → IsEnd (paths xs) node end

pub ends_at_top : (s : Spec) (xs : List State) → IsChecked s → xs ≡ states s → EndsAtTop xs
ends_at_top s xs c e = subst EndsAtTop (sym e) (λ node end l after place all.
    let p = path_at (states s) node (omega (arith, l, after)) in
    let q = path_at (states s) end l in
    end_found s c node end p.0 q.0 p.1 q.1
    (not_top s c node end p.0 q.0 p.1 q.1 after (sym (around_is (states s) end q.0 q.1) ∙ told_none (paths (states s)) (path_around (states s) end) place)) after (all p.0 p.1))

abbrev EndsLast : List State → Type 0
EndsLast xs = (node : ℕ) → node < length xs → InSoFar xs node (length xs) → IsEnd (paths xs) node (length xs)

pub ends_last : (s : Spec) (xs : List State) → IsChecked s → xs ≡ states s → EndsLast xs
ends_last s xs c e = subst EndsLast (sym e) (λ node l all.
    let p = path_at (states s) node l in
    let n : length (paths (states s)) ≡ length (states s) = length-map (states s) (λ (x : State). x.path) in
    subst (λ k. IsEnd (paths (states s)) node k) n (end_last s c node p.0 p.1 (subst (λ k. AllIn (paths (states s)) p.0 node k) (sym n) (all p.0 p.1))))

-- an end is the only one
pub one_end : (ps : List Path) (i e f : ℕ) (p : Path) → slice_get ps i ≡ Some p → IsEnd ps i e → i < f → f ≤ length ps → ((j : ℕ) (q : Path) → slice_get ps j ≡ Some q → is_prefix p q ≡ (nat_le i j && nat_lt j f)) → e ≡ f
one_end ps i e f p here ends l m span = ⊎_elim
    (λ k. let q = within_get ps e (omega (arith, k, m)) in
    absurd (true≢false (sym (inside_test i e f (let a = after in omega (arith, a)) k) ∙ sym (span e q.0 q.1) ∙ ends.span p here e q.0 q.1 ∙ past_test i e e (omega arith))))
    (λ k. ⊎_elim
    (λ d. sym d)
    (λ n. let w = ends.within in let q = within_get ps f (omega (arith, n, w)) in
    absurd (true≢false (sym (inside_test i f e (omega (arith, l)) n) ∙ sym (ends.span p here f q.0 q.1) ∙ span f q.0 q.1 ∙ past_test i f f (omega arith))))
    (eq-or-lt_of_le k))
    (cases_lt e f)
  where
    after : i < e
    after = (is_inside i i e (sym (ends.span p here i p here) ∙ prefix_self p)).1

pub ends_push : (ps : List Path) (es : List ℕ) (n e : ℕ) → length es ≡ n → ((node end : ℕ) → slice_get es node ≡ Some end → IsEnd ps node end) → IsEnd ps n e → (node end : ℕ) → slice_get (es ++ e ∷ []) node ≡ Some end → IsEnd ps node end
ends_push ps es n e l all this node end g = ⊎_elim (λ k. all node end (front es node k.0 g)) (λ k. last k.0 k.1 k.2) (get_parts es (e ∷ []) node end g)
  where
    front : (es : List ℕ) (node : ℕ) → node < length es → slice_get (es ++ e ∷ []) node ≡ Some end → slice_get es node ≡ Some end
    front [] node k g = absurd (omega (arith, k))
    front (d ∷ es) zero k g = g
    front (d ∷ es) (suc node) k g = front es node (omega (arith, k)) g

    last : (k : ℕ) → node ≡ length es + k → slice_get (e ∷ []) k ≡ Some end → IsEnd ps node end
    last zero q h = subst (λ (z : ℕ). IsEnd ps z end) (let d : n ≡ node = omega (arith, q, l) in d) (subst (λ (z : ℕ). IsEnd ps n z) (same_Some e end h) this)
    last (suc k) q h = absurd (let no : ⊥ = cc in no)
