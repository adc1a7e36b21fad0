-- Paths and their places among states.
use Rattle.std.proofs.Common.{◌≡◌, ℕ, zero, suc, ◌+◌, Bool, true, false, cond, ◌&&◌, List, [], ◌∷◌, ◌++◌, length, Option, Some, None, ⊎_elim, refl, sym, ap, ◌∙◌, subst, arith, true≢false, append_assoc, append-nil}
use Rattle.std.specs.Option.{option_and_then}
use Rattle.std.specs.List.{position_from}
use Rattle.std.specs.Cmp.{first_so, second_so}
use Rattle.rsml_meaning.specs.Words.{Path, Instance, Each, same_instance, is_prefix, same_path, child_path}
use Rattle.rsml_meaning.specs.Instances.{State}
use Rattle.rsml_meaning.proofs.Same.{instance_same, instance_itself}
use Rattle.state_arrays.specs.Places.{path_place, path_at}
use Rattle.state_arrays.specs.Trees.{PathsDiffer, HasPath, IsStep, IsTree}
use Rattle.state_arrays.specs.Children.{path_of, child_place}

-- Lists.

pub cancel_front : {A : Type 0} (p xs ys : List A) → p ++ xs ≡ p ++ ys → xs ≡ ys
cancel_front [] xs ys e = e
cancel_front (x ∷ p) xs ys e = cancel_front p xs ys (let f : p ++ xs ≡ p ++ ys = cc in f)

-- lists that are equal with one item more are equal, and so are the items
pub same_last : {A : Type 0} (xs ys : List A) (a b : A) → xs ++ (a ∷ []) ≡ ys ++ (b ∷ []) → (xs ≡ ys) × (a ≡ b)
same_last [] [] a b e = (refl, cc)
same_last [] (y ∷ ys) a b e = absurd (not_nil ys b (let f : [] ≡ ys ++ (b ∷ []) = cc in f))
  where
    not_nil : {A : Type 0} (zs : List A) (c : A) → [] ≡ zs ++ (c ∷ []) → ⊥
    not_nil [] c f = cc
    not_nil (z ∷ zs) c f = cc
same_last (x ∷ xs) [] a b e = absurd (not_nil xs a (let f : xs ++ (a ∷ []) ≡ [] = cc in f))
  where
    not_nil : {A : Type 0} (zs : List A) (c : A) → zs ++ (c ∷ []) ≡ [] → ⊥
    not_nil [] c f = cc
    not_nil (z ∷ zs) c f = cc
same_last (x ∷ xs) (y ∷ ys) a b e =
    let f : xs ++ (a ∷ []) ≡ ys ++ (b ∷ []) = cc in
    let g : x ≡ y = cc in
    let r = same_last xs ys a b f in
    ((λ i. g i ∷ r.0 i), r.1)

not_step : {A : Type 0} (xs : List A) (a : A) → xs ++ (a ∷ []) ≡ [] → ⊥
not_step [] a e = cc
not_step (x ∷ xs) a e = cc

-- What is left of a list without its last item, and that item.
record Unended {A : Type 0} (xs : List A) : Type 0 where
  before : List A
  last : A
  is : xs ≡ before ++ (last ∷ [])

unended : {A : Type 0} (x : A) (xs : List A) → Unended (x ∷ xs)
unended x [] = record { before = []; last = x; is = refl }
unended x (y ∷ xs) = let r = unended y xs in record { before = x ∷ r.before; last = r.last; is = ap (λ l. x ∷ l) r.is }

-- Sameness.

prefix_itself : (p : Path) → is_prefix p p ≡ true
prefix_itself [] = refl
prefix_itself (x ∷ p) = ap (λ b. b && is_prefix p p) (instance_itself x) ∙ prefix_itself p

path_itself : (p : Path) → same_path p p ≡ true
path_itself p = ap (λ b. b && is_prefix p p) (prefix_itself p) ∙ prefix_itself p

both_prefixes : (p q : Path) → is_prefix p q ≡ true → is_prefix q p ≡ true → p ≡ q
both_prefixes [] [] h k = refl
both_prefixes [] (y ∷ q) h k = absurd (true≢false (sym k))
both_prefixes (x ∷ p) [] h k = absurd (true≢false (sym h))
both_prefixes (x ∷ p) (y ∷ q) h k =
    let e = instance_same x y (first_so (same_instance x y) (is_prefix p q) h) in
    let f = both_prefixes p q (second_so (same_instance x y) (is_prefix p q) h) (second_so (same_instance y x) (is_prefix q p) k) in
    λ i. e i ∷ f i

path_same : (p q : Path) → same_path p q ≡ true → p ≡ q
path_same p q h = both_prefixes p q (first_so (is_prefix p q) (is_prefix q p) h) (second_so (is_prefix p q) (is_prefix q p) h)

pub path_other : (p q : Path) → (p ≡ q → ⊥) → same_path p q ≡ false
path_other p q h = by (same_path p q) refl
  where
    by : (b : Bool) → same_path p q ≡ b → b ≡ false
    by true e = absurd (h (path_same p q e))
    by false e = refl

-- Places.

-- the fact holds of the state at a place
pub each_at : (P : Path → Type 0) (xs : List State) (n : ℕ) (p : Path) → Each (λ x. P x.path) xs → path_at xs n ≡ Some p → P p
each_at P [] n p h e = cc
each_at P (x ∷ xs) zero p h e = subst P (let f : x.path ≡ p = cc in f) h.0
each_at P (x ∷ xs) (suc n) p h e = each_at P xs n p h.1 e

place_from : (xs : List State) (k n : ℕ) (p : Path) → PathsDiffer xs → path_at xs n ≡ Some p → position_from (λ (x : State). same_path p x.path) k xs ≡ Some (k + n)
place_from [] k n p d e = cc
place_from (x ∷ xs) k zero p d e =
    ap (λ (b : Bool). cond b (Some k) (position_from (λ (x : State). same_path p x.path) (k + 1) xs)) (ap (same_path p) (let f : x.path ≡ p = cc in f) ∙ path_itself p) ∙ ap (λ (m : ℕ). Some m) (omega arith)
place_from (x ∷ xs) k (suc n) p d e =
    ap (λ (b : Bool). cond b (Some k) (position_from (λ (x : State). same_path p x.path) (k + 1) xs)) (path_other p x.path (λ f. each_at (λ q. x.path ≡ q → ⊥) xs n p d.0 e (sym f)))
    ∙ place_from xs (k + 1) n p d.1 e
    ∙ ap (λ (m : ℕ). Some m) (omega arith)

pub place_at : (xs : List State) (n : ℕ) (p : Path) → PathsDiffer xs → path_at xs n ≡ Some p → path_place xs p ≡ Some n
place_at xs n p d e = place_from xs 0 n p d e ∙ ap (λ (m : ℕ). Some m) (omega arith)

at_from : (xs : List State) (k n : ℕ) (p : Path) → position_from (λ (x : State). same_path p x.path) k xs ≡ Some n → (m : ℕ) × (n ≡ k + m) × (path_at xs m ≡ Some p)
at_from [] k n p h = cc
at_from (x ∷ xs) k n p h = by (same_path p x.path) refl h (at_from xs (k + 1) n p)
  where
    by : (b : Bool) → same_path p x.path ≡ b → cond b (Some k) (position_from (λ (x : State). same_path p x.path) (k + 1) xs) ≡ Some n
        → (position_from (λ (x : State). same_path p x.path) (k + 1) xs ≡ Some n → (m : ℕ) × (n ≡ k + 1 + m) × (path_at xs m ≡ Some p)) → (m : ℕ) × (n ≡ k + m) × (path_at (x ∷ xs) m ≡ Some p)
    by true e f next = (0, let g : k ≡ n = cc in omega (arith, g), ap (λ (q : Path). Some q) (sym (path_same p x.path e)))
    by false e f next = let r = next f in let l = r.1 in (suc r.0, omega (arith, l), r.2)

pub at_place : (xs : List State) (n : ℕ) (p : Path) → path_place xs p ≡ Some n → path_at xs n ≡ Some p
at_place xs n p h = let r = at_from xs 0 n p h in let l = r.1 in let e : r.0 ≡ n = omega (arith, l) in subst (λ m. path_at xs m ≡ Some p) e r.2

-- The node after these steps: none before the first.
abbrev pub IsAfter : List State → Path → Option ℕ → Type 0
IsAfter xs p None = p ≡ []
IsAfter xs p (Some n) = path_at xs n ≡ Some p

-- a state that has a path is found by it
pub found_at : (xs : List State) (p : Path) → HasPath xs p → (n : ℕ) × (path_place xs p ≡ Some n)
found_at xs p h = from xs 0 h.0 h.1
  where
    from : (xs : List State) (k n : ℕ) → path_at xs n ≡ Some p → (m : ℕ) × (position_from (λ (x : State). same_path p x.path) k xs ≡ Some m)
    from [] k n e = cc
    from (x ∷ xs) k zero e = (k, ap (λ (b : Bool). cond b (Some k) (position_from (λ (x : State). same_path p x.path) (k + 1) xs)) (ap (same_path p) (let f : x.path ≡ p = cc in f) ∙ path_itself p))
    from (x ∷ xs) k (suc n) e = by (same_path p x.path) (from xs (k + 1) n e)
      where
        by : (b : Bool) → (m : ℕ) × (position_from (λ (x : State). same_path p x.path) (k + 1) xs ≡ Some m) → (m : ℕ) × (cond b (Some k) (position_from (λ (x : State). same_path p x.path) (k + 1) xs) ≡ Some m)
        by true r = (k, refl)
        by false r = r

-- the place of a child, among states that are known
pub child_known : (xs ys : List State) (n : ℕ) (step : Instance) (o : Option ℕ) → xs ≡ ys → ((p : Path) → path_at xs n ≡ Some p → o ≡ path_place xs (child_path p step))
    → (p : Path) → path_at ys n ≡ Some p → o ≡ path_place ys (child_path p step)
child_known xs ys n step o e h = subst (λ zs. (p : Path) → path_at zs n ≡ Some p → o ≡ path_place zs (child_path p step)) e h

-- Trees.

module _ (xs : List State) (tree : IsTree xs) where
  pub step_of : (p : Path) → HasPath xs p → IsStep xs p
  step_of p h = each_at (IsStep xs) xs h.0 p tree.steps h.1

  -- no path is without a step
  pub never_empty : HasPath xs [] → ⊥
  never_empty h = let r = step_of [] h in not_step r.above r.step (sym r.is)

  no_state : (p : Path) → (HasPath xs p → ⊥) → path_place xs p ≡ None
  no_state p h = by (path_place xs p) refl
    where
      by : (o : Option ℕ) → path_place xs p ≡ o → o ≡ None
      by None e = refl
      by (Some n) e = absurd (h (n, at_place xs n p e))

  -- with a path each beginning of it is there
  pub begins : (n : ℕ) (q r : Path) → length r ≡ n → (q ≡ [] → ⊥) → HasPath xs (q ++ r) → HasPath xs q
  begins n q [] l some h = subst (HasPath xs) (append-nil q) h
  begins zero q (x ∷ r) l some h = absurd (let no : ⊥ = omega (arith, l) in no)
  begins (suc n) q (x ∷ r) l some h =
      let u = unended x r in
      let st = step_of (q ++ (x ∷ r)) h in
      let e = same_last (q ++ u.before) st.above u.last st.step (append_assoc q u.before (u.last ∷ []) ∙ ap (λ (z : Path). q ++ z) (sym u.is) ∙ st.is) in
      let long : length (x ∷ r) ≡ suc (length u.before) = ap length u.is ∙ more u.before u.last in
      begins n q u.before (omega (arith, long, l)) some
      (⊎_elim (λ none. absurd (some (front_nil q u.before (e.0 ∙ none)))) (λ has. subst (HasPath xs) (sym e.0) has) st.around)
    where
      front_nil : (a b : Path) → a ++ b ≡ [] → a ≡ []
      front_nil [] b f = refl
      front_nil (y ∷ a) b f = cc

      more : (a : Path) (y : Instance) → length (a ++ (y ∷ [])) ≡ suc (length a)
      more [] y = refl
      more (z ∷ a) y = ap suc (more a y)

  path_after : (p : Path) (o : Option ℕ) → IsAfter xs p o → path_of xs o ≡ Some p
  path_after p None h = ap (λ (q : Path). Some q) (sym h)
  path_after p (Some n) h = h

  child_after : (p : Path) (o : Option ℕ) (step : Instance) → IsAfter xs p o → child_place xs xs o step ≡ path_place xs (child_path p step)
  child_after p o step h = ap (λ (q : Option Path). option_and_then (λ p. path_place xs (child_path p step)) q) (path_after p o h)

  pub after_step : (p : Path) (o : Option ℕ) (step : Instance) (m : ℕ) → IsAfter xs p o → child_place xs xs o step ≡ Some m → path_at xs m ≡ Some (child_path p step)
  after_step p o step m h e = at_place xs m (child_path p step) (sym (child_after p o step h) ∙ e)

  pub after_none : (p : Path) (o : Option ℕ) (step : Instance) (rest : Path) → IsAfter xs p o → child_place xs xs o step ≡ None → path_place xs (p ++ (step ∷ rest)) ≡ None
  after_none p o step rest h e = no_state (p ++ (step ∷ rest)) (λ has. none (begins (length rest) (child_path p step) rest refl (not_step p step) (subst (HasPath xs) (sym (append_assoc p (step ∷ []) rest)) has)))
    where
      none : HasPath xs (child_path p step) → ⊥
      none has = let f : None ≡ Some has.0 = sym e ∙ child_after p o step h ∙ place_at xs has.0 (child_path p step) tree.differ has.1 in (let no : ⊥ = cc in no)

  pub after_all : (p : Path) (o : Option ℕ) → IsAfter xs p o → o ≡ path_place xs p
  after_all p None h = sym (ap (path_place xs) h ∙ no_state [] never_empty)
  after_all p (Some n) h = sym (place_at xs n p tree.differ h)
