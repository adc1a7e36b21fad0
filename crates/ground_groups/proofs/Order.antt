-- On a line the transitions of the states around come before those from the state itself.
use Rattle.std.proofs.Common.{◌≡◌, ℕ, suc, ◌+◌, ◌<◌, ◌≤◌, Bool, true, false, cond, ◌&&◌, ◌||◌, List, [], ◌∷◌, ◌++◌, map, filter, flat_map, filter_map, length, ◌⊎◌, Option, Some, None, ⊎_elim, inl, inr, refl, sym, ap, ◌∙◌, subst, slice_get, true≢false, arith, nat_le, nat_lt, ltb-true, length-append}
use Rattle.std.specs.Prelude.{⊤}
use Rattle.std.specs.List.{cons_option}
use Rattle.std.specs.Cmp.{first_so, second_so}
use Rattle.std.proofs.lemmas.Bool.Decides.{nat_tests}
use Rattle.rsml_syntax.specs.declared.syntax.Spec.{Spec}
use Rattle.rsml_syntax.specs.declared.world.Step.{Step}
use Rattle.rsml_syntax.specs.rules.Globals.{Globals}
use Rattle.rsml_syntax.specs.limits.Checked.{IsChecked}
use Rattle.rsml_syntax.proofs.Clean.{each_append}
use Rattle.rsml_meaning.specs.Words.{Instance, Path, Each, IsOne, at, child_path, is_prefix, is_proper_prefix, same_path, same_instance, numbered, item_of}
use Rattle.rsml_meaning.specs.Instances.{State, Component, states, components, globals_of}
use Rattle.rsml_meaning.specs.Transitions.{TransitionInstance, transitions, transitions_of, new_transition, sources, is_on, is_from, line}
use Rattle.rsml_meaning.proofs.Prefixes.{prefix_append, prefix_length, prefix_then, same_path_is, same_path_self, whole_prefix}
use Rattle.state_tree.specs.nodes.Numbers.{paths}
use Rattle.state_tree.proofs.Lists.{get_map, not_true, same_truth}
use Rattle.state_tree.proofs.Goods.{good_at}
use Rattle.state_tree.proofs.Spread.{end_is}
use Rattle.ground_groups.proofs.Rising.{each_so, each_one}

-- Two parts of a filter.

-- no item of the first kind is behind one of the second
abbrev pub AreApart : {A : Type 0} → (A → Bool) → (A → Bool) → List A → Type 0
AreApart a b [] = ⊤
AreApart a b (t ∷ ts) = (b t ≡ true → Each (λ u. a u ≡ false) ts) × AreApart a b ts

pub none_pass : {A : Type 0} (a : A → Bool) (ts : List A) → Each (λ u. a u ≡ false) ts → filter a ts ≡ []
none_pass a [] h = refl
none_pass a (t ∷ ts) h = ap (λ b. cond b (t ∷ filter a ts) (filter a ts)) h.0 ∙ none_pass a ts h.1

pub parts : {A : Type 0} (a b c : A → Bool) (ts : List A) → ((t : A) → c t ≡ (a t || b t)) → ((t : A) → a t ≡ true → b t ≡ true → ⊥) → AreApart a b ts → filter c ts ≡ filter a ts ++ filter b ts
parts a b c [] whole apart h = refl
parts a b c (t ∷ ts) whole apart h = ap (λ z. cond z (t ∷ filter c ts) (filter c ts)) (whole t) ∙ by_tests (a t) (b t) refl refl (parts a b c ts whole apart h.1)
  where
    by_tests : (x y : Bool) → x ≡ a t → y ≡ b t → filter c ts ≡ filter a ts ++ filter b ts
        → cond (x || y) (t ∷ filter c ts) (filter c ts) ≡ cond x (t ∷ filter a ts) (filter a ts) ++ cond y (t ∷ filter b ts) (filter b ts)
    by_tests true true p q e = absurd (apart t (sym p) (sym q))
    by_tests true false p q e = ap (λ z. t ∷ z) e
    by_tests false true p q e =
        let none = none_pass a ts (h.0 (sym q)) in
        ap (λ z. t ∷ z) (e ∙ ap (λ z. z ++ filter b ts) none) ∙ ap (λ z. z ++ (t ∷ filter b ts)) (sym none)
    by_tests false false p q e = e

pub same_filter : {A : Type 0} (a b : A → Bool) (ts : List A) → ((t : A) → a t ≡ b t) → filter a ts ≡ filter b ts
same_filter a b [] f = refl
same_filter a b (t ∷ ts) f = λ i. cond (f t i) (t ∷ same_filter a b ts f i) (same_filter a b ts f i)

apart_append : {A : Type 0} (a b : A → Bool) (ts us : List A) → AreApart a b ts → AreApart a b us → ((t u : A) → IsOne t ts → IsOne u us → b t ≡ true → a u ≡ false) → AreApart a b (ts ++ us)
apart_append a b [] us h k f = k
apart_append a b (t ∷ ts) us h k f = (
  λ e. each_append (λ u. a u ≡ false) ts us (h.0 e) (each_given us (λ u m. f t u (inl refl) m e)),
  apart_append a b ts us h.1 k (λ x u m n. f x u (inr m) n),
)
  where
    each_given : (us : List _) → ((u : _) → IsOne u us → a u ≡ false) → Each (λ u. a u ≡ false) us
    each_given [] g = tt
    each_given (u ∷ us) g = (g u (inl refl), each_given us (λ v m. g v (inr m)))

-- Sources and components.

-- the source is a child of the component
abbrev pub IsUnder : Path → TransitionInstance → Type 0
IsUnder p t = (x : Step) × (t.source ≡ child_path p x)

each_map : {A B : Type 0} (P : B → Type 0) (f : A → B) (xs : List A) → ((x : A) → P (f x)) → Each P (map f xs)
each_map P f [] h = tt
each_map P f (x ∷ xs) h = (h x, each_map P f xs h)

each_flat : {A B : Type 0} (P : B → Type 0) (f : A → List B) (xs : List A) → ((x : A) → Each P (f x)) → Each P (flat_map f xs)
each_flat P f [] h = tt
each_flat P f (x ∷ xs) h = each_append P (f x) (flat_map f xs) (h x) (each_flat P f xs h)

under : (g : Globals) (c : Component) → Each (IsUnder c.path) (transitions_of g c)
under g c = each_flat (IsUnder c.path) (λ t. map (new_transition g c t) (sources c (item_of t).source)) (numbered c.transitions)
    (λ t. each_map (IsUnder c.path) (new_transition g c t) (sources c (item_of t).source) (λ name. (at name 0, refl)))

-- a prefix of a child's path that is shorter is one of the parent's path
pub prefix_above : (q p : Path) (x : Step) → is_prefix q (child_path p x) ≡ true → length q ≤ length p → is_prefix q p ≡ true
prefix_above [] p x h l = refl
prefix_above (y ∷ q) [] x h l = absurd (omega (arith, l))
prefix_above (y ∷ q) (z ∷ p) x h l =
    let first = first_so (same_instance y z) (is_prefix q (child_path p x)) h in
    let rest = second_so (same_instance y z) (is_prefix q (child_path p x)) h in
    λ i. first i && prefix_above q p x rest (omega (arith, l)) i

lt_of : (a b : ℕ) → nat_lt a b ≡ true → a < b
lt_of a b h = ltb-true a b h

-- where a transition under one component is from the path, one under another is no proper prefix of it but where the other is around
source_apart : (p c d : Path) (t u : TransitionInstance) → IsUnder c t → IsUnder d u → same_path t.source p ≡ true → is_proper_prefix u.source p ≡ true → (is_prefix d c ≡ true) × (length d < length c)
source_apart p c d t u a b from above =
    let is : p ≡ child_path c a.0 = sym (same_path_is t.source p from) ∙ a.1 in
    let first : is_prefix (child_path d b.0) (child_path c a.0) ≡ true = subst (λ z. is_prefix z (child_path c a.0) ≡ true) b.1 (subst (λ z. is_prefix u.source z ≡ true) is (first_so (is_prefix u.source p) (nat_lt (length u.source) (length p)) above)) in
    let short = lt_of (length u.source) (length p) (second_so (is_prefix u.source p) (nat_lt (length u.source) (length p)) above) in
    let m = ap length is in
    let n = ap length b.1 in
    let lc = length-append c (a.0 ∷ []) in
    let ld = length-append d (b.0 ∷ []) in
    let shorter : length (child_path d b.0) ≤ length c = omega (arith, short, m, n, lc, ld) in
    let in_c = prefix_above (child_path d b.0) c a.0 first shorter in
    (prefix_then d (child_path d b.0) c (prefix_append d (b.0 ∷ [])) in_c, omega (arith, shorter, ld))

-- no later path begins an earlier one
abbrev pub AreLater : {A : Type 0} → (A → Path) → List A → Type 0
AreLater path [] = ⊤
AreLater path (x ∷ xs) = Each (λ y. is_prefix (path y) (path x) ≡ false) xs × AreLater path xs

module _ (p : Path) (e : Instance) where
  abbrev above : TransitionInstance → Bool
  above t = is_on e t && is_proper_prefix t.source p

  -- two transitions under components where the later one is not around the first
  pair_apart : (c d : Path) (t u : TransitionInstance) → IsUnder c t → IsUnder d u → ((is_prefix d c ≡ true) × (length d < length c) → ⊥) → is_from p e t ≡ true → above u ≡ false
  pair_apart c d t u a b off h = not_true (above u) (λ k. off (source_apart p c d t u a b (second_so (is_on e t) (same_path t.source p) h) (second_so (is_on e u) (is_proper_prefix u.source p) k)))

  of_one : (c : Path) (ts : List TransitionInstance) → Each (IsUnder c) ts → AreApart above (is_from p e) ts
  of_one c [] h = tt
  of_one c (t ∷ ts) h = ((λ k. each_so (IsUnder c) (λ u. above u ≡ false) ts (λ u b. pair_apart c c t u h.0 b (λ l. let m = l.1 in omega (arith, m)) k) h.1), of_one c ts h.1)

  of_all : (g : Globals) (cs : List Component) → AreLater (λ c. c.path) cs → AreApart above (is_from p e) (flat_map (transitions_of g) cs)
  of_all g [] h = tt
  of_all g (c ∷ cs) h = apart_append above (is_from p e) (transitions_of g c) (flat_map (transitions_of g) cs) (of_one c.path (transitions_of g c) (under g c)) (of_all g cs h.1)
      (λ t u m n k. later cs h.0 u n t m k)
    where
      later : (ds : List Component) → Each (λ d. is_prefix d.path c.path ≡ false) ds → (u : TransitionInstance) → IsOne u (flat_map (transitions_of g) ds) → (t : TransitionInstance) → IsOne t (transitions_of g c) → is_from p e t ≡ true → above u ≡ false
      later [] l u n t m k = absurd n
      later (d ∷ ds) l u n t m k = ⊎_elim
          (λ x. pair_apart c.path d.path t u (each_one (IsUnder c.path) (transitions_of g c) t (under g c) m) (each_one (IsUnder d.path) (transitions_of g d) u (under g d) x) (λ z. true≢false (sym z.0 ∙ l.0)) k)
          (λ x. later ds l.1 u x t m k)
          (split u (transitions_of g d) (flat_map (transitions_of g) ds) n)
        where
          split : (x : TransitionInstance) (xs ys : List TransitionInstance) → IsOne x (xs ++ ys) → IsOne x xs ⊎ IsOne x ys
          split x [] ys m = inr m
          split x (y ∷ xs) ys (inl e) = inl (inl e)
          split x (y ∷ xs) ys (inr m) = ⊎_elim (λ a. inl (inr a)) (λ b. inr b) (split x xs ys m)

-- The components of a checked specification.

later_not : (s : Spec) → IsChecked s → (i j : ℕ) (x y : State) → slice_get (states s) i ≡ Some x → slice_get (states s) j ≡ Some y → i < j → is_prefix y.path x.path ≡ false
later_not s c i j x y h k l =
    let r = end_is s c j y.path (get_map (λ (z : State). z.path) (states s) j y k) in
    r.1 i x.path (get_map (λ (z : State). z.path) (states s) i x h) ∙ before_test j i r.0 l
  where
    before_test : (a j e : ℕ) → j < a → (nat_le a j && nat_lt j e) ≡ false
    before_test a j e h = grind (arith, nat_tests)

-- what stands from a number on
later_from : (s : Spec) → IsChecked s → (n : ℕ) (xs : List State) → ((i : ℕ) (x : State) → slice_get xs i ≡ Some x → slice_get (states s) (n + i) ≡ Some x)
    → AreLater (λ c. c.path) (filter_map (λ x. x.component) xs)
later_from s checked n [] f = tt
later_from s checked n (x ∷ xs) f =
    by_component x.component refl (later_from s checked (suc n) xs (λ i y g. subst (λ m. slice_get (states s) m ≡ Some y) (shift i) (f (suc i) y g)))
    (behind (suc n) n xs (λ i y g. subst (λ m. slice_get (states s) m ≡ Some y) (shift i) (f (suc i) y g)) (omega arith))
  where
    shift : (m : ℕ) → n + suc m ≡ suc n + m
    shift m = omega arith

    here : slice_get (states s) n ≡ Some x
    here = subst (λ m. slice_get (states s) m ≡ Some x) none (f 0 x refl)
      where
        none : n + 0 ≡ n
        none = omega arith

    behind : (k m : ℕ) (ys : List State) → ((i : ℕ) (y : State) → slice_get ys i ≡ Some y → slice_get (states s) (k + i) ≡ Some y) → m < k
        → (c : Component) → x.component ≡ Some c → slice_get (states s) m ≡ Some x → Each (λ d. is_prefix d.path c.path ≡ false) (filter_map (λ x. x.component) ys)
    behind k m [] g l c e h = tt
    behind k m (y ∷ ys) g l c e h = by_it y.component refl (behind (suc k) m ys (λ i z q. subst (λ a. slice_get (states s) a ≡ Some z) (next i) (g (suc i) z q)) (omega (arith, l)) c e h)
      where
        next : (i : ℕ) → k + suc i ≡ suc k + i
        next i = omega arith

        at_k : slice_get (states s) k ≡ Some y
        at_k = subst (λ a. slice_get (states s) a ≡ Some y) none (g 0 y refl)
          where
            none : k + 0 ≡ k
            none = omega arith

        by_it : (o : Option Component) → o ≡ y.component → Each (λ d. is_prefix d.path c.path ≡ false) (filter_map (λ x. x.component) ys)
            → Each (λ d. is_prefix d.path c.path ≡ false) (cons_option o (filter_map (λ x. x.component) ys))
        by_it None q z = z
        by_it (Some d) q z =
            let a = (good_at s checked m x c h e).here in
            let b = (good_at s checked k y d at_k (sym q)).here in
            ((λ i. is_prefix (b i) (a i)) ∙ later_not s checked m k x y h at_k l, z)

    by_component : (o : Option Component) → o ≡ x.component → AreLater (λ c. c.path) (filter_map (λ x. x.component) xs)
        → ((c : Component) → x.component ≡ Some c → slice_get (states s) n ≡ Some x → Each (λ d. is_prefix d.path c.path ≡ false) (filter_map (λ x. x.component) xs))
        → AreLater (λ c. c.path) (cons_option o (filter_map (λ x. x.component) xs))
    by_component None e h k = h
    by_component (Some c) e h k = (k c (sym e) here, h)

pub transitions_apart : (s : Spec) → IsChecked s → (p : Path) (e : Instance) → AreApart (λ t. is_on e t && is_proper_prefix t.source p) (is_from p e) (transitions s)
transitions_apart s checked p e = of_all p e (globals_of s) (components s) (later_from s checked 0 (states s) (λ i x g. subst (λ n. slice_get (states s) n ≡ Some x) (plus i) g))
  where
    plus : (i : ℕ) → i ≡ 0 + i
    plus i = omega arith

-- Lines.

-- a prefix is proper or the whole
whole_or : (q p : Path) → is_prefix q p ≡ (is_proper_prefix q p || same_path q p)
whole_or q p = same_truth (is_prefix q p) (is_proper_prefix q p || same_path q p) there back
  where
    lt_test : nat_lt (length q) (length p) ≡ false → length p ≤ length q
    lt_test h = grind (arith, nat_tests)

    there : is_prefix q p ≡ true → (is_proper_prefix q p || same_path q p) ≡ true
    there h = by_test (nat_lt (length q) (length p)) refl
      where
        by_test : (b : Bool) → nat_lt (length q) (length p) ≡ b → (is_proper_prefix q p || same_path q p) ≡ true
        by_test true e = ap (λ z. z || same_path q p) ((λ i. h i && e i))
        by_test false e =
            let same = whole_prefix q p h (lt_test e) in
            ap (λ z. is_proper_prefix q p || z) (subst (λ z. same_path q z ≡ true) same (same_path_self q)) ∙ or_true (is_proper_prefix q p)
          where
            or_true : (b : Bool) → (b || true) ≡ true
            or_true true = refl
            or_true false = refl

    back : (is_proper_prefix q p || same_path q p) ≡ true → is_prefix q p ≡ true
    back h = by_test (is_proper_prefix q p) refl h
      where
        by_test : (b : Bool) → b ≡ is_proper_prefix q p → (b || same_path q p) ≡ true → is_prefix q p ≡ true
        by_test true e k = first_so (is_prefix q p) (nat_lt (length q) (length p)) (sym e)
        by_test false e k = first_so (is_prefix q p) (is_prefix p q) k

-- the line is that of the states around, and then the transitions from the state
pub line_parts : (s : Spec) → IsChecked s → (p : Path) (e : Instance) → line s e p ≡ filter (λ t. is_on e t && is_proper_prefix t.source p) (transitions s) ++ filter (is_from p e) (transitions s)
line_parts s checked p e = parts (λ t. is_on e t && is_proper_prefix t.source p) (is_from p e) (λ t. is_on e t && is_prefix t.source p) (transitions s)
    (λ t. ap (λ z. is_on e t && z) (whole_or t.source p) ∙ over (is_on e t) (is_proper_prefix t.source p) (same_path t.source p))
    (λ t a b. apart t (second_so (is_on e t) (is_proper_prefix t.source p) a) (second_so (is_on e t) (same_path t.source p) b))
    (transitions_apart s checked p e)
  where
    over : (a b c : Bool) → (a && (b || c)) ≡ ((a && b) || (a && c))
    over true b c = refl
    over false b c = refl

    apart : (t : TransitionInstance) → is_proper_prefix t.source p ≡ true → same_path t.source p ≡ true → ⊥
    apart t a b =
        let l = lt_of (length t.source) (length p) (second_so (is_prefix t.source p) (nat_lt (length t.source) (length p)) a) in
        let m = ap length (same_path_is t.source p b) in
        omega (arith, l, m)

-- the states around a child are its parent and those around it
pub proper_is : (q p : Path) (x : Step) → is_proper_prefix q (child_path p x) ≡ is_prefix q p
proper_is q p x = same_truth (is_proper_prefix q (child_path p x)) (is_prefix q p) there back
  where
    there : is_proper_prefix q (child_path p x) ≡ true → is_prefix q p ≡ true
    there h =
        let l = lt_of (length q) (length (child_path p x)) (second_so (is_prefix q (child_path p x)) (nat_lt (length q) (length (child_path p x))) h) in
        let n = length-append p (x ∷ []) in
        prefix_above q p x (first_so (is_prefix q (child_path p x)) (nat_lt (length q) (length (child_path p x))) h) (omega (arith, l, n))

    shorter : length q < length (child_path p x) → nat_lt (length q) (length (child_path p x)) ≡ true
    shorter l = grind (arith, nat_tests)

    back : is_prefix q p ≡ true → is_proper_prefix q (child_path p x) ≡ true
    back h =
        let l = prefix_length q p h in
        let n = length-append p (x ∷ []) in
        λ i. prefix_then q p (child_path p x) h (prefix_append p (x ∷ [])) i && shorter (omega (arith, l, n)) i

pub upper_is : (s : Spec) (p : Path) (x : Step) (e : Instance) → filter (λ t. is_on e t && is_proper_prefix t.source (child_path p x)) (transitions s) ≡ line s e p
upper_is s p x e = same_filter (λ t. is_on e t && is_proper_prefix t.source (child_path p x)) (λ t. is_on e t && is_prefix t.source p) (transitions s) (λ t. ap (λ z. is_on e t && z) (proper_is t.source p x))

-- no source is the empty path
pub sources_long : (s : Spec) → Each (λ t. 1 ≤ length t.source) (transitions s)
sources_long s = each_flat (λ t. 1 ≤ length t.source) (transitions_of (globals_of s)) (components s)
    (λ c. each_so (IsUnder c.path) (λ t. 1 ≤ length t.source) (transitions_of (globals_of s) c) (λ t u. let e = ap length u.1 in let l = length-append c.path (u.0 ∷ []) in omega (arith, e, l)) (under (globals_of s) c))

pub lower_of : (s : Spec) → IsChecked s → (i j : ℕ) (p q : Path) → slice_get (paths (states s)) i ≡ Some p → slice_get (paths (states s)) j ≡ Some q → is_prefix p q ≡ true → i ≤ j
lower_of s c i j p q h k pre =
    let r = end_is s c i p h in
    at_least (first_so (nat_le i j) (nat_lt j r.0) (sym (r.1 j q k) ∙ pre))
  where
    at_least : nat_le i j ≡ true → i ≤ j
    at_least h = grind (arith, nat_tests)
