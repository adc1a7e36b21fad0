-- Lines by keys.
use Rattle.std.proofs.Common.{◌≡◌, ℕ, zero, suc, ◌+◌, ◌<◌, ◌≤◌, Bool, true, false, cond, ◌&&◌, ◌||◌, List, [], ◌∷◌, ◌++◌, map, filter, flat_map, length, Option, Some, None, inl, inr, ⊎_elim, refl, sym, ap, ◌∙◌, subst, slice_get, get_or, take, slice_index_or, IfSome, true≢false, arith, nat_lt, ltb-true, length-append}
use Rattle.std.specs.List.{AllZip, list_any}
use Rattle.std.specs.Option.{option_and_then}
use Rattle.std.specs.Cmp.{second_so}
use Rattle.std.proofs.lemmas.Bool.{cases_lt}
use Rattle.std.proofs.lemmas.List.{append-nil, take_more, length-take-le, length-map}
use Rattle.std.proofs.lemmas.Option.{same_Some}
use Rattle.rsml_syntax.specs.declared.syntax.Spec.{Spec}
use Rattle.rsml_syntax.specs.declared.world.Step.{Step}
use Rattle.rsml_syntax.specs.limits.Checked.{IsChecked}
use Rattle.rsml_meaning.specs.Words.{IsOne, child_path, is_prefix, is_proper_prefix}
use Rattle.rsml_meaning.specs.Instances.{State, states, events}
use Rattle.rsml_meaning.specs.Transitions.{transitions, is_on, is_from}
use Rattle.rsml_meaning.proofs.Prefixes.{prefix_append}
use Rattle.state_tree.specs.nodes.Numbers.{paths, path_around, path_above, IsPlace}
use Rattle.state_tree.specs.Numbers.{path_of}
use Rattle.state_tree.proofs.Lists.{get_map, within_get, beside, as_long, zip_push, not_true}
use Rattle.state_tree.proofs.Above.{above_none}
use Rattle.state_tree.proofs.Walks.{step_up, told_none, path_is, path_there}
use Rattle.ground_groups.specs.declared.key.Key.{Key}
use Rattle.ground_groups.specs.declared.lines.Line.{Line}
use Rattle.ground_groups.specs.Heads.{IsBefore, AreRising}
use Rattle.ground_groups.specs.Stored.{event_at, own_of, line_of, upper_of, ReactsAt, IsOuter, IsLine, members_before, ArePlaces, AreStateLots, IsStateKey}
use Rattle.rsml_meaning.specs.Groups.{state_groups}
use Rattle.ground_groups.proofs.Rising.{each_so, each_one}
use Rattle.ground_groups.proofs.Order.{line_parts, upper_is, none_pass, sources_long, lower_of}

abbrev pub key_at : ℕ → ℕ → Key
key_at k j = record { owner = k; event = j }

pub line_is : (s : Spec) → IsChecked s → (q : Key) → line_of s q ≡ upper_of s q ++ own_of s q
line_is s checked q = line_parts s checked (path_of s q.owner) (event_at s q.event)

-- what is around a state is the line of its parent
pub up : (s : Spec) (k m j : ℕ) → k < length (states s) → IsPlace (paths (states s)) (path_around (states s) k) (Some m) → upper_of s (key_at k j) ≡ line_of s (key_at m j)
up s k m j l h =
    let r = step_up s k m l h in
    ap (λ p. filter (λ t. is_on (event_at s j) t && is_proper_prefix t.source p) (transitions s)) r.1 ∙ upper_is s (path_of s m) r.0 (event_at s j)

-- the parent has a lower number
pub parent_lower : (s : Spec) → IsChecked s → (k m : ℕ) → k < length (states s) → IsPlace (paths (states s)) (path_around (states s) k) (Some m) → m < k
parent_lower s checked k m l h =
    let r = step_up s k m l h in
    let at_most = lower_of s checked m k (path_of s m) (path_of s k) (path_there s m r.2) (path_there s k l) (subst (λ p. is_prefix (path_of s m) p ≡ true) (sym r.1) (prefix_append (path_of s m) (r.0 ∷ []))) in
    ⊎_elim (λ e. e) (λ e. absurd (apart (same m k at_most e) r)) (cases_lt m k)
  where
    same : (a b : ℕ) → a ≤ b → b ≤ a → a ≡ b
    same a b x y = omega (arith, x, y)

    apart : m ≡ k → (x : Step) × (path_of s k ≡ child_path (path_of s m) x) × (m < length (states s)) → ⊥
    apart e r =
        let a = ap length r.1 in
        let b = ap (λ n. length (path_of s n)) e in
        let c = length-append (path_of s m) (r.0 ∷ []) in
        omega (arith, a, b, c)

-- nothing is around the top state
pub top : (s : Spec) (k j : ℕ) → k < length (states s) → path_around (states s) k ≡ None → upper_of s (key_at k j) ≡ []
top s k j l h =
    let r = within_get (states s) k l in
    let p = path_is s k r.0.path (get_map (λ (y : State). y.path) (states s) k r.0 r.1) in
    let short = above_none r.0.path (sym (ap (λ o. option_and_then (λ (y : State). path_above y.path) o) r.1) ∙ h) in
    let e = ap length p in
    none_pass (λ t. is_on (event_at s j) t && is_proper_prefix t.source (path_of s k)) (transitions s)
    (each_so (λ t. 1 ≤ length t.source) (λ t. (is_on (event_at s j) t && is_proper_prefix t.source (path_of s k)) ≡ false) (transitions s)
    (λ t m. not_true (is_on (event_at s j) t && is_proper_prefix t.source (path_of s k)) (λ z.
    let shorter = ltb-true (length t.source) (length (path_of s k)) (second_so (is_prefix t.source (path_of s k)) (nat_lt (length t.source) (length (path_of s k))) (second_so (is_on (event_at s j) t) (is_proper_prefix t.source (path_of s k)) z)) in
    omega (arith, shorter, e, short, m)))
    (sources_long s))

none_any : {A : Type 0} (t : A → Bool) (xs : List A) → list_any t xs ≡ false → filter t xs ≡ []
none_any t [] h = refl
none_any t (x ∷ xs) h = by_test (t x) h (none_any t xs)
  where
    by_test : (b : Bool) → (b || list_any t xs) ≡ false → (list_any t xs ≡ false → filter t xs ≡ []) → cond b (x ∷ filter t xs) (filter t xs) ≡ []
    by_test true e f = absurd (true≢false e)
    by_test false e f = f e

-- a state that has no group on the event has no transitions on it
pub no_own : (s : Spec) (heads : List Key) (q : Key) → ReactsAt s heads → q.owner < length (states s) → q.event < length (events s) → (IsOne q heads → ⊥) → own_of s q ≡ []
no_own s heads q all l m h = none_any (is_from (path_of s q.owner) (event_at s q.event)) (transitions s) (not_true (list_any (is_from (path_of s q.owner) (event_at s q.event)) (transitions s)) (λ t. h (all q l m t)))

-- one step up where there is no group
pub passed : (s : Spec) (heads : List Key) (q : Key) (k m : ℕ) → IsChecked s → ReactsAt s heads → k < length (states s) → q.event < length (events s) → upper_of s q ≡ upper_of s (key_at k q.event) → IsPlace (paths (states s)) (path_around (states s) k) (Some m)
    → (IsOne (key_at m q.event) heads → ⊥) → upper_of s q ≡ upper_of s (key_at m q.event)
passed s heads q k m checked all l e same h none =
    let r = step_up s k m l h in
    same ∙ up s k m q.event l h ∙ line_is s checked (key_at m q.event) ∙ ap (λ ts. upper_of s (key_at m q.event) ++ ts) (no_own s heads (key_at m q.event) all r.2 e none) ∙ append-nil (upper_of s (key_at m q.event))

pub found_outer : (s : Spec) (heads : List Key) (q : Key) (k m g : ℕ) → IsChecked s → k < length (states s) → k ≤ q.owner → upper_of s q ≡ upper_of s (key_at k q.event) → IsPlace (paths (states s)) (path_around (states s) k) (Some m)
    → slice_get heads g ≡ Some (key_at m q.event) → IsOuter s heads q (Some g)
found_outer s heads q k m g checked l low same h there = (
  key_at m q.event,
  there,
  let lower = parent_lower s checked k m l h in omega (arith, lower, low),
  line_is s checked q ∙ ap (λ ts. ts ++ own_of s q) (same ∙ up s k m q.event l h),
)

pub no_outer : (s : Spec) (heads : List Key) (q : Key) (k : ℕ) → IsChecked s → k < length (states s) → upper_of s q ≡ upper_of s (key_at k q.event) → IsPlace (paths (states s)) (path_around (states s) k) None → IsOuter s heads q None
no_outer s heads q k checked l same h =
    line_is s checked q ∙ ap (λ ts. ts ++ own_of s q) (same ∙ top s k q.event l (told_none (paths (states s)) (path_around (states s) k) h))

-- Places of keys.

rising_at : (xs : List Key) (i j : ℕ) (x y : Key) → AreRising xs → slice_get xs i ≡ Some x → slice_get xs j ≡ Some y → i < j → IsBefore x y
rising_at [] i j x y r h k l = absurd (let no : ⊥ = cc in no)
rising_at (z ∷ xs) zero zero x y r h k l = absurd (omega (arith, l))
rising_at (z ∷ xs) zero (suc j) x y r h k l = subst (λ w. IsBefore w y) (same_Some z x h) (each_one (IsBefore z) xs y r.0 (there xs j k))
  where
    there : (ys : List Key) (n : ℕ) → slice_get ys n ≡ Some y → IsOne y ys
    there [] n e = absurd (let no : ⊥ = cc in no)
    there (w ∷ ys) zero e = inl (sym (same_Some w y e))
    there (w ∷ ys) (suc n) e = inr (there ys n e)
rising_at (z ∷ xs) (suc i) zero x y r h k l = absurd (omega (arith, l))
rising_at (z ∷ xs) (suc i) (suc j) x y r h k l = rising_at xs i j x y r.1 h k (omega (arith, l))

pub lower_place : (xs : List Key) (i j : ℕ) (x y : Key) → AreRising xs → slice_get xs i ≡ Some x → slice_get xs j ≡ Some y → x.owner < y.owner → i < j
lower_place xs i j x y r h k l = ⊎_elim (λ e. e) (λ e. absurd (⊎_elim (λ m. off (rising_at xs j i y x r k h m)) (λ m. equal (same m e)) (cases_lt j i))) (cases_lt i j)
  where
    off : IsBefore y x → ⊥
    off (inl m) = omega (arith, m, l)
    off (inr m) = let e = m.0 in omega (arith, e, l)

    same : i ≤ j → j ≤ i → i ≡ j
    same a b = omega (arith, a, b)

    equal : i ≡ j → ⊥
    equal e = let f = ap (λ z. z.owner) (same_Some x y (sym h ∙ ap (slice_get xs) e ∙ k)) in omega (arith, f, l)

-- the outer group stands before
pub outer_before : (s : Spec) (heads : List Key) (place n : ℕ) (q : Key) (o : Option ℕ) → AreRising heads → slice_get heads place ≡ Some q → IsOuter s heads q o → n ≡ place → IfSome o (λ g. g < n)
outer_before s heads place n q None r h k e = tt
outer_before s heads place n q (Some g) r h k e = let l = lower_place heads g place k.0 q r k.1 h k.2 in omega (arith, l, e)

member_at : (s : Spec) (heads qs : List Key) (ls : List Line) (g : ℕ) (q : Key) → AllZip (IsLine s heads) qs ls → slice_get qs g ≡ Some q → slice_index_or (map (λ x. x.members) ls) g 0 ≡ length (line_of s q)
member_at s heads [] [] g q h k = absurd (let no : ⊥ = cc in no)
member_at s heads (p ∷ qs) (x ∷ ls) zero q h k = h.0.members ∙ ap (λ z. length (line_of s z)) (same_Some p q k)
member_at s heads (p ∷ qs) (x ∷ ls) (suc g) q h k = member_at s heads qs ls g q h.1 k
member_at s heads [] (x ∷ ls) g q h k = elim h [ ]
member_at s heads (p ∷ qs) [] g q h k = elim h [ ]

take_there : {A : Type 0} (xs : List A) (n i : ℕ) (x : A) → slice_get xs i ≡ Some x → i < n → slice_get (take n xs) i ≡ Some x
take_there xs zero i x h l = absurd (omega (arith, l))
take_there [] (suc n) i x h l = absurd (let no : ⊥ = cc in no)
take_there (y ∷ xs) (suc n) zero x h l = h
take_there (y ∷ xs) (suc n) (suc i) x h l = take_there xs n i x h (omega (arith, l))

-- a line that is made right
pub line_made : (s : Spec) (heads : List Key) (ls : List Line) (place members own : ℕ) (q : Key) (o : Option ℕ) → AreRising heads → slice_get heads place ≡ Some q → AllZip (IsLine s heads) (take place heads) ls
    → IsOuter s heads q o → own ≡ length (own_of s q) → members ≡ members_before ls o + own → IsLine s heads q (record { outer = o; members = members })
line_made s heads ls place members own q None r h before k e m = record { outer = k; members = let f = ap length k in omega (arith, e, m, f) }
line_made s heads ls place members own q (Some g) r h before k e m = record {
  outer = k;
  members =
      let l = lower_place heads g place k.0 q r k.1 h k.2 in
      let n = member_at s heads (take place heads) ls g k.0 before (take_there heads place g k.0 k.1 l) in
      let f = ap length k.3 ∙ length-append (line_of s k.0) (own_of s q) in
      omega (arith, e, m, f, n);
}

-- a turn of the loop
pub lines_turn : (s : Spec) (heads : List Key) (old new : List Line) (place : ℕ) (q d : Key) (x : Line) → place < length heads → q ≡ get_or heads place d → AllZip (IsLine s heads) (take place heads) old → IsLine s heads q x → new ≡ old ++ x ∷ []
    → AllZip (IsLine s heads) (take (place + 1) heads) new
lines_turn s heads old new place q d x l e h k m =
    subst (λ z. AllZip (IsLine s heads) z new) (sym (take_more heads place d l ∙ ap (λ z. take place heads ++ z ∷ []) (sym e)))
    (subst (λ z. AllZip (IsLine s heads) (take place heads ++ q ∷ []) z) (sym m) (zip_push (IsLine s heads) (take place heads) old q x h k))

-- What is at a place.

pub item_there : (xs heads : List Key) (i : ℕ) (d : Key) → xs ≡ heads → i < length xs → slice_get heads i ≡ Some (slice_index_or xs i d)
item_there xs heads i d e l = subst (λ z. slice_get z i ≡ Some (slice_index_or xs i d)) e (there xs i l)
  where
    there : (ys : List Key) (n : ℕ) → n < length ys → slice_get ys n ≡ Some (slice_index_or ys n d)
    there [] n m = absurd (omega (arith, m))
    there (y ∷ ys) zero m = refl
    there (y ∷ ys) (suc n) m = there ys n (omega (arith, m))

pub key_there : (s : Spec) (heads : List Key) (places : List (List ℕ)) (i : ℕ) (q : Key) → AreStateLots s heads places → slice_get heads i ≡ Some q → (q.owner < length (states s)) × (q.event < length (events s))
key_there s heads places i q h e = let r = (beside (IsStateKey s) (flat_map (λ x. state_groups s x.path) (states s)) heads i q h.groups e).2 in (r.state_there, r.event_there)

pub places_long : {A : Type 0} (s : Spec) (heads : List Key) (f : A → List ℕ) (ps : List A) → AreStateLots s heads (map f ps) → length ps ≡ length heads
places_long s heads f ps h = sym (length-map ps f) ∙ sym (as_long (λ q ls. ArePlaces (transitions s) (own_of s q) ls) heads (map f ps) h.own)

pub lines_long : (s : Spec) (heads : List Key) (ls : List Line) (place : ℕ) → AllZip (IsLine s heads) (take place heads) ls → place < length heads → length ls ≡ place
lines_long s heads ls place h l = sym (as_long (IsLine s heads) (take place heads) ls h) ∙ length-take-le place heads (omega (arith, l))

pub own_long : {A : Type 0} (s : Spec) (heads : List Key) (f : A → List ℕ) (ps : List A) (i : ℕ) (q : Key) (v : A) → AllZip (λ q ls. ArePlaces (transitions s) (own_of s q) ls) heads (map f ps) → slice_get heads i ≡ Some q → i < length ps → v ≡ get_or ps i v
    → length (f v) ≡ length (own_of s q)
own_long s [] f ps i q v h e l k = absurd (let no : ⊥ = cc in no)
own_long s (p ∷ heads) f [] i q v h e l k = absurd (omega (arith, l))
own_long s (p ∷ heads) f (x ∷ ps) zero q v h e l k =
    ap (λ z. length (f z)) k ∙ sym (as_long (λ t i. slice_get (transitions s) i ≡ Some t) (own_of s p) (f x) h.0) ∙ ap (λ z. length (own_of s z)) (same_Some p q e)
own_long s (p ∷ heads) f (x ∷ ps) (suc i) q v h e l k = own_long s heads f ps i q v h.1 e (omega (arith, l)) k
