-- The states inside others that react to the same event.
use Rattle.std.proofs.Common.{◌≡◌, ℕ, ◌<◌, ◌≤◌, Bool, true, false, cond, ◌&&◌, ◌||◌, List, [], ◌∷◌, map, filter, length, Some, inl, inr, ⊎_elim, refl, sym, ap, ◌∙◌, subst, nat_eq, nat_lt, ltb-true, arith}
use Rattle.std.specs.List.{list_any}
use Rattle.std.specs.Cmp.{first_so, second_so}
use Rattle.std.proofs.lemmas.Bool.{cases_lt}
use Rattle.std.proofs.lemmas.Bool.Decides.{nat_tests}
use Rattle.rsml_syntax.specs.declared.syntax.Spec.{Spec}
use Rattle.rsml_syntax.specs.limits.Checked.{IsChecked}
use Rattle.rsml_meaning.specs.Words.{IsOne, is_prefix, is_proper_prefix, on_one_line}
use Rattle.rsml_meaning.specs.Instances.{states, events}
use Rattle.rsml_meaning.specs.Transitions.{transitions, is_from}
use Rattle.rsml_meaning.specs.Groups.{state}
use Rattle.rsml_meaning.proofs.Prefixes.{whole_prefix}
use Rattle.rsml_meaning.proofs.Same.{nat_same, nat_itself}
use Rattle.state_tree.specs.Numbers.{path_of}
use Rattle.state_tree.proofs.Lists.{place_of_one}
use Rattle.state_tree.proofs.Spread.{one_place}
use Rattle.state_tree.proofs.Walks.{path_there}
use Rattle.ground_groups.specs.declared.key.Key.{Key}
use Rattle.ground_groups.specs.Below.{is_inside, below_of}
use Rattle.ground_groups.specs.Groups.{AreBelow, is_below}
use Rattle.ground_groups.specs.Stored.{AreStateLots, event_at}
use Rattle.ground_groups.proofs.LineLemmas.{key_at, key_there}
use Rattle.ground_groups.proofs.Order.{lower_of}

-- Lists.

of_filter : {A : Type 0} (t : A → Bool) (xs : List A) (x : A) → IsOne x (filter t xs) → IsOne x xs × (t x ≡ true)
of_filter t [] x m = absurd m
of_filter t (y ∷ xs) x m = by_test (t y) refl m (of_filter t xs x)
  where
    by_test : (b : Bool) → b ≡ t y → IsOne x (cond b (y ∷ filter t xs) (filter t xs)) → (IsOne x (filter t xs) → IsOne x xs × (t x ≡ true)) → IsOne x (y ∷ xs) × (t x ≡ true)
    by_test true e (inl p) f = (inl p, ap t p ∙ sym e)
    by_test true e (inr n) f = let r = f n in (inr r.0, r.1)
    by_test false e n f = let r = f n in (inr r.0, r.1)

pub in_filter : {A : Type 0} (t : A → Bool) (xs : List A) (x : A) → IsOne x xs → t x ≡ true → IsOne x (filter t xs)
in_filter t [] x m h = absurd m
in_filter t (y ∷ xs) x (inl e) h = subst (λ b. IsOne x (cond b (y ∷ filter t xs) (filter t xs))) (sym h ∙ ap t e) (inl e)
in_filter t (y ∷ xs) x (inr m) h = by_test (t y) (in_filter t xs x m h)
  where
    by_test : (b : Bool) → IsOne x (filter t xs) → IsOne x (cond b (y ∷ filter t xs) (filter t xs))
    by_test true n = inr n
    by_test false n = n

of_map : {A B : Type 0} (f : A → B) (xs : List A) (y : B) → IsOne y (map f xs) → (x : A) × IsOne x xs × (f x ≡ y)
of_map f [] y m = absurd m
of_map f (x ∷ xs) y (inl e) = (x, inl refl, sym e)
of_map f (x ∷ xs) y (inr m) = let r = of_map f xs y m in (r.0, inr r.1, r.2)

in_map : {A B : Type 0} (f : A → B) (xs : List A) (x : A) → IsOne x xs → IsOne (f x) (map f xs)
in_map f [] x m = absurd m
in_map f (y ∷ xs) x (inl e) = inl (ap f e)
in_map f (y ∷ xs) x (inr m) = inr (in_map f xs x m)

both_true : (a b : Bool) → a ≡ true → b ≡ true → (a && b) ≡ true
both_true a b h k = λ i. h i && k i

-- States.

lt_so : (a b : ℕ) → a < b → nat_lt a b ≡ true
lt_so a b h = grind (arith, nat_tests)

-- with a higher number on one line, it is inside
proper_of : (s : Spec) → IsChecked s → (a b : ℕ) → a < length (states s) → b < length (states s) → a < b → on_one_line (path_of s a) (path_of s b) ≡ true → is_proper_prefix (path_of s a) (path_of s b) ≡ true
proper_of s checked a b l m k h = both_true (is_prefix (path_of s a) (path_of s b)) (nat_lt (length (path_of s a)) (length (path_of s b))) prefix (lt_so (length (path_of s a)) (length (path_of s b)) shorter)
  where
    prefix : is_prefix (path_of s a) (path_of s b) ≡ true
    prefix = by_test (is_prefix (path_of s a) (path_of s b)) refl h
      where
        by_test : (t : Bool) → t ≡ is_prefix (path_of s a) (path_of s b) → (t || is_prefix (path_of s b) (path_of s a)) ≡ true → is_prefix (path_of s a) (path_of s b) ≡ true
        by_test true e g = sym e
        by_test false e g = absurd (let n = lower_of s checked b a (path_of s b) (path_of s a) (path_there s b m) (path_there s a l) g in omega (arith, n, k))

    shorter : length (path_of s a) < length (path_of s b)
    shorter = ⊎_elim (λ n. n) (λ n. absurd (apart (whole_prefix (path_of s a) (path_of s b) prefix n))) (cases_lt (length (path_of s a)) (length (path_of s b)))
      where
        apart : path_of s a ≡ path_of s b → ⊥
        apart e = let same = one_place s checked a b (path_of s b) (path_there s a l ∙ ap (λ z. Some z) e) (path_there s b m) in omega (arith, same, k)

-- what is inside has a higher number, on one line
inside_of : (s : Spec) → IsChecked s → (a b : ℕ) → a < length (states s) → b < length (states s) → is_proper_prefix (path_of s a) (path_of s b) ≡ true → (a < b) × (on_one_line (path_of s a) (path_of s b) ≡ true)
inside_of s checked a b l m h =
    let prefix = first_so (is_prefix (path_of s a) (path_of s b)) (nat_lt (length (path_of s a)) (length (path_of s b))) h in
    let shorter = ltb-true (length (path_of s a)) (length (path_of s b)) (second_so (is_prefix (path_of s a) (path_of s b)) (nat_lt (length (path_of s a)) (length (path_of s b))) h) in
    let low = lower_of s checked a b (path_of s a) (path_of s b) (path_there s a l) (path_there s b m) prefix in (
      ⊎_elim (λ n. n) (λ n. absurd (apart (same low n) shorter)) (cases_lt a b),
      ap (λ t. t || is_prefix (path_of s b) (path_of s a)) prefix,
    )
  where
    same : a ≤ b → b ≤ a → a ≡ b
    same n k = omega (arith, n, k)

    apart : a ≡ b → length (path_of s a) < length (path_of s b) → ⊥
    apart e n = let f = ap (λ k. length (path_of s k)) e in omega (arith, f, n)

pub below_right : (s : Spec) → IsChecked s → (heads : List Key) (places : List (List ℕ)) (q : Key) → AreStateLots s heads places → q.owner < length (states s) → q.event < length (events s)
    → AreBelow s (state (path_of s q.owner) (event_at s q.event)) (below_of s heads q)
below_right s checked heads places q lots l m = λ k. (there k, λ r. back k r.0 r.1)
  where
    there : (k : ℕ) → IsOne k (below_of s heads q) → (k < length (states s)) × (is_below s (path_of s q.owner) (event_at s q.event) k ≡ true)
    there k n =
        let r = of_map (λ h. h.owner) (filter (is_inside s q) heads) k n in
        let f = of_filter (is_inside s q) heads r.0 r.1 in
        let at = place_of_one heads r.0 f.0 in
        let owner = (key_there s heads places at.0 r.0 lots at.1).0 in
        let event : r.0.event ≡ q.event = nat_same r.0.event q.event (first_so (nat_eq r.0.event q.event) (nat_lt q.owner r.0.owner && on_one_line (path_of s q.owner) (path_of s r.0.owner)) f.1) in
        let rest = second_so (nat_eq r.0.event q.event) (nat_lt q.owner r.0.owner && on_one_line (path_of s q.owner) (path_of s r.0.owner)) f.1 in
        let less = ltb-true q.owner r.0.owner (first_so (nat_lt q.owner r.0.owner) (on_one_line (path_of s q.owner) (path_of s r.0.owner)) rest) in
        let proper = proper_of s checked q.owner r.0.owner l owner less (second_so (nat_lt q.owner r.0.owner) (on_one_line (path_of s q.owner) (path_of s r.0.owner)) rest) in
        let fires = subst (λ j. list_any (is_from (path_of s r.0.owner) (event_at s j)) (transitions s) ≡ true) event (lots.only r.0 f.0) in
        subst (λ k. (k < length (states s)) × (is_below s (path_of s q.owner) (event_at s q.event) k ≡ true)) r.2
        (owner, both_true (is_proper_prefix (path_of s q.owner) (path_of s r.0.owner)) (list_any (is_from (path_of s r.0.owner) (event_at s q.event)) (transitions s)) proper fires)

    back : (k : ℕ) → k < length (states s) → is_below s (path_of s q.owner) (event_at s q.event) k ≡ true → IsOne k (below_of s heads q)
    back k n h =
        let proper = first_so (is_proper_prefix (path_of s q.owner) (path_of s k)) (list_any (is_from (path_of s k) (event_at s q.event)) (transitions s)) h in
        let fires = second_so (is_proper_prefix (path_of s q.owner) (path_of s k)) (list_any (is_from (path_of s k) (event_at s q.event)) (transitions s)) h in
        let inside = inside_of s checked q.owner k l n proper in
        in_map (λ h. h.owner) (filter (is_inside s q) heads) (key_at k q.event) (in_filter (is_inside s q) heads (key_at k q.event) (lots.all (key_at k q.event) n m fires)
        (both_true (nat_eq q.event q.event) (nat_lt q.owner k && on_one_line (path_of s q.owner) (path_of s k)) (nat_itself q.event)
        (both_true (nat_lt q.owner k) (on_one_line (path_of s q.owner) (path_of s k)) (lt_so q.owner k inside.0) inside.1)))
