-- The keys of the states inside a state stand together, behind its own.
use Rattle.std.proofs.Common.{◌≡◌, ℕ, zero, suc, ◌+◌, ◌-◌, ◌<◌, ◌≤◌, Bool, true, false, cond, ◌&&◌, ◌||◌, List, [], ◌∷◌, ◌++◌, map, filter, length, inl, inr, refl, sym, ap, ◌∙◌, subst, get_or, take, drop, nat_eq, nat_le, nat_lt, append-nil, arith, leb, leb-true}
use Rattle.std.specs.List.{AllWithin}
use Rattle.std.specs.List.Sorted.{IsNonDecreasingBy, IsPartitionPoint}
use Rattle.std.proofs.lemmas.Bool.{leb-false}
use Rattle.std.proofs.lemmas.Bool.Decides.{nat_tests}
use Rattle.std.proofs.lemmas.List.{take_more, take_all, map-append, length-drop}
use Rattle.std.proofs.lemmas.List.Elements.{filter-append}
use Rattle.rsml_syntax.specs.declared.syntax.Spec.{Spec}
use Rattle.rsml_syntax.specs.limits.Checked.{IsChecked}
use Rattle.rsml_meaning.specs.Words.{Each, IsOne, is_prefix, on_one_line}
use Rattle.rsml_meaning.specs.Instances.{states}
use Rattle.state_tree.specs.Numbers.{path_of}
use Rattle.state_tree.proofs.Lists.{drop_at, not_true}
use Rattle.state_tree.proofs.Spans.{is_past}
use Rattle.state_tree.proofs.Spread.{end_is}
use Rattle.state_tree.proofs.Walks.{path_there}
use Rattle.ground_groups.specs.declared.key.Key.{Key}
use Rattle.ground_groups.specs.Heads.{IsBefore, AreRising}
use Rattle.ground_groups.specs.Below.{AreThere, is_inside, below_of, IsPast}
use Rattle.ground_groups.proofs.Rising.{each_so, each_one, item_one}
use Rattle.ground_groups.proofs.Order.{none_pass}

-- Lists.

each_drop : {A : Type 0} (P : A → Type 0) (n : ℕ) (xs : List A) → Each P xs → Each P (drop n xs)
each_drop P zero xs h = h
each_drop P (suc n) [] h = tt
each_drop P (suc n) (x ∷ xs) h = each_drop P n xs h.1

rising_drop : (n : ℕ) (xs : List Key) → AreRising xs → AreRising (drop n xs)
rising_drop zero xs h = h
rising_drop (suc n) [] h = tt
rising_drop (suc n) (x ∷ xs) h = rising_drop n xs h.1

-- where none of the rest passes, the first items have all that pass
filter_to : {A : Type 0} (t : A → Bool) (n : ℕ) (xs : List A) → filter t (drop n xs) ≡ [] → filter t (take n xs) ≡ filter t xs
filter_to t zero xs h = sym h
filter_to t (suc n) [] h = refl
filter_to t (suc n) (x ∷ xs) h = ap (λ ys. cond (t x) (x ∷ ys) ys) (filter_to t n xs h)

-- where none of the first items passes, the rest has all that pass
filter_from : {A : Type 0} (t : A → Bool) (n : ℕ) (xs : List A) → Each (λ x. t x ≡ false) (take n xs) → filter t (drop n xs) ≡ filter t xs
filter_from t zero xs h = refl
filter_from t (suc n) [] h = refl
filter_from t (suc n) (x ∷ xs) h = filter_from t n xs h.1 ∙ sym (ap (λ b. cond b (x ∷ filter t xs) (filter t xs)) h.0)

-- Keys.

-- a key of a state with no higher number is not inside
lower_not : (s : Spec) (key other : Key) → other.owner ≤ key.owner → is_inside s key other ≡ false
lower_not s key other l = by_less (nat_eq other.event key.event) (nat_lt key.owner other.owner) (on_one_line (path_of s key.owner) (path_of s other.owner)) not_less
  where
    not_less : nat_lt key.owner other.owner ≡ false
    not_less = grind (arith, nat_tests)

    by_less : (a b c : Bool) → b ≡ false → (a && (b && c)) ≡ false
    by_less true b c h = ap (λ z. z && c) h
    by_less false b c h = refl

-- a key that is not on one line is not inside
apart_not : (s : Spec) (key other : Key) → on_one_line (path_of s key.owner) (path_of s other.owner) ≡ false → is_inside s key other ≡ false
apart_not s key other h = by_line (nat_eq other.event key.event) (nat_lt key.owner other.owner) (on_one_line (path_of s key.owner) (path_of s other.owner)) h
  where
    by_line : (a b c : Bool) → c ≡ false → (a && (b && c)) ≡ false
    by_line true true c h = h
    by_line true false c h = refl
    by_line false b c h = refl

at_most : (x y : Key) → IsBefore x y → x.owner ≤ y.owner
at_most x y (inl h) = omega (arith, h)
at_most x y (inr h) = let e = h.0 in omega (arith, e)

-- where a state ends, none behind is in it
apart_on : (s : Spec) → IsChecked s → (a b c : ℕ) → a < length (states s) → b < length (states s) → c < length (states s) → a < b → b ≤ c
    → on_one_line (path_of s a) (path_of s b) ≡ false → on_one_line (path_of s a) (path_of s c) ≡ false
apart_on s checked a b c k l m h n off = not_true (on_one_line (path_of s a) (path_of s c)) no
  where
    first_false : (x y : Bool) → (x || y) ≡ false → x ≡ false
    first_false true y e = e
    first_false false y e = refl

    no : on_one_line (path_of s a) (path_of s c) ≡ true → ⊥
    no on =
        let r = end_is s checked a (path_of s a) (path_there s a k) in
        let q = end_is s checked c (path_of s c) (path_there s c m) in
        let past = is_past a b r.0 (omega (arith, h)) (sym (r.1 b (path_of s b) (path_there s b l)) ∙ first_false (is_prefix (path_of s a) (path_of s b)) (is_prefix (path_of s b) (path_of s a)) off) in
        let down = r.1 c (path_of s c) (path_there s c m) ∙ outside a c r.0 (omega (arith, past, n)) in
        let up = q.1 a (path_of s a) (path_there s a k) ∙ before c a q.0 (omega (arith, h, n)) in
        let t : true ≡ false = sym on ∙ (λ i. down i || up i) in
        cc
      where
        outside : (i j e : ℕ) → e ≤ j → (nat_le i j && nat_lt j e) ≡ false
        outside i j e g = grind (arith, nat_tests)

        before : (i j e : ℕ) → j < i → (nat_le i j && nat_lt j e) ≡ false
        before i j e g = grind (arith, nat_tests)

-- behind a key that is not on one line no key is inside
all_apart : (s : Spec) → IsChecked s → (key other : Key) (xs : List Key) → key.owner < length (states s) → other.owner < length (states s) → key.owner < other.owner
    → on_one_line (path_of s key.owner) (path_of s other.owner) ≡ false → Each (IsBefore other) xs → AreThere s xs → Each (λ x. is_inside s key x ≡ false) xs
all_apart s checked key other [] k l b off r t = tt
all_apart s checked key other (x ∷ xs) k l b off r t = (
  apart_not s key x (apart_on s checked key.owner other.owner x.owner k l t.0 b (at_most other x r.0) off),
  all_apart s checked key other xs k l b off r.1 t.1,
)

pub item_same : (xs : List Key) (i : ℕ) (d : Key) → i < length xs → get_or xs i d ≡ get_or xs i (get_or xs i d)
item_same [] i d l = absurd (omega (arith, l))
item_same (x ∷ xs) zero d l = refl
item_same (x ∷ xs) (suc i) d l = item_same xs i d (omega (arith, l))

at_of : (P : Key → Type 0) (xs : List Key) (i : ℕ) (x : Key) → Each P xs → i < length xs → x ≡ get_or xs i x → P x
at_of P xs i x h l e = each_one P xs x h (subst (λ z. IsOne z xs) (sym e) (item_one xs i x l))

-- A loop over the keys of the states behind one.

-- a turn
turn : (s : Spec) (key other : Key) (xs : List Key) (i : ℕ) → i < length xs → other ≡ get_or xs i other
    → below_of s (take (i + 1) xs) key ≡ below_of s (take i xs) key ++ map (λ q. q.owner) (filter (is_inside s key) (other ∷ []))
turn s key other xs i l e =
    ap (λ ys. below_of s ys key) (take_more xs i other l ∙ ap (λ z. take i xs ++ z ∷ []) (sym e))
    ∙ ap (map (λ q. q.owner)) (filter-append (is_inside s key) (take i xs) (other ∷ []))
    ∙ map-append (λ q. q.owner) (filter (is_inside s key) (take i xs)) (filter (is_inside s key) (other ∷ []))

-- a key on the event and on one line is inside
pub turn_in : (s : Spec) (key other : Key) (xs : List Key) (i : ℕ) → Each (λ q. key.owner < q.owner) xs → i < length xs → other ≡ get_or xs i other
    → on_one_line (path_of s key.owner) (path_of s other.owner) ≡ true → other.event ≡ key.event → below_of s (take (i + 1) xs) key ≡ below_of s (take i xs) key ++ other.owner ∷ []
turn_in s key other xs i b l e on same = turn s key other xs i l e ∙ ap (λ b. below_of s (take i xs) key ++ map (λ q. q.owner) (cond b (other ∷ []) [])) inside
  where
    event : nat_eq other.event key.event ≡ true
    event = grind (arith, nat_tests)

    less : key.owner < other.owner
    less = at_of (λ q. key.owner < q.owner) xs i other b l e

    less_test : nat_lt key.owner other.owner ≡ true
    less_test = let g = less in grind (arith, nat_tests)

    inside : is_inside s key other ≡ true
    inside = λ i. event i && (less_test i && on i)

-- a key on another event is not
pub turn_out : (s : Spec) (key other : Key) (xs : List Key) (i : ℕ) → i < length xs → other ≡ get_or xs i other → (other.event ≡ key.event → ⊥) → below_of s (take (i + 1) xs) key ≡ below_of s (take i xs) key
turn_out s key other xs i l e differ = turn s key other xs i l e ∙ ap (λ b. below_of s (take i xs) key ++ map (λ q. q.owner) (cond b (other ∷ []) [])) outside ∙ append-nil (below_of s (take i xs) key)
  where
    outside : is_inside s key other ≡ false
    outside = ap (λ b. b && (nat_lt key.owner other.owner && on_one_line (path_of s key.owner) (path_of s other.owner))) event
      where
        event : nat_eq other.event key.event ≡ false
        event = grind (arith, nat_tests)

-- at the first key that is not on one line all that are inside are found
pub ended : (s : Spec) → IsChecked s → (key other : Key) (xs : List Key) (i : ℕ) → key.owner < length (states s) → AreThere s xs → Each (λ q. key.owner < q.owner) xs → AreRising xs → i < length xs → other ≡ get_or xs i other
    → on_one_line (path_of s key.owner) (path_of s other.owner) ≡ false → below_of s (take i xs) key ≡ below_of s xs key
ended s checked key other xs i k t b r l e off = ap (map (λ q. q.owner)) (filter_to (is_inside s key) i xs (none_pass (is_inside s key) (drop i xs) none))
  where
    rest : drop i xs ≡ other ∷ drop (i + 1) xs
    rest = drop_at xs i other l e

    rising : AreRising (other ∷ drop (i + 1) xs)
    rising = subst AreRising rest (rising_drop i xs r)

    there : AreThere s (other ∷ drop (i + 1) xs)
    there = subst (AreThere s) rest (each_drop (λ q. q.owner < length (states s)) i xs t)

    none : Each (λ x. is_inside s key x ≡ false) (drop i xs)
    none = subst (Each (λ x. is_inside s key x ≡ false)) (sym rest)
        (apart_not s key other off, all_apart s checked key other (drop (i + 1) xs) k there.0 (at_of (λ q. key.owner < q.owner) xs i other b l e) off rising.0 there.1)

-- Where the keys of the states behind one begin.

-- a later key is of no lower state
pub owners_rise : (keys : List Key) → AreRising keys → IsNonDecreasingBy (λ q. q.owner) keys
owners_rise [] r i j d l m = absurd (omega (arith, m))
owners_rise (x ∷ xs) r zero zero d l m = omega arith
owners_rise (x ∷ xs) r zero (suc j) d l m =
    at_most x (get_or xs j d) (each_one (IsBefore x) xs (get_or xs j d) r.0 (item_one xs j d (omega (arith, m))))
owners_rise (x ∷ xs) r (suc i) zero d l m = absurd (omega (arith, l))
owners_rise (x ∷ xs) r (suc i) (suc j) d l m = owners_rise xs r.1 i j d (omega (arith, l)) (omega (arith, m))

each_take : {A : Type 0} (P : A → Type 0) (xs : List A) (n : ℕ) → AllWithin P xs 0 n → Each P (take n xs)
each_take P xs zero f = tt
each_take P [] (suc n) f = tt
each_take P (x ∷ xs) (suc n) f = (f 0 x (omega arith) (omega arith), each_take P xs n (λ k d l m. f (suc k) d (omega arith) (omega (arith, m))))

each_from : {A : Type 0} (P : A → Type 0) (xs : List A) (n : ℕ) → AllWithin P xs n (length xs) → Each P (drop n xs)
each_from P [] zero f = tt
each_from P (x ∷ xs) zero f = (f 0 x (omega arith) (omega arith), each_from P xs zero (λ k d l m. f (suc k) d (omega arith) (omega (arith, m))))
each_from P [] (suc n) f = tt
each_from P (x ∷ xs) (suc n) f = each_from P xs n (λ k d l m. f (suc k) d (omega (arith, l)) (omega (arith, m)))

-- what a search by owner gives
pub past_is : (keys : List Key) (state place : ℕ) → place ≤ length keys
    → IsPartitionPoint (λ q. leb q.owner state ≡ true) (λ q. leb q.owner state ≡ false) keys place → IsPast keys state place
past_is keys state place l p = record {
  within = l;
  low = each_so (λ q. leb q.owner state ≡ true) (λ q. q.owner ≤ state) (take place keys) (λ q h. leb-true q.owner state h)
      (each_take (λ q. leb q.owner state ≡ true) keys place p.0);
  high = each_so (λ q. leb q.owner state ≡ false) (λ q. state < q.owner) (drop place keys) (λ q h. leb-false q.owner state h)
      (each_from (λ q. leb q.owner state ≡ false) keys place p.1);
}

-- The keys from a place on.

pub behind_is : (keys : List Key) (n : ℕ) → take (length keys - n) (drop n keys) ≡ drop n keys
behind_is keys n = take_all (length keys - n) (drop n keys) (omega (arith, length-drop n keys))

pub behind_rising : (keys : List Key) (n : ℕ) → AreRising keys → AreRising (take (length keys - n) (drop n keys))
behind_rising keys n r = subst AreRising (sym (behind_is keys n)) (rising_drop n keys r)

-- among those of the states behind one are all that are inside
pub all_behind : (s : Spec) (keys : List Key) (n : ℕ) (key : Key) → IsPast keys key.owner n → below_of s (take (length keys - n) (drop n keys)) key ≡ below_of s keys key
all_behind s keys n key p = ap (λ ks. below_of s ks key) (behind_is keys n)
    ∙ ap (map (λ q. q.owner)) (filter_from (is_inside s key) n keys (each_so (λ x. x.owner ≤ key.owner) (λ x. is_inside s key x ≡ false) (take n keys) (λ x l. lower_not s key x l) p.low))
