-- Keys in order.
use Rattle.std.proofs.Common.{◌≡◌, ℕ, suc, ◌+◌, ◌<◌, ◌≤◌, Bool, true, false, ◌&&◌, ◌||◌, List, [], ◌∷◌, ◌++◌, length, inl, inr, ⊎_elim, refl, sym, ap, ◌∙◌, subst, take, nat_eq, true≢false, arith, slice_index_or, slice_get, Some, map, zero, get_or, if◌then◌else◌, Option, None, replicate, IfSome}
use Rattle.std.specs.List.{list_any, IsDistinct, position}
use Rattle.std.specs.List.Sorted.{IsSorted}
use Rattle.std.specs.Ordering.{nat_cmp, ordering_then, is_lt}
use Rattle.std.specs.declared.cmp.Ordering.{Ordering}
use Rattle.std.specs.declared.cmp.Ordering.TheVariants.{Less, Equal}
use Rattle.std.specs.Cmp.{first_so, second_so}
use Rattle.std.proofs.lemmas.Bool.{cases_lt}
use Rattle.std.proofs.lemmas.Bool.Decides.{nat_tests}
use Rattle.std.proofs.lemmas.List.{take_all, take_more, length-take-le}
use Rattle.std.proofs.lemmas.List.Quantifiers.{position-Some}
use Rattle.std.proofs.lemmas.Option.{same_Some}
use Rattle.state_tree.proofs.Lists.{get_item, one_at, not_true}
use Rattle.rsml_meaning.specs.Words.{Each, IsOne}
use Rattle.ground_groups.specs.declared.key.Key.{Key}
use Rattle.ground_groups.specs.Heads.{same_key, IsBefore, AreRising, AreHeads, places_of, with_item}

-- the key that is read where there is none
abbrev pub blank : Key
blank = record { owner = 0; event = 0 }

-- by owner, and then by event
abbrev pub key_cmp : Key → Key → Ordering
key_cmp x y = ordering_then (nat_cmp x.owner y.owner) (nat_cmp x.event y.event)

is_same : (a b : ℕ) → nat_eq a b ≡ true → a ≡ b
is_same a b h = grind (arith, nat_tests)

are_same : (a b c d : ℕ) → a ≡ b → c ≡ d → (nat_eq a b && nat_eq c d) ≡ true
are_same a b c d h k = grind (arith, nat_tests)

pub key_same : (x y : Key) → same_key x y ≡ true → x ≡ y
key_same x y h =
    let a = is_same x.owner y.owner (first_so (nat_eq x.owner y.owner) (nat_eq x.event y.event) h) in
    let b = is_same x.event y.event (second_so (nat_eq x.owner y.owner) (nat_eq x.event y.event) h) in
    λ i. record { owner = a i; event = b i }

pub key_itself : (x : Key) → same_key x x ≡ true
key_itself x = are_same x.owner x.owner x.event x.event refl refl

is_less : (a b : ℕ) → a < b → nat_cmp a b ≡ Less
is_less a b h = grind (arith, nat_tests)

is_equal : (a b : ℕ) → a ≡ b → nat_cmp a b ≡ Equal
is_equal a b h = grind (arith, nat_tests)

less_first : (a b c d : ℕ) → b < a → is_lt (ordering_then (nat_cmp b a) (nat_cmp d c)) ≡ true
less_first a b c d h = ap (λ o. is_lt (ordering_then o (nat_cmp d c))) (is_less b a h)

less_second : (a b c d : ℕ) → b ≡ a → d < c → is_lt (ordering_then (nat_cmp b a) (nat_cmp d c)) ≡ true
less_second a b c d e h =
    ap (λ o. is_lt (ordering_then o (nat_cmp d c))) (is_equal b a e) ∙ ap is_lt (is_less d c h)

-- where the later is not less and not the same, the first is before it
adjacent : (x y : Key) → is_lt (key_cmp y x) ≡ false → same_key x y ≡ false → IsBefore x y
adjacent x y h d = ⊎_elim
    (λ l. inl l)
    (λ l. ⊎_elim
    (λ k. absurd (true≢false (sym (less_first x.owner y.owner x.event y.event k) ∙ h)))
    (λ k. inr (
      both k l,
      ⊎_elim
          (λ m. m)
          (λ m. ⊎_elim
          (λ n. absurd (true≢false (sym (less_second x.owner y.owner x.event y.event (sym (both k l)) n) ∙ h)))
          (λ n. absurd (true≢false (sym (are_same x.owner y.owner x.event y.event (both k l) (equal x.event y.event n m)) ∙ d)))
          (cases_lt y.event x.event))
          (cases_lt x.event y.event),
    ))
    (cases_lt y.owner x.owner))
    (cases_lt x.owner y.owner)
  where
    equal : (a b : ℕ) → a ≤ b → b ≤ a → a ≡ b
    equal a b k l = omega (arith, k, l)

    both : x.owner ≤ y.owner → y.owner ≤ x.owner → x.owner ≡ y.owner
    both k l = equal x.owner y.owner k l

pub before_then : (x y z : Key) → IsBefore x y → IsBefore y z → IsBefore x z
before_then x y z (inl h) (inl k) = inl (omega (arith, h, k))
before_then x y z (inl h) (inr k) = let e = k.0 in inl (omega (arith, h, e))
before_then x y z (inr h) (inl k) = let e = h.0 in inl (omega (arith, e, k))
before_then x y z (inr h) (inr k) = let l = h.1 in let m = k.1 in inr (h.0 ∙ k.0, omega (arith, l, m))

pub not_before : (x : Key) → IsBefore x x → ⊥
not_before x (inl h) = omega (arith, h)
not_before x (inr h) = let l = h.1 in omega (arith, l)

pub each_so : {A : Type 0} (P Q : A → Type 0) (xs : List A) → ((x : A) → P x → Q x) → Each P xs → Each Q xs
each_so P Q [] f h = tt
each_so P Q (x ∷ xs) f h = (f x h.0, each_so P Q xs f h.1)

pub each_one : {A : Type 0} (P : A → Type 0) (xs : List A) (x : A) → Each P xs → IsOne x xs → P x
each_one P [] x h m = absurd m
each_one P (y ∷ xs) x h (inl e) = subst P (sym e) h.0
each_one P (y ∷ xs) x h (inr m) = each_one P xs x h.1 m

further : (k : ℕ) → suc k + 1 ≡ suc (k + 1)
further k = omega arith

rising_from : (xs : List Key) → IsSorted key_cmp xs → IsDistinct same_key xs → AreRising xs
unfolding IsDistinct
rising_from [] s d = tt
rising_from (x ∷ []) s d = (tt, tt)
rising_from (x ∷ y ∷ xs) s d =
    let r = rising_from (y ∷ xs) (λ k e l m. subst (λ n. is_lt (key_cmp (slice_index_or (x ∷ y ∷ xs) n e) (slice_index_or (y ∷ xs) k e)) ≡ false) (further k) (s (suc k) e (omega arith) (omega (arith, m)))) d.1 in
    let b = adjacent x y (s 0 x (omega arith) (omega arith)) d.0.0 in
    ((b, each_so (IsBefore y) (IsBefore x) xs (λ z h. before_then x y z b h) r.0), r)

pub one_of_any : (q : Key) (xs : List Key) → list_any (same_key q) xs ≡ true → IsOne q xs
one_of_any q [] h = absurd (true≢false (sym h))
one_of_any q (x ∷ xs) h = by_test (same_key q x) refl h (one_of_any q xs)
  where
    by_test : (t : Bool) → t ≡ same_key q x → (t || list_any (same_key q) xs) ≡ true → (list_any (same_key q) xs ≡ true → IsOne q xs) → IsOne q (x ∷ xs)
    by_test true e k f = inl (key_same q x (sym e))
    by_test false e k f = inr (f k)

or_true : (b : Bool) → (b || true) ≡ true
or_true true = refl
or_true false = refl

pub any_of_one : (q : Key) (xs : List Key) → IsOne q xs → list_any (same_key q) xs ≡ true
any_of_one q [] m = absurd m
any_of_one q (x ∷ xs) (inl e) = ap (λ b. b || list_any (same_key q) xs) (subst (λ z. same_key q z ≡ true) e (key_itself q))
any_of_one q (x ∷ xs) (inr m) = ap (λ b. same_key q x || b) (any_of_one q xs m) ∙ or_true (same_key q x)

or_false : (b : Bool) → (b || false) ≡ b
or_false true = refl
or_false false = refl

-- a key that is there makes no difference
pub any_kept : (q : Key) (keys : List Key) (n : ℕ) (key : Key) → slice_get keys n ≡ Some key → list_any (same_key q) keys ≡ (list_any (same_key q) keys || same_key q key)
any_kept q keys n key h = by (same_key q key) refl
  where
    by : (b : Bool) → same_key q key ≡ b → list_any (same_key q) keys ≡ (list_any (same_key q) keys || b)
    by true e = subst (λ z. list_any (same_key z) keys ≡ true) (sym (key_same q key e)) (any_of_one key keys (one_at keys n key h)) ∙ sym (or_true (list_any (same_key q) keys))
    by false e = sym (or_false (list_any (same_key q) keys))

-- what a set of the keys is, sorted
pub are_heads : (keys before heads : List Key) (i : ℕ) → IsSorted key_cmp heads → IsDistinct same_key heads → ((q : Key) → list_any (same_key q) heads ≡ list_any (same_key q) before)
    → ((q : Key) → list_any (same_key q) before ≡ list_any (same_key q) (take i keys)) → length keys ≤ i → AreHeads keys heads
are_heads keys before heads i s d same there l = record {
  rising = rising_from heads s d;
  all = λ q m. one_of_any q heads (any q ∙ any_of_one q keys m);
  only = λ q m. one_of_any q keys (sym (any q) ∙ any_of_one q heads m);
}
  where
    any : (q : Key) → list_any (same_key q) heads ≡ list_any (same_key q) keys
    any q = same q ∙ there q ∙ ap (list_any (same_key q)) (take_all i keys l)

-- two in order are not the same
pub not_same : (x y : Key) → IsBefore x y → (same_key x y ≡ false) × (same_key y x ≡ false)
not_same x y h = (
  not_true (same_key x y) (λ k. not_before x (subst (λ z. IsBefore x z) (sym (key_same x y k)) h)),
  not_true (same_key y x) (λ k. not_before x (subst (λ z. IsBefore x z) (key_same y x k) h)),
)

-- what a search gives
pub found_at : (q : Key) (xs : List Key) (i : ℕ) → position (same_key q) xs ≡ Some i → slice_get xs i ≡ Some q
found_at q xs i h =
    let r = position-Some (same_key q) xs i q h in
    get_item xs i q r.0 (key_same q (get_or xs i q) r.1)

-- the lists at the places of keys, where one key has one item more
pub spread : (f g : Key → List ℕ) (xs : List Key) (x : Key) (n item : ℕ) → AreRising xs → slice_get xs n ≡ Some x → g x ≡ f x ++ item ∷ [] → ((k : Key) → same_key x k ≡ false → g k ≡ f k)
    → map g xs ≡ with_item n item (map f xs)
spread f g [] x n item r e h o = absurd (let no : ⊥ = cc in no)
spread f g (k ∷ xs) x zero item r e h o =
    let is = same_Some k x e in
    λ i. subst (λ z. g z ≡ f z ++ item ∷ []) (sym is) h i ∷ others xs (each_so (IsBefore k) (λ y. same_key x y ≡ false) xs (λ y b. subst (λ z. same_key z y ≡ false) is (not_same k y b).0) r.0) i
  where
    others : (ys : List Key) → Each (λ y. same_key x y ≡ false) ys → map g ys ≡ map f ys
    others [] m = refl
    others (y ∷ ys) m = λ i. o y m.0 i ∷ others ys m.1 i
spread f g (k ∷ xs) x (suc n) item r e h o =
    let b = each_one (IsBefore k) xs x r.0 (one_at xs n x e) in
    λ i. o k (not_same k x b).1 i ∷ spread f g xs x n item r.1 e h o i

-- the places where one more key stands behind
pub places_hit : (k x : Key) (at : ℕ) (xs : List Key) → same_key x k ≡ true → places_of k at (xs ++ x ∷ []) ≡ places_of k at xs ++ (at + length xs) ∷ []
places_hit k x at [] h = ap (λ b. if b then at ∷ [] else []) h ∙ ap (λ n. n ∷ []) (none at)
  where
    none : (n : ℕ) → n ≡ n + 0
    none n = omega arith
places_hit k x at (y ∷ xs) h = by_test (same_key y k) (places_hit k x (suc at) xs h ∙ ap (λ n. places_of k (suc at) xs ++ n ∷ []) (shift (length xs)))
  where
    shift : (n : ℕ) → suc at + n ≡ at + suc n
    shift n = omega arith

    by_test : (t : Bool) → places_of k (suc at) (xs ++ x ∷ []) ≡ places_of k (suc at) xs ++ (at + suc (length xs)) ∷ []
        → (if t then at ∷ places_of k (suc at) (xs ++ x ∷ []) else places_of k (suc at) (xs ++ x ∷ [])) ≡ (if t then at ∷ places_of k (suc at) xs else places_of k (suc at) xs) ++ (at + suc (length xs)) ∷ []
    by_test true e = ap (λ l. at ∷ l) e
    by_test false e = e

pub places_miss : (k x : Key) (at : ℕ) (xs : List Key) → same_key x k ≡ false → places_of k at (xs ++ x ∷ []) ≡ places_of k at xs
places_miss k x at [] h = ap (λ b. if b then at ∷ [] else []) h
places_miss k x at (y ∷ xs) h = ap (λ l. if same_key y k then at ∷ l else l) (places_miss k x (suc at) xs h)

-- one step further among the keys
pub one_more : (keys xs : List Key) (i n : ℕ) (x d : Key) → AreRising xs → i < length keys → x ≡ get_or keys i d → slice_get xs n ≡ Some x
    → map (λ k. places_of k 0 (take (i + 1) keys)) xs ≡ with_item n i (map (λ k. places_of k 0 (take i keys)) xs)
one_more keys xs i n x d r l e h = spread (λ k. places_of k 0 (take i keys)) (λ k. places_of k 0 (take (i + 1) keys)) xs x n i r h
    (ap (places_of x 0) more ∙ places_hit x x 0 (take i keys) (key_itself x) ∙ ap (λ m. places_of x 0 (take i keys) ++ m ∷ []) (zero_plus ∙ length-take-le i keys (omega (arith, l))))
    (λ k m. ap (places_of k 0) more ∙ places_miss k x 0 (take i keys) m)
  where
    more : take (i + 1) keys ≡ take i keys ++ x ∷ []
    more = take_more keys i d l ∙ ap (λ z. take i keys ++ z ∷ []) (sym e)

    zero_plus : 0 + length (take i keys) ≡ length (take i keys)
    zero_plus = omega arith

pub some_found : (q : Key) (xs : List Key) (o : Option ℕ) → o ≡ position (same_key q) xs → IfSome o (λ place. slice_get xs place ≡ Some q)
some_found q xs None e = tt
some_found q xs (Some i) e = found_at q xs i (sym e)

pub empties : (xs : List Key) → replicate {A = List ℕ} (length xs) [] ≡ map {A = Key} {B = List ℕ} (λ k. []) xs
empties [] = refl
empties (x ∷ xs) = ap (λ z. [] ∷ z) (empties xs)

pub item_one : (xs : List Key) (i : ℕ) (d : Key) → i < length xs → IsOne (slice_index_or xs i d) xs
item_one [] i d l = absurd (omega (arith, l))
item_one (x ∷ xs) zero d l = inl refl
item_one (x ∷ xs) (suc i) d l = inr (item_one xs i d (omega (arith, l)))

-- keys of items that are gone through one after another

pub any_mapped : {A : Type 0} (f : A → Key) (q : Key) (i : ℕ) (xs : List A) → list_any (λ x. same_key q (f x)) (take i xs) ≡ list_any (same_key q) (take i (map f xs))
any_mapped f q zero xs = refl
any_mapped f q (suc i) [] = refl
any_mapped f q (suc i) (x ∷ xs) = ap (λ b. same_key q (f x) || b) (any_mapped f q i xs)

pub get_mapped : {A : Type 0} (f : A → Key) (xs : List A) (i : ℕ) (d : A) → f (get_or xs i d) ≡ get_or (map f xs) i (f d)
get_mapped f [] i d = refl
get_mapped f (x ∷ xs) zero d = refl
get_mapped f (x ∷ xs) (suc i) d = get_mapped f xs i d
