-- Places of the items that pass, gathered one event after another.
use Rattle.std.proofs.Common.{◌≡◌, ℕ, zero, suc, ◌+◌, ◌<◌, ◌≤◌, ◌==◌, ◌||◌, ◌&&◌, Bool, true, false, List, [], ◌∷◌, filter, Some, None, Option, if◌then◌else◌, slice_get, ⊎_elim, ◌⊎◌, inl, inr, refl, sym, ap, ◌∙◌, subst, true≢false, arith, nat_lt}
use Rattle.std.specs.List.{AllZip}
use Rattle.std.specs.Option.{option_map_or}
use Rattle.std.proofs.lemmas.Bool.{eqb-true, ne_eqb, cases_eq, cases_lt, lt-ltb, le-ltb}
use Rattle.std.specs.Cmp.{nat_eq_equiv}
use Rattle.rsml_meaning.specs.Words.{Each}
use Rattle.micro_step.specs.Rising.{AreRising, among}
use Rattle.micro_step.specs.Places.{passes, places_where, items_where, ArePlaces}
use Rattle.micro_step.proofs.RisingLemmas.{no_more, same_rising}

-- where all that a set has is below an end, and nothing from a number to there, it has nothing from that number on
pub none_left : (h : ℕ → Bool) (end from : ℕ) → ((k : ℕ) → h k ≡ true → k < end) → ((q : ℕ) → from ≤ q → q < end → h q ≡ false) → (q : ℕ) → from ≤ q → h q ≡ false
none_left h end from below none q l = by (h q) refl
  where
    by : (b : Bool) → h q ≡ b → h q ≡ false
    by true e = none q l (below q e)
    by false e = e

-- The places of the items that pass.

from_first : {A : Type 0} (t : A → Bool) (n : ℕ) (xs : List A) (low : ℕ) → low ≤ n → Each (λ k. low ≤ k) (places_where t n xs)
from_first t n [] low l = tt
from_first t n (x ∷ xs) low l = by (t x) (from_first t (suc n) xs low (omega (arith, l)))
  where
    by : (b : Bool) → Each (λ k. low ≤ k) (places_where t (suc n) xs) → Each (λ k. low ≤ k) (if b then n ∷ places_where t (suc n) xs else places_where t (suc n) xs)
    by true rest = (l, rest)
    by false rest = rest

each_above : (n : ℕ) (ks : List ℕ) → Each (λ k. suc n ≤ k) ks → Each (λ k. n < k) ks
each_above n [] e = tt
each_above n (k ∷ ks) e = (omega (arith, e.0), each_above n ks e.1)

pub rising_places : {A : Type 0} (t : A → Bool) (n : ℕ) (xs : List A) → AreRising (places_where t n xs)
rising_places t n [] = tt
rising_places t n (x ∷ xs) = by (t x) (rising_places t (suc n) xs)
  where
    by : (b : Bool) → AreRising (places_where t (suc n) xs) → AreRising (if b then n ∷ places_where t (suc n) xs else places_where t (suc n) xs)
    by true rest = (each_above n (places_where t (suc n) xs) (from_first t (suc n) xs (suc n) (omega arith)), rest)
    by false rest = rest

not_there : (q : ℕ) (ks : List ℕ) → Each (λ k. suc q ≤ k) ks → among ks q ≡ false
not_there q [] e = refl
not_there q (k ∷ ks) e =
    let other : k ≡ q → ⊥ = λ h. omega (arith, h, e.0) in
    ap (λ (b : Bool). b || among ks q) (ne_eqb k q other) ∙ not_there q ks e.1

among_from : {A : Type 0} (t : A → Bool) (n j : ℕ) (xs : List A) → among (places_where t n xs) (n + j) ≡ passes t xs j
among_from t n zero [] = refl
among_from t n (suc j) [] = refl
among_from t n zero (x ∷ xs) =
    let same : n + 0 ≡ n = omega arith in
    ap (among (places_where t n (x ∷ xs))) same ∙ by (t x)
  where
    by : (b : Bool) → among (if b then n ∷ places_where t (suc n) xs else places_where t (suc n) xs) n ≡ b
    by true = ap (λ (b : Bool). b || among (places_where t (suc n) xs) n) (nat_eq_equiv.refl n)
    by false = not_there n (places_where t (suc n) xs) (from_first t (suc n) xs (suc n) (omega arith))
among_from t n (suc j) (x ∷ xs) =
    let same : n + suc j ≡ suc n + j = omega arith in
    ap (among (places_where t n (x ∷ xs))) same ∙ by (t x) (among_from t (suc n) j xs)
  where
    other : n ≡ suc n + j → ⊥
    other h = omega (arith, h)

    by : (b : Bool) → among (places_where t (suc n) xs) (suc n + j) ≡ passes t xs j → among (if b then n ∷ places_where t (suc n) xs else places_where t (suc n) xs) (suc n + j) ≡ passes t xs j
    by true rest = ap (λ (b : Bool). b || among (places_where t (suc n) xs) (suc n + j)) (ne_eqb n (suc n + j) other) ∙ rest
    by false rest = rest

pub among_places : {A : Type 0} (t : A → Bool) (xs : List A) (q : ℕ) → among (places_where t 0 xs) q ≡ passes t xs q
among_places t xs q =
    let same : q ≡ 0 + q = omega arith in
    ap (among (places_where t 0 xs)) same ∙ among_from t 0 q xs

-- rising numbers among which are the places of the items that pass are those places
pub are_places : {A : Type 0} (t : A → Bool) (xs : List A) (ks : List ℕ) → AreRising ks → ((q : ℕ) → among ks q ≡ passes t xs q) → ks ≡ places_where t 0 xs
are_places t xs ks r h = same_rising ks (places_where t 0 xs) r (rising_places t 0 xs) (λ q. h q ∙ sym (among_places t xs q))

-- One event: its numbers one after another.

-- a number that is put in is one that passes
pub put_enabled : (enabled : ℕ → Bool) (a : Bool) (k q : ℕ) → enabled k ≡ true → (a || k == q) ≡ (a || (k == q && enabled q))
put_enabled enabled a k q on = by (k == q) refl
  where
    by : (b : Bool) → (k == q) ≡ b → (a || b) ≡ (a || (b && enabled q))
    by true e = ap (λ (z : Bool). a || z) (sym (ap enabled (sym (eqb-true k q e)) ∙ on))
    by false e = refl

-- one that does not pass is left out
pub skip_disabled : (enabled : ℕ → Bool) (a : Bool) (k q : ℕ) → enabled k ≡ false → a ≡ (a || (k == q && enabled q))
skip_disabled enabled a k q off = by (k == q) refl
  where
    by : (b : Bool) → (k == q) ≡ b → a ≡ (a || (b && enabled q))
    by true e = sym (no_more a) ∙ ap (λ (z : Bool). a || z) (sym (ap enabled (sym (eqb-true k q e)) ∙ off))
    by false e = sym (no_more a)

-- One event after another.

-- an item passes that is on an event of the set below a number
abbrev pub before_event : {A : Type 0} → (ℕ → Bool) → (A → ℕ) → (A → Bool) → ℕ → A → Bool
before_event h ev en from x = (h (ev x) && nat_lt (ev x) from) && en x

-- an item passes that is on an event of the set
abbrev pub on_set : {A : Type 0} → (ℕ → Bool) → (A → ℕ) → (A → Bool) → A → Bool
on_set h ev en x = h (ev x) && en x

nothing_below : (h : ℕ → Bool) (v : ℕ) (b : Bool) → ((h v && nat_lt v 0) && b) ≡ false
nothing_below h v b = ap (λ (z : Bool). (h v && z) && b) (le-ltb v 0 (omega arith)) ∙ by (h v)
  where
    by : (a : Bool) → ((a && false) && b) ≡ false
    by true = refl
    by false = refl

event_turn : (h : ℕ → Bool) (from e v : ℕ) (b : Bool) → from ≤ e → h e ≡ true → ((p : ℕ) → from ≤ p → p < e → h p ≡ false)
    → (((h v && nat_lt v from) && b) || (v == e && b)) ≡ ((h v && nat_lt v (e + 1)) && b)
event_turn h from e v b low here between = ⊎_elim (λ l. earlier l) (λ l. ⊎_elim (λ m. skipped l m) (λ m. ⊎_elim (λ n. now n) (λ n. later m n) (cases_eq v e)) (cases_lt v e)) (cases_lt v from)
  where
    earlier : v < from → (((h v && nat_lt v from) && b) || (v == e && b)) ≡ ((h v && nat_lt v (e + 1)) && b)
    earlier l =
        let other : v ≡ e → ⊥ = λ q. omega (arith, q, l, low) in
        ap (λ (z : Bool). ((h v && nat_lt v from) && b) || (z && b)) (ne_eqb v e other)
        ∙ no_more ((h v && nat_lt v from) && b)
        ∙ ap (λ (z : Bool). (h v && z) && b) (lt-ltb v from l ∙ sym (lt-ltb v (e + 1) (omega (arith, l, low))))

    skipped : from ≤ v → v < e → (((h v && nat_lt v from) && b) || (v == e && b)) ≡ ((h v && nat_lt v (e + 1)) && b)
    skipped l m =
        let other : v ≡ e → ⊥ = λ q. omega (arith, q, m) in
        let off = between v l m in
        ap (λ (z : Bool). ((h v && nat_lt v from) && b) || (z && b)) (ne_eqb v e other)
        ∙ ap (λ (z : Bool). ((z && nat_lt v from) && b) || false) off
        ∙ sym (ap (λ (z : Bool). (z && nat_lt v (e + 1)) && b) off)

    now : v ≡ e → (((h v && nat_lt v from) && b) || (v == e && b)) ≡ ((h v && nat_lt v (e + 1)) && b)
    now n =
        let on : h v ≡ true = ap h n ∙ here in
        ap (λ (z : Bool). ((z && nat_lt v from) && b) || (v == e && b)) on
        ∙ ap (λ (z : Bool). (z && b) || (v == e && b)) (le-ltb v from (omega (arith, n, low)))
        ∙ ap (λ (z : Bool). z && b) (subst (λ z. (v == z) ≡ true) n (nat_eq_equiv.refl v))
        ∙ sym (ap (λ (z : Bool). (z && nat_lt v (e + 1)) && b) on ∙ ap (λ (z : Bool). z && b) (lt-ltb v (e + 1) (omega (arith, n))))

    later : e ≤ v → (v ≡ e → ⊥) → (((h v && nat_lt v from) && b) || (v == e && b)) ≡ ((h v && nat_lt v (e + 1)) && b)
    later m n =
        let past : e + 1 ≤ v = omega (arith, m, n) in
        ap (λ (z : Bool). ((h v && nat_lt v from) && b) || (z && b)) (ne_eqb v e n)
        ∙ no_more ((h v && nat_lt v from) && b)
        ∙ ap (λ (z : Bool). (h v && z) && b) (le-ltb v from (omega (arith, past, low)) ∙ sym (le-ltb v (e + 1) past))

same_pass : {A : Type 0} (t u : A → Bool) (xs : List A) (q : ℕ) → ((x : A) → t x ≡ u x) → passes t xs q ≡ passes u xs q
same_pass t u xs q h = by (slice_get xs q)
  where
    by : (o : Option _) → option_map_or t o false ≡ option_map_or u o false
    by None = refl
    by (Some x) = h x

either_pass : {A : Type 0} (t u : A → Bool) (xs : List A) (q : ℕ) → (passes t xs q || passes u xs q) ≡ passes (λ x. t x || u x) xs q
either_pass t u xs q = by (slice_get xs q)
  where
    by : (o : Option _) → (option_map_or t o false || option_map_or u o false) ≡ option_map_or (λ x. t x || u x) o false
    by None = refl
    by (Some x) = refl

never : {A : Type 0} (xs : List A) (q : ℕ) → passes (λ (x : A). false) xs q ≡ false
never {A} xs q = by (slice_get xs q)
  where
    by : (o : Option A) → option_map_or (λ (x : A). false) o false ≡ false
    by None = refl
    by (Some x) = refl

pub events_none : {A : Type 0} (h : ℕ → Bool) (ev : A → ℕ) (en : A → Bool) (xs : List A) (q : ℕ) → false ≡ passes (before_event h ev en 0) xs q
events_none {A} h ev en xs q = sym (same_pass (before_event h ev en 0) (λ (x : A). false) xs q (λ x. nothing_below h (ev x) (en x)) ∙ never xs q)

pub events_more : {A : Type 0} (h : ℕ → Bool) (ev : A → ℕ) (en : A → Bool) (xs : List A) (ks new : List ℕ) (from e : ℕ) → from ≤ e → h e ≡ true → ((p : ℕ) → from ≤ p → p < e → h p ≡ false)
    → ((q : ℕ) → among ks q ≡ passes (before_event h ev en from) xs q) → ((q : ℕ) → among new q ≡ (among ks q || passes (λ x. ev x == e && en x) xs q))
    → (q : ℕ) → among new q ≡ passes (before_event h ev en (e + 1)) xs q
events_more h ev en xs ks new from e low here between old more q =
    more q
    ∙ ap (λ (b : Bool). b || passes (λ x. ev x == e && en x) xs q) (old q)
    ∙ either_pass (before_event h ev en from) (λ x. ev x == e && en x) xs q
    ∙ same_pass (λ x. before_event h ev en from x || (ev x == e && en x)) (before_event h ev en (e + 1)) xs q (λ x. event_turn h from e (ev x) (en x) low here between)

pub events_all : {A : Type 0} (h : ℕ → Bool) (ev : A → ℕ) (en : A → Bool) (xs : List A) (q from : ℕ) → ((p : ℕ) → from ≤ p → h p ≡ false)
    → passes (before_event h ev en from) xs q ≡ passes (on_set h ev en) xs q
events_all h ev en xs q from past = same_pass (before_event h ev en from) (on_set h ev en) xs q (λ x. by x (cases_lt (ev x) from))
  where
    all : (a : Bool) → (a && true) ≡ a
    all true = refl
    all false = refl

    by : (x : _) → (ev x < from) ⊎ (from ≤ ev x) → before_event h ev en from x ≡ on_set h ev en x
    by x (inl l) = ap (λ (z : Bool). (h (ev x) && z) && en x) (lt-ltb (ev x) from l) ∙ ap (λ (z : Bool). z && en x) (all (h (ev x)))
    by x (inr l) = ap (λ (z : Bool). (z && nat_lt (ev x) from) && en x) (past (ev x) l) ∙ sym (ap (λ (z : Bool). z && en x) (past (ev x) l))

-- Items and places.

places_from : {A : Type 0} (t : A → Bool) (xs all : List A) (n : ℕ) → ((j : ℕ) → slice_get all (n + j) ≡ slice_get xs j) → ArePlaces all (filter t xs) (places_where t n xs)
places_from t [] all n at = tt
places_from t (x ∷ xs) all n at = by (t x) (places_from t xs all (suc n) (λ j. ap (slice_get all) (shift j) ∙ at (suc j)))
  where
    shift : (j : ℕ) → suc n + j ≡ n + suc j
    shift j = omega arith

    here : slice_get all n ≡ Some x
    here = let same : n ≡ n + 0 = omega arith in ap (slice_get all) same ∙ at 0

    by : (b : Bool) → ArePlaces all (filter t xs) (places_where t (suc n) xs)
        → ArePlaces all (if b then x ∷ filter t xs else filter t xs) (if b then n ∷ places_where t (suc n) xs else places_where t (suc n) xs)
    by true rest = (here, rest)
    by false rest = rest

-- the items that pass are at the places of those that pass
pub passing_places : {A : Type 0} (t : A → Bool) (xs : List A) → ArePlaces xs (filter t xs) (places_where t 0 xs)
passing_places t xs = places_from t xs xs 0 (λ j. let same : 0 + j ≡ j = omega arith in ap (slice_get xs) same)

-- the places of the items that pass are the places of the items of another list that pass there
pub same_places : {A B : Type 0} (R : A → B → Type 0) (f : B → Bool) (g : A → Bool) (xs : List A) (ys : List B) → AllZip R xs ys → ((a : A) (b : B) → R a b → f b ≡ g a)
    → (n : ℕ) → places_where f n ys ≡ places_where g n xs
same_places R f g [] [] z h n = refl
same_places R f g [] (b ∷ ys) z h n = absurd z
same_places R f g (a ∷ xs) [] z h n = absurd z
same_places R f g (a ∷ xs) (b ∷ ys) z h n =
    let rest = same_places R f g xs ys z.1 h (suc n) in
    λ i. if h a b z.0 i then n ∷ rest i else rest i

-- the items at places that pass are those that pass
pub items_are : {A : Type 0} (p : ℕ → Bool) (f : A → Bool) (n : ℕ) (xs : List A) → ((j : ℕ) (x : A) → slice_get xs j ≡ Some x → p (n + j) ≡ f x) → items_where p n xs ≡ filter f xs
items_are p f n [] h = refl
items_are p f n (x ∷ xs) h =
    by (p n) (f x) (ap p same ∙ h 0 x refl) (items_are p f (suc n) xs (λ j y e. ap p (shift j) ∙ h (suc j) y e))
  where
    same : n ≡ n + 0
    same = omega arith

    shift : (j : ℕ) → suc n + j ≡ n + suc j
    shift j = omega arith

    by : (a b : Bool) → a ≡ b → items_where p (suc n) xs ≡ filter f xs → (if a then x ∷ items_where p (suc n) xs else items_where p (suc n) xs) ≡ (if b then x ∷ filter f xs else filter f xs)
    by true true e rest = ap (λ ys. x ∷ ys) rest
    by false false e rest = rest
    by true false e rest = absurd (true≢false e)
    by false true e rest = absurd (true≢false (sym e))
