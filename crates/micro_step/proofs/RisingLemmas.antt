-- Rising numbers: one put in, and when two lists of them are one.
use Rattle.std.proofs.Common.{◌≡◌, ℕ, zero, suc, ◌+◌, ◌-◌, ◌<◌, ◌≤◌, ◌==◌, ◌||◌, Bool, true, false, List, [], ◌∷◌, ◌++◌, length, get_or, slice_get, Some, None, Result, Ok, Err, IfErr, ⊎_elim, inl, inr, ◌⊎◌, refl, sym, ap, ◌∙◌, subst, true≢false, arith}
use Rattle.std.specs.List.{insert, list_any}
use Rattle.std.proofs.lemmas.Bool.{eqb-true, ne_eqb, cases_eq, cases_lt}
use Rattle.std.specs.Cmp.{nat_eq_equiv}
use Rattle.std.proofs.lemmas.Option.{get_or_from_slice_get, slice_get_within}
use Rattle.std.specs.List.Sorted.{IsBinarySearchResult}
use Rattle.std.specs.Ordering.{nat_cmp}
use Rattle.std.proofs.lemmas.List.Sorted.{searched}
use Rattle.rsml_meaning.specs.Words.{Each}
use Rattle.state_tree.proofs.Lists.{within_get}
use Rattle.micro_step.specs.Rising.{AreRising, among, AreKept, IsPlaceFor}

-- Tests.

or_swap : (a b : Bool) → (a || b) ≡ (b || a)
or_swap true true = refl
or_swap true false = refl
or_swap false true = refl
or_swap false false = refl

pub or_group : (a b c : Bool) → (a || (b || c)) ≡ ((a || b) || c)
or_group true b c = refl
or_group false b c = refl

or_again : (a b : Bool) → (b ≡ true → a ≡ true) → (a || b) ≡ a
or_again true b h = refl
or_again false true h = sym (h refl)
or_again false false h = refl

pub no_more : (a : Bool) → (a || false) ≡ a
no_more true = refl
no_more false = refl

-- none is among no items
pub none_among : {A : Type 0} (p : A → Bool) (xs : List A) → (length xs == 0) ≡ true → false ≡ list_any p xs
none_among p [] h = refl
none_among p (x ∷ xs) h = let no : length (x ∷ xs) ≡ 0 = eqb-true (length (x ∷ xs)) 0 h in absurd (omega (arith, no))

same_number : (n k : ℕ) → (n == k) ≡ true → n ≡ k
same_number n k h = eqb-true n k h

-- Each.

each_higher : (y : ℕ) (xs : List ℕ) → ((k : ℕ) → k < length xs → y < get_or xs k 0) → Each (λ k. y < k) xs
each_higher y [] h = tt
each_higher y (x ∷ xs) h = (h 0 (omega arith), each_higher y xs (λ k l. h (suc k) (omega (arith, l))))

each_put : (P : ℕ → Type 0) (xs : List ℕ) (i y : ℕ) → Each P xs → P y → Each P (insert xs i y)
each_put P [] zero y e p = (p, tt)
each_put P [] (suc i) y e p = (p, tt)
each_put P (x ∷ xs) zero y e p = (p, e)
each_put P (x ∷ xs) (suc i) y e p = (e.0, each_put P xs i y e.1 p)

lower_each : (x y : ℕ) (xs : List ℕ) → x < y → Each (λ k. y < k) xs → Each (λ k. x < k) xs
lower_each x y [] l e = tt
lower_each x y (z ∷ xs) l e = (omega (arith, l, e.0), lower_each x y xs l e.1)

-- One more number.

-- numbers rise still where one is put between those below and those above it
pub still_rising : (xs : List ℕ) (i y : ℕ) → AreRising xs → i ≤ length xs → ((k : ℕ) → k < i → get_or xs k 0 < y) → ((k : ℕ) → i ≤ k → k < length xs → y < get_or xs k 0) → AreRising (insert xs i y)
still_rising [] zero y r l low high = (tt, tt)
still_rising [] (suc i) y r l low high = absurd (omega (arith, l))
still_rising (x ∷ xs) zero y r l low high = (each_higher y (x ∷ xs) (λ k m. high k (omega arith) m), r)
still_rising (x ∷ xs) (suc i) y r l low high = (
  each_put (λ k. x < k) xs i y r.0 (low 0 (omega arith)),
  still_rising xs i y r.1 (omega (arith, l)) (λ k m. low (suc k) (omega (arith, m))) (λ k m n. high (suc k) (omega (arith, m)) (omega (arith, n))),
)

pub among_put : (xs : List ℕ) (i y q : ℕ) → i ≤ length xs → among (insert xs i y) q ≡ (among xs q || y == q)
among_put [] zero y q l = no_more (y == q)
among_put [] (suc i) y q l = absurd (omega (arith, l))
among_put (x ∷ xs) zero y q l = or_swap (y == q) (among (x ∷ xs) q)
among_put (x ∷ xs) (suc i) y q l = ap (λ (b : Bool). x == q || b) (among_put xs i y q (omega (arith, l))) ∙ or_group (x == q) (among xs q) (y == q)

pub among_at : (xs : List ℕ) (i y : ℕ) → i < length xs → get_or xs i 0 ≡ y → among xs y ≡ true
among_at [] i y l e = absurd (omega (arith, l))
among_at (x ∷ xs) zero y l e = ap (λ (b : Bool). b || among xs y) (subst (λ z. (x == z) ≡ true) e (nat_eq_equiv.refl x))
among_at (x ∷ xs) (suc i) y l e = ap (λ (b : Bool). x == y || b) (among_at xs i y (omega (arith, l)) e) ∙ or_swap (x == y) true

-- a number that is there may be put in again
pub among_there : (xs : List ℕ) (i y q : ℕ) → slice_get xs i ≡ Some y → among xs q ≡ (among xs q || y == q)
among_there xs i y q at = sym (or_again (among xs q) (y == q) (λ h. subst (λ z. among xs z ≡ true) (same_number y q h)
    (among_at xs i y (slice_get_within xs i y at) (get_or_from_slice_get xs i y 0 at))))

-- numbers that rise do so in order of their places
pub in_places : (xs : List ℕ) → AreRising xs → (i j : ℕ) → i ≤ j → j < length xs → get_or xs i 0 ≤ get_or xs j 0
in_places [] r i j l m = absurd (omega (arith, m))
in_places (x ∷ xs) r zero zero l m = omega arith
in_places (x ∷ xs) r zero (suc j) l m = let h = higher xs j r.0 (omega (arith, m)) in omega (arith, h)
  where
    higher : (ys : List ℕ) (j : ℕ) → Each (λ k. x < k) ys → j < length ys → x < get_or ys j 0
    higher [] j e m = absurd (omega (arith, m))
    higher (y ∷ ys) zero e m = e.0
    higher (y ∷ ys) (suc j) e m = higher ys j e.1 (omega (arith, m))
in_places (x ∷ xs) r (suc i) zero l m = absurd (omega (arith, l))
in_places (x ∷ xs) r (suc i) (suc j) l m = in_places xs r.1 i j (omega (arith, l)) (omega (arith, m))

-- rising numbers below a bound are no more than it
few_between : (low bound : ℕ) (xs : List ℕ) → AreRising xs → Each (λ k. low ≤ k) xs → Each (λ k. k < bound) xs → length xs + low ≤ bound ⊎ (length xs ≡ 0)
few_between low bound [] r a b = inr refl
few_between low bound (x ∷ xs) r a b = ⊎_elim
    (λ l. inl (omega (arith, l, a.0)))
    (λ e. inl (omega (arith, e, a.0, b.0)))
    (few_between (suc x) bound xs r.1 (next xs r.0) b.1)
  where
    next : (ys : List ℕ) → Each (λ k. x < k) ys → Each (λ k. suc x ≤ k) ys
    next [] e = tt
    next (y ∷ ys) e = (omega (arith, e.0), next ys e.1)

all_from_zero : (xs : List ℕ) → Each (λ k. 0 ≤ k) xs
all_from_zero [] = tt
all_from_zero (x ∷ xs) = (omega arith, all_from_zero xs)

pub few : (bound : ℕ) (xs : List ℕ) → AreRising xs → Each (λ k. k < bound) xs → length xs ≤ bound
few bound xs r b = ⊎_elim (λ l. omega (arith, l)) (λ e. omega (arith, e)) (few_between 0 bound xs r (all_from_zero xs) b)

-- there is room for a number that is not there
pub room_for : (xs : List ℕ) (i y bound room : ℕ) → AreKept xs bound room → y < bound → i ≤ length xs → ((k : ℕ) → k < i → get_or xs k 0 < y) → ((k : ℕ) → i ≤ k → k < length xs → y < get_or xs k 0) → length xs < room
room_for xs i y bound room kept below l low high =
    let n = few bound (insert xs i y) (still_rising xs i y kept.rising l low high) (each_put (λ k. k < bound) xs i y kept.under below) in
    let long = length_put xs i y l in
    omega (arith, n, long, kept.fits)
  where
    length_put : (xs : List ℕ) (i y : ℕ) → i ≤ length xs → length (insert xs i y) ≡ suc (length xs)
    length_put [] zero y l = refl
    length_put [] (suc i) y l = absurd (omega (arith, l))
    length_put (x ∷ xs) zero y l = refl
    length_put (x ∷ xs) (suc i) y l = ap suc (length_put xs i y (omega (arith, l)))

pub kept_with : (xs : List ℕ) (i y bound room : ℕ) → AreKept xs bound room → y < bound → i ≤ length xs → ((k : ℕ) → k < i → get_or xs k 0 < y) → ((k : ℕ) → i ≤ k → k < length xs → y < get_or xs k 0) → AreKept (insert xs i y) bound room
kept_with xs i y bound room kept below l low high = record {
  rising = still_rising xs i y kept.rising l low high;
  under = each_put (λ k. k < bound) xs i y kept.under below;
  fits = kept.fits;
}

-- Rising numbers with the same ones among them.

none_below : (x : ℕ) (xs : List ℕ) → Each (λ k. x < k) xs → among xs x ≡ false
none_below x [] e = refl
none_below x (y ∷ xs) e =
    let other : y ≡ x → ⊥ = λ q. omega (arith, q, e.0) in
    ap (λ (b : Bool). b || among xs x) (ne_eqb y x other) ∙ none_below x xs e.1

least : (x y : ℕ) (xs : List ℕ) → Each (λ k. y < k) xs → among (y ∷ xs) x ≡ true → y ≤ x
least x y xs e h = ⊎_elim
    (λ q. omega (arith, q))
    (λ ne. ⊎_elim (λ l. absurd (true≢false (sym h ∙ ap (λ (b : Bool). b || among xs x) (ne_eqb y x (λ q. ne (sym q))) ∙ none_below x xs (lower_each x y xs l e)))) (λ l. l) (cases_lt x y))
    (cases_eq x y)

-- rising numbers are one list where the same are among them
pub same_rising : (xs ys : List ℕ) → AreRising xs → AreRising ys → ((q : ℕ) → among xs q ≡ among ys q) → xs ≡ ys
same_rising [] [] r t h = refl
same_rising [] (y ∷ ys) r t h = absurd (true≢false (sym (h y ∙ among_at (y ∷ ys) 0 y (omega arith) refl)))
same_rising (x ∷ xs) [] r t h = absurd (true≢false (sym (among_at (x ∷ xs) 0 x (omega arith) refl) ∙ h x))
same_rising (x ∷ xs) (y ∷ ys) r t h =
    let low = least y x xs r.0 (h y ∙ among_at (y ∷ ys) 0 y (omega arith) refl) in
    let high = least x y ys t.0 (sym (h x) ∙ among_at (x ∷ xs) 0 x (omega arith) refl) in
    let same : x ≡ y = omega (arith, low, high) in
    let rest = same_rising xs ys r.1 t.1 (tails same) in
    λ i. same i ∷ rest i
  where
    tails : x ≡ y → (q : ℕ) → among xs q ≡ among ys q
    tails e q = ⊎_elim
        (λ k. none_below q xs (subst (λ z. Each (λ m. z < m) xs) k r.0) ∙ sym (none_below q ys (subst (λ z. Each (λ m. z < m) ys) (sym e ∙ k) t.0)))
        (λ ne. sym (ap (λ (b : Bool). b || among xs q) (ne_eqb x q ne)) ∙ h q ∙ ap (λ (b : Bool). b || among ys q) (ne_eqb y q (λ k. ne (e ∙ k))))
        (cases_eq x q)

-- Where a number stands, or is to stand.

place_for : (xs : List ℕ) (y i : ℕ) → AreRising xs → IsBinarySearchResult (λ z. nat_cmp z y) xs (Err i) → IsPlaceFor xs i y
place_for xs y i r h =
    let f = searched xs y (Err i) h (in_places xs r) in
    record { within = f.0; low = f.1; high = f.2 }

-- what a search tells
pub searched_place : (xs : List ℕ) (y : ℕ) (r : Result ℕ ℕ) → AreRising xs → IsBinarySearchResult (λ z. nat_cmp z y) xs r → IfErr r (λ i. IsPlaceFor xs i y)
searched_place xs y (Ok i) r h = tt
searched_place xs y (Err i) r h = place_for xs y i r h

-- behind the last of them, where that is below the number
pub past_last : (xs : List ℕ) (y last : ℕ) → AreRising xs → slice_get xs (length xs - 1) ≡ Some last → last < y → IsPlaceFor xs (length xs) y
past_last xs y last r at l = record {
  within = omega arith;
  low = λ k m.
      let some : length xs - 1 < length xs = omega (arith, m) in
      let below : k ≤ length xs - 1 = omega (arith, m) in
      let p = in_places xs r k (length xs - 1) below some in
      let is : get_or xs (length xs - 1) 0 ≡ last = get_or_from_slice_get xs (length xs - 1) last 0 at in
      omega (arith, p, is, l);
  high = λ k m n. absurd (omega (arith, m, n));
}

-- above none of them
pub past_none : (xs : List ℕ) (y : ℕ) → slice_get xs (length xs - 1) ≡ None → IsPlaceFor xs (length xs) y
past_none [] y e = record { within = omega arith; low = λ k m. absurd (omega (arith, m)); high = λ k l m. absurd (omega (arith, m)) }
past_none (x ∷ xs) y e = absurd (let no : ⊥ = (let at = within_get (x ∷ xs) (length (x ∷ xs) - 1) (omega arith) in let two = sym e ∙ at.1 in cc) in no)

-- a number is put behind the last
pub put_behind : (xs : List ℕ) (y : ℕ) → xs ++ y ∷ [] ≡ insert xs (length xs) y
put_behind [] y = refl
put_behind (x ∷ xs) y = ap (λ ns. x ∷ ns) (put_behind xs y)

pub room_at : (xs : List ℕ) (i y bound room : ℕ) → AreKept xs bound room → y < bound → IsPlaceFor xs i y → length xs < room
room_at xs i y bound room kept below p = room_for xs i y bound room kept below p.within p.low p.high

pub kept_at : (xs new : List ℕ) (i y bound room more : ℕ) → AreKept xs bound room → y < bound → IsPlaceFor xs i y → new ≡ insert xs i y → room ≤ more → AreKept new bound more
kept_at xs new i y bound room more kept below p e l =
    let k = kept_with xs i y bound room kept below p.within p.low p.high in
    subst (λ (ns : List ℕ). AreKept ns bound more) (sym e) record { rising = k.rising; under = k.under; fits = omega (arith, k.fits, l) }
