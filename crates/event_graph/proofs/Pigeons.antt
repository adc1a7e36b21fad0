-- A list of more events than there are different ones has one twice.
use Rattle.std.proofs.Common.{◌≡◌, ℕ, zero, suc, ◌<◌, ◌≤◌, ◌==◌, Bool, true, false, ◌&&◌, ◌||◌, not, cond, List, [], ◌∷◌, length, filter, refl, sym, ap, ◌∙◌, true≢false, arith, ⊎_elim}
use Rattle.std.specs.List.{list_all, list_any}
use Rattle.std.specs.Cmp.{first_so, second_so, nat_eq_equiv}
use Rattle.std.proofs.lemmas.Bool.{eqb-true, cases_eq}
use Rattle.event_graph.specs.Chains.{IsTwiceIn}

-- whether an event is in a list
abbrev pub among : List ℕ → ℕ → Bool
among es e = list_any (λ f. e == f) es

-- the events below a count
abbrev pub firsts : ℕ → List ℕ
firsts zero = []
firsts (suc n) = n ∷ firsts n

pub length_firsts : (n : ℕ) → length (firsts n) ≡ n
length_firsts zero = refl
length_firsts (suc n) = ap suc (length_firsts n)

pub among_firsts : (n e : ℕ) → e < n → among (firsts n) e ≡ true
among_firsts zero e h = absurd (omega (arith, h))
among_firsts (suc n) e h = ⊎_elim (λ q. ap (λ b. b || among (firsts n) e) (ap (λ z. e == z) (sym q) ∙ nat_eq_equiv.refl e)) (λ ne. or_so (e == n) (among (firsts n) e) (among_firsts n e (less ne))) (cases_eq e n)
  where
    less : (e ≡ n → ⊥) → e < n
    less ne = omega (arith, h, ne)

    or_so : (a b : Bool) → b ≡ true → (a || b) ≡ true
    or_so true b k = refl
    or_so false b k = k

-- More events than there are different ones.

-- whether each event is among others
abbrev pub within : List ℕ → List ℕ → Bool
within es us = list_all (among us) es

without : ℕ → List ℕ → List ℕ
without f us = filter (λ u. not (f == u)) us

filter_short : (p : ℕ → Bool) (us : List ℕ) → length (filter p us) ≤ length us
filter_short p [] = omega arith
filter_short p (u ∷ us) = by_test (p u) (filter_short p us)
  where
    by_test : (b : Bool) → length (filter p us) ≤ length us → length (cond b (u ∷ filter p us) (filter p us)) ≤ suc (length us)
    by_test true h = omega (arith, h)
    by_test false h = omega (arith, h)

-- an event that is among others is taken away from them
without_short : (f : ℕ) (us : List ℕ) → among us f ≡ true → suc (length (without f us)) ≤ length us
unfolding without
without_short f [] h = absurd (true≢false (sym h))
without_short f (u ∷ us) h = by_test (f == u) h (without_short f us)
  where
    by_test : (b : Bool) → (b || among us f) ≡ true → (among us f ≡ true → suc (length (without f us)) ≤ length us)
        → suc (length (cond (not b) (u ∷ without f us) (without f us))) ≤ suc (length us)
    by_test true r rest = let short = filter_short (λ v. not (f == v)) us in omega (arith, short)
    by_test false r rest = let short = rest r in omega (arith, short)

-- another event stays
still_among : (f g : ℕ) (us : List ℕ) → f == g ≡ false → among us g ≡ true → among (without f us) g ≡ true
unfolding without
still_among f g [] d h = absurd (true≢false (sym h))
still_among f g (u ∷ us) d h = by_tests (f == u) (g == u) refl refl h (still_among f g us d)
  where
    by_tests : (a b : Bool) → f == u ≡ a → g == u ≡ b → (b || among us g) ≡ true → (among us g ≡ true → among (without f us) g ≡ true)
        → among (cond (not a) (u ∷ without f us) (without f us)) g ≡ true
    by_tests true true p q r rest = absurd (true≢false (sym p ∙ ap (λ z. f == z) (sym (eqb-true g u q)) ∙ d))
    by_tests true false p q r rest = rest r
    by_tests false true p q r rest = ap (λ b. b || among (without f us) g) q
    by_tests false false p q r rest = ap (λ b. b || among (without f us) g) q ∙ rest r

pub both : (a b : Bool) → a ≡ true → b ≡ true → (a && b) ≡ true
both a b p q = ap (λ c. c && b) p ∙ q

-- no event of the list is f
all_still : (f : ℕ) (es us : List ℕ) → among es f ≡ false → within es us ≡ true → within es (without f us) ≡ true
all_still f [] us d h = refl
all_still f (e ∷ es) us d h =
    both (among (without f us) e) (within es (without f us))
    (still_among f e us (or_first (f == e) (among es f) d) (first_so (among us e) (within es us) h))
    (all_still f es us (or_second (f == e) (among es f) d) (second_so (among us e) (within es us) h))
  where
    or_first : (a b : Bool) → (a || b) ≡ false → a ≡ false
    or_first true b k = absurd (true≢false k)
    or_first false b k = refl

    or_second : (a b : Bool) → (a || b) ≡ false → b ≡ false
    or_second true b k = absurd (true≢false k)
    or_second false b k = k

-- an event that is in the list is counted
counted : (e : ℕ) (es : List ℕ) → among es e ≡ true → 1 ≤ length (filter (λ z. e == z) es)
counted e [] h = absurd (true≢false (sym h))
counted e (x ∷ es) h = by_test (e == x) h (counted e es)
  where
    by_test : (b : Bool) → (b || among es e) ≡ true → (among es e ≡ true → 1 ≤ length (filter (λ z. e == z) es)) → 1 ≤ length (cond b (x ∷ filter (λ z. e == z) es) (filter (λ z. e == z) es))
    by_test true r rest = omega arith
    by_test false r rest = rest r

pub once_more : (e x : ℕ) (es : List ℕ) (n : ℕ) → n ≤ length (filter (λ z. e == z) es) → n ≤ length (filter (λ z. e == z) (x ∷ es))
once_more e x es n h = by_test (e == x)
  where
    by_test : (b : Bool) → n ≤ length (cond b (x ∷ filter (λ z. e == z) es) (filter (λ z. e == z) es))
    by_test true = omega (arith, h)
    by_test false = h

-- Some event of the list stands twice in it.
pub record HasTwice (es : List ℕ) : Type 0 where
  pub event : ℕ
  pub twice : IsTwiceIn es event

first_twice : (f : ℕ) (es : List ℕ) → among es f ≡ true → IsTwiceIn (f ∷ es) f
first_twice f es h = by_test (f == f) (nat_eq_equiv.refl f) (counted f es h)
  where
    by_test : (b : Bool) → b ≡ true → 1 ≤ length (filter (λ z. f == z) es) → 2 ≤ length (cond b (f ∷ filter (λ z. f == z) es) (filter (λ z. f == z) es))
    by_test true q k = omega (arith, k)
    by_test false q k = absurd (true≢false (sym q))

pub too_many : (us es : List ℕ) → within es us ≡ true → suc (length us) ≤ length es → HasTwice es
too_many us [] h k = absurd (omega arith)
too_many us (f ∷ es) h k = by_test (among es f) refl (λ d. too_many (without f us) es (all_still f es us d (second_so (among us f) (within es us) h))
    (let short = without_short f us (first_so (among us f) (within es us) h) in omega (arith, short, k)))
  where
    by_test : (b : Bool) → among es f ≡ b → (among es f ≡ false → HasTwice es) → HasTwice (f ∷ es)
    by_test true q rest = record { event = f; twice = first_twice f es q }
    by_test false q rest = let r = rest q in record { event = r.event; twice = once_more r.event f es 2 r.twice }
