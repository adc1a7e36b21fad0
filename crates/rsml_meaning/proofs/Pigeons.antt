-- A list of more events than there are different ones has one twice.
use Rattle.std.proofs.Common.{◌≡◌, ℕ, suc, ◌≤◌, Bool, true, false, ◌&&◌, ◌||◌, not, cond, List, [], ◌∷◌, length, filter, refl, sym, ap, ◌∙◌, true≢false, arith}
use Rattle.std.specs.List.{list_all}
use Rattle.std.specs.Cmp.{first_so, second_so}
use Rattle.rsml_meaning.specs.Words.{Instance, same_instance, has}
use Rattle.rsml_meaning.specs.Chains.{IsTwiceIn}
use Rattle.rsml_meaning.proofs.Same.{instance_same, instance_itself}

-- More events than there are different ones.

-- whether each event is among others
abbrev pub within : List Instance → List Instance → Bool
within es us = list_all (has us) es

without : Instance → List Instance → List Instance
without f us = filter (λ u. not (same_instance f u)) us

filter_short : (p : Instance → Bool) (us : List Instance) → length (filter p us) ≤ length us
filter_short p [] = omega arith
filter_short p (u ∷ us) = by_test (p u) (filter_short p us)
  where
    by_test : (b : Bool) → length (filter p us) ≤ length us → length (cond b (u ∷ filter p us) (filter p us)) ≤ suc (length us)
    by_test true h = omega (arith, h)
    by_test false h = omega (arith, h)

-- an event that is among others is taken away from them
without_short : (f : Instance) (us : List Instance) → has us f ≡ true → suc (length (without f us)) ≤ length us
unfolding without
without_short f [] h = absurd (true≢false (sym h))
without_short f (u ∷ us) h = by_test (same_instance f u) h (without_short f us)
  where
    by_test : (b : Bool) → (b || has us f) ≡ true → (has us f ≡ true → suc (length (without f us)) ≤ length us)
        → suc (length (cond (not b) (u ∷ without f us) (without f us))) ≤ suc (length us)
    by_test true r rest = let short = filter_short (λ v. not (same_instance f v)) us in omega (arith, short)
    by_test false r rest = let short = rest r in omega (arith, short)

-- another event stays
still_among : (f g : Instance) (us : List Instance) → same_instance f g ≡ false → has us g ≡ true → has (without f us) g ≡ true
unfolding without
still_among f g [] d h = absurd (true≢false (sym h))
still_among f g (u ∷ us) d h = by_tests (same_instance f u) (same_instance g u) refl refl h (still_among f g us d)
  where
    by_tests : (a b : Bool) → same_instance f u ≡ a → same_instance g u ≡ b → (b || has us g) ≡ true → (has us g ≡ true → has (without f us) g ≡ true)
        → has (cond (not a) (u ∷ without f us) (without f us)) g ≡ true
    by_tests true true p q r rest = absurd (true≢false (sym p ∙ ap (same_instance f) (sym (instance_same g u q)) ∙ d))
    by_tests true false p q r rest = rest r
    by_tests false true p q r rest = ap (λ b. b || has (without f us) g) q
    by_tests false false p q r rest = ap (λ b. b || has (without f us) g) q ∙ rest r

pub both : (a b : Bool) → a ≡ true → b ≡ true → (a && b) ≡ true
both a b p q = ap (λ c. c && b) p ∙ q

-- no event of the list is f
all_still : (f : Instance) (es us : List Instance) → has es f ≡ false → within es us ≡ true → within es (without f us) ≡ true
all_still f [] us d h = refl
all_still f (e ∷ es) us d h =
    both (has (without f us) e) (within es (without f us))
    (still_among f e us (or_first (same_instance f e) (has es f) d) (first_so (has us e) (within es us) h))
    (all_still f es us (or_second (same_instance f e) (has es f) d) (second_so (has us e) (within es us) h))
  where
    or_first : (a b : Bool) → (a || b) ≡ false → a ≡ false
    or_first true b k = absurd (true≢false k)
    or_first false b k = refl

    or_second : (a b : Bool) → (a || b) ≡ false → b ≡ false
    or_second true b k = absurd (true≢false k)
    or_second false b k = k

-- an event that is in the list is counted
counted : (e : Instance) (es : List Instance) → has es e ≡ true → 1 ≤ length (filter (same_instance e) es)
counted e [] h = absurd (true≢false (sym h))
counted e (x ∷ es) h = by_test (same_instance e x) h (counted e es)
  where
    by_test : (b : Bool) → (b || has es e) ≡ true → (has es e ≡ true → 1 ≤ length (filter (same_instance e) es)) → 1 ≤ length (cond b (x ∷ filter (same_instance e) es) (filter (same_instance e) es))
    by_test true r rest = omega arith
    by_test false r rest = rest r

pub once_more : (e x : Instance) (es : List Instance) (n : ℕ) → n ≤ length (filter (same_instance e) es) → n ≤ length (filter (same_instance e) (x ∷ es))
once_more e x es n h = by_test (same_instance e x)
  where
    by_test : (b : Bool) → n ≤ length (cond b (x ∷ filter (same_instance e) es) (filter (same_instance e) es))
    by_test true = omega (arith, h)
    by_test false = h

-- Some event of the list stands twice in it.
pub record HasTwice (es : List Instance) : Type 0 where
  pub event : Instance
  pub twice : IsTwiceIn es event

first_twice : (f : Instance) (es : List Instance) → has es f ≡ true → IsTwiceIn (f ∷ es) f
first_twice f es h = by_test (same_instance f f) (instance_itself f) (counted f es h)
  where
    by_test : (b : Bool) → b ≡ true → 1 ≤ length (filter (same_instance f) es) → 2 ≤ length (cond b (f ∷ filter (same_instance f) es) (filter (same_instance f) es))
    by_test true q k = omega (arith, k)
    by_test false q k = absurd (true≢false (sym q))

pub too_many : (us es : List Instance) → within es us ≡ true → suc (length us) ≤ length es → HasTwice es
too_many us [] h k = absurd (omega arith)
too_many us (f ∷ es) h k = by_test (has es f) refl (λ d. too_many (without f us) es (all_still f es us d (second_so (has us f) (within es us) h))
    (let short = without_short f us (first_so (has us f) (within es us) h) in omega (arith, short, k)))
  where
    by_test : (b : Bool) → has es f ≡ b → (has es f ≡ false → HasTwice es) → HasTwice (f ∷ es)
    by_test true q rest = record { event = f; twice = first_twice f es q }
    by_test false q rest = let r = rest q in record { event = r.event; twice = once_more r.event f es 2 r.twice }
