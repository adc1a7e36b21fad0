-- Levels in pairs with phrases.
use Rattle.std.proofs.Common.{◌≡◌, ℕ, zero, suc, ◌+◌, ◌<◌, ◌≤◌, Bool, true, false, List, [], ◌∷◌, ◌++◌, length, Some, refl, sym, ap, ◌∙◌, subst, slice_get, slice_index_or, nat_lt, arith, ltb-true, ltb-false, length-append}
use Rattle.spelled_numbers.specs.declared.slot.Slot.{Slot}
use Rattle.spelled_numbers.specs.declared.slot.Slot.TheVariants.{Part, Free}
use Rattle.world_levels.specs.Spelling.{free_from}
use Rattle.keyed_levels.specs.declared.keyed.Keyed.{Keyed}
use Rattle.keyed_levels.specs.Keyed.{key_at}
use Rattle.keyed_levels.specs.Stored.{IsPaired}

-- Free levels rise.

-- each number of a list is at least k
at_least : (slots : List Slot) (k i : ℕ) → i < length (free_from slots k) → k ≤ slice_index_or (free_from slots k) i 0
at_least [] k i less = absurd (omega (arith, less))
at_least (Free ∷ ss) k zero less = omega arith
at_least (Free ∷ ss) k (suc i) less = let h = at_least ss (suc k) i (omega (arith, less)) in omega (arith, h)
at_least (Part p w ∷ ss) k i less = let h = at_least ss (suc k) i less in omega (arith, h)

pub rising : (slots : List Slot) (k i j : ℕ) → i < j → j < length (free_from slots k) → slice_index_or (free_from slots k) i 0 < slice_index_or (free_from slots k) j 0
rising [] k i j less within = absurd (omega (arith, within))
rising (Free ∷ ss) k zero zero less within = absurd (omega (arith, less))
rising (Free ∷ ss) k zero (suc j) less within = let h = at_least ss (suc k) j (omega (arith, within)) in omega (arith, h)
rising (Free ∷ ss) k (suc i) zero less within = absurd (omega (arith, less))
rising (Free ∷ ss) k (suc i) (suc j) less within = rising ss (suc k) i j (omega (arith, less)) (omega (arith, within))
rising (Part p w ∷ ss) k i j less within = rising ss (suc k) i j less within

-- and stand where the slots are free
free_there : (slots : List Slot) (k i : ℕ) → i < length (free_from slots k) → (n : ℕ) × (slice_index_or (free_from slots k) i 0 ≡ k + n) × (slice_get slots n ≡ Some Free)
free_there [] k i less = absurd (omega (arith, less))
free_there (Free ∷ ss) k zero less = (0, omega arith, refl)
free_there (Free ∷ ss) k (suc i) less =
    let h = free_there ss (suc k) i (omega (arith, less)) in
    let e : slice_index_or (free_from ss (suc k)) i 0 ≡ suc k + h.0 = h.1 in
    (suc h.0, omega (arith, e), h.2)
free_there (Part p w ∷ ss) k i less =
    let h = free_there ss (suc k) i less in
    let e : slice_index_or (free_from ss (suc k)) i 0 ≡ suc k + h.0 = h.1 in
    (suc h.0, omega (arith, e), h.2)

pub free_slot : (slots : List Slot) (i : ℕ) → i < length (free_from slots 0) → slice_get slots (slice_index_or (free_from slots 0) i 0) ≡ Some Free
free_slot slots i less =
    let h = free_there slots 0 i less in
    let e : slice_index_or (free_from slots 0) i 0 ≡ h.0 = h.1 ∙ zero_plus h.0 in
    ap (λ n. slice_get slots n) e ∙ h.2
  where
    zero_plus : (n : ℕ) → 0 + n ≡ n
    zero_plus n = omega arith

pub few_free : (slots : List Slot) (k : ℕ) → length (free_from slots k) ≤ length slots
few_free [] k = omega arith
few_free (Free ∷ ss) k = let h = few_free ss (suc k) in omega (arith, h)
few_free (Part p w ∷ ss) k = let h = few_free ss (suc k) in omega (arith, h)

-- Pairs.

pub index_before : (xs ys : List Keyed) (i : ℕ) → i < length xs → key_at (xs ++ ys) i ≡ key_at xs i
index_before [] ys i less = absurd (omega (arith, less))
index_before (x ∷ xs) ys zero less = refl
index_before (x ∷ xs) ys (suc i) less = index_before xs ys i (omega (arith, less))

pub index_last : (xs : List Keyed) (k : Keyed) → key_at (xs ++ (k ∷ [])) (length xs) ≡ k
index_last [] k = refl
index_last (x ∷ xs) k = index_last xs k

-- one more pair
pub paired_more : (levels phrases : List ℕ) (n : ℕ) (keyed new : List Keyed) (k : Keyed) → n < length levels → n < length phrases → length keyed ≡ n
    → k.level ≡ slice_index_or levels n 0 → k.phrase ≡ slice_index_or phrases n 0 → new ≡ keyed ++ (k ∷ []) → IsPaired levels phrases keyed → IsPaired levels phrases new
paired_more levels phrases n keyed new k hl hp many level phrase push before = subst (IsPaired levels phrases) (sym push) (record {
  few = omega (arith, long, hl, many);
  few_phrases = omega (arith, long, hp, many);
  level = λ i less. at (λ (x : Keyed). x.level) levels i less before.level level;
  phrase = λ i less. at (λ (x : Keyed). x.phrase) phrases i less before.phrase phrase;
})
  where
    long : length (keyed ++ (k ∷ [])) ≡ length keyed + 1
    long = length-append keyed (k ∷ [])

    at : (f : Keyed → ℕ) (xs : List ℕ) (i : ℕ) → i < length (keyed ++ (k ∷ [])) → ((j : ℕ) → j < length keyed → f (key_at keyed j) ≡ slice_index_or xs j 0) → f k ≡ slice_index_or xs n 0
        → f (key_at (keyed ++ (k ∷ [])) i) ≡ slice_index_or xs i 0
    at f xs i less old last = by (nat_lt i (length keyed)) refl
      where
        by : (b : Bool) → nat_lt i (length keyed) ≡ b → f (key_at (keyed ++ (k ∷ [])) i) ≡ slice_index_or xs i 0
        by true e = let l = ltb-true i (length keyed) e in ap f (index_before keyed (k ∷ []) i l) ∙ old i l
        by false e =
            let here : i ≡ length keyed = omega (arith, ltb-false i (length keyed) e, less, long) in
            let n_is : n ≡ i = omega (arith, here, many) in
            ap (λ j. f (key_at (keyed ++ (k ∷ [])) j)) here ∙ ap f (index_last keyed k) ∙ last ∙ ap (λ j. slice_index_or xs j 0) n_is
