-- Each number up to the total is spelled, and no other.
use Rattle.std.proofs.Common.{◌≡◌, ℕ, zero, suc, ◌+◌, ◌-◌, ◌<◌, ◌≤◌, ltb, eqb, Bool, true, false, if◌then◌else◌, List, [], ◌∷◌, ◌⊎◌, length, get_or, refl, sym, ◌∙◌, ap, subst, arith, inl, inr, Some, slice_get}
use Rattle.std.proofs.lemmas.Bool.{true≢false}
use Rattle.std.proofs.lemmas.Bool.Decides.{leb_tells, eqb_tells}
use Rattle.bdd_core.specs.Calls.{with_value}
use Rattle.bdd_core.proofs.CanonicalLemmas.{with_value-apart}
use Rattle.spelled_numbers.specs.declared.slot.Slot.{Slot}
use Rattle.spelled_numbers.specs.declared.slot.Slot.TheVariants.{Part, Free}
use Rattle.spelled_numbers.specs.Spelling.{weight_for, total, number, Covers, left_after, digits, spelled}

-- the number of a part by a list of values, one a slot
abbrev by_list : ℕ → List Slot → List Bool → ℕ
by_list p [] bs = 0
by_list p (s ∷ ss) [] = 0
by_list p (s ∷ ss) (b ∷ bs) = (if b then weight_for p s else 0) + by_list p ss bs

at_most_it : (b : Bool) (n : ℕ) → (if b then n else 0) ≤ n
at_most_it true n = omega arith
at_most_it false n = omega arith

nothing : (b : Bool) → (if b then zero else zero) ≡ zero
nothing true = refl
nothing false = refl

-- the weight of a slot of part q for part p
abbrev counts : ℕ → ℕ → ℕ → ℕ
counts p q w = if eqb q p then w else 0

-- a slot counts for its own part alone
own : (p q w : ℕ) → ((q ≡ p) × (counts p q w ≡ w)) ⊎ (counts p q w ≡ 0)
own p q w = elim (eqb_tells q p) [
  | inl h ↦ inl (h.1, ap (λ b. if b then w else 0) h.0)
  | inr h ↦ inr (ap (λ b. if b then w else 0) h.0)
]

-- what is left fits the later slots
taken : (p q w : ℕ) (ss : List Slot) (numbers : ℕ → ℕ) → numbers p ≤ counts p q w + total p ss → numbers p - counts p q w ≤ total p ss
taken p q w ss numbers h = omega (arith, h)

passed : (p q w : ℕ) (ss : List Slot) (numbers : ℕ → ℕ) → numbers q ≤ total q ss → numbers p ≤ counts p q w + total p ss → numbers p ≤ total p ss
passed p q w ss numbers few h = elim (own p q w) [
  | inl e ↦ subst (λ r. numbers r ≤ total r ss) e.0 few
  | inr e ↦ omega (arith, h, e)
]

-- a slot is taken only where its part has that much left
enough : (p q w : ℕ) (ss : List Slot) (numbers : ℕ → ℕ) → w ≤ total q ss + 1 → total q ss < numbers q → counts p q w ≤ numbers p
enough p q w ss numbers h more = elim (own p q w) [
  | inl e ↦ let m : w ≤ numbers p = subst (λ r. w ≤ numbers r) e.0 (omega (arith, h, more)) in omega (arith, m, e.1)
  | inr e ↦ omega (arith, e)
]

-- the first slot, where the later ones are spelled right whatever is left
one : (b : Bool) (q w : ℕ) (ss : List Slot) (numbers : ℕ → ℕ) (free : ℕ → Bool) (k : ℕ) → ltb (total q ss) (numbers q) ≡ b → w ≤ total q ss + 1
    → ((p : ℕ) → numbers p ≤ counts p q w + total p ss)
    → ((left : ℕ → ℕ) → ((p : ℕ) → left p ≤ total p ss) → (p : ℕ) → by_list p ss (digits ss left free k) ≡ left p) → (p : ℕ)
    → (if b then counts p q w else 0) + by_list p ss (digits ss (if b then left_after numbers q w else numbers) free k) ≡ numbers p
one true q w ss numbers free k e fits most later p =
    let more : total q ss < numbers q = elim (leb_tells (suc (total q ss)) (numbers q)) [ inl h ↦ omega (arith, h.1) | inr h ↦ absurd (true≢false (sym e ∙ h.0)) ] in
    let rest : by_list p ss (digits ss (left_after numbers q w) free k) ≡ numbers p - counts p q w = later (left_after numbers q w) (λ r. taken r q w ss numbers (most r)) p in
    omega (arith, rest, enough p q w ss numbers fits more)
one false q w ss numbers free k e fits most later p =
    let few : numbers q ≤ total q ss = elim (leb_tells (suc (total q ss)) (numbers q)) [ inl h ↦ absurd (true≢false (sym h.0 ∙ e)) | inr h ↦ omega (arith, h.1) ] in
    let rest : by_list p ss (digits ss numbers free k) ≡ numbers p = later numbers (λ r. passed r q w ss numbers few (most r)) p in
    omega (arith, rest)

covered : (slots : List Slot) (numbers : ℕ → ℕ) (free : ℕ → Bool) (k : ℕ) → Covers slots → ((p : ℕ) → numbers p ≤ total p slots) → (p : ℕ) → by_list p slots (digits slots numbers free k) ≡ numbers p
covered [] numbers free k c most p = omega (arith, most p)
covered (Part q w ∷ ss) numbers free k c most p =
    one (ltb (total q ss) (numbers q)) q w ss numbers free (k + 1) refl c.0 most (λ left m r. covered ss left free (k + 1) c.1 m r) p
covered (Free ∷ ss) numbers free k c most p =
    omega (arith, nothing (free k), covered ss numbers free (k + 1) c (λ r. omega (arith, most r)) p)

-- the values of a list, from a level on
listed : (p : ℕ) (slots : List Slot) (bs : List Bool) (values : ℕ → Bool) (k : ℕ) → length bs ≡ length slots → ((i : ℕ) → values (k + i) ≡ get_or bs i false) → number p slots values k ≡ by_list p slots bs
listed p [] bs values k e same = refl
listed p (s ∷ ss) [] values k e same = absurd (omega (arith, e))
listed p (s ∷ ss) (b ∷ bs) values k e same =
    let head : values k ≡ b = (let z : k ≡ k + 0 = omega arith in ap values z) ∙ same 0 in
    let rest : number p ss values (k + 1) ≡ by_list p ss bs = listed p ss bs values (k + 1) (omega (arith, e)) (λ i. (let z : k + 1 + i ≡ k + suc i = omega arith in ap values z) ∙ same (suc i)) in
    ap (λ c. (if c then weight_for p s else 0) + number p ss values (k + 1)) head ∙ ap (λ n. (if b then weight_for p s else 0) + n) rest

many : (slots : List Slot) (numbers : ℕ → ℕ) (free : ℕ → Bool) (k : ℕ) → length (digits slots numbers free k) ≡ length slots
many [] numbers free k = refl
many (Part q w ∷ ss) numbers free k = ap suc (many ss (if ltb (total q ss) (numbers q) then left_after numbers q w else numbers) free (k + 1))
many (Free ∷ ss) numbers free k = ap suc (many ss numbers free (k + 1))

pub every : (slots : List Slot) → Covers slots → (numbers : ℕ → ℕ) → ((p : ℕ) → numbers p ≤ total p slots) → (free : ℕ → Bool) → (p : ℕ) → number p slots (spelled slots numbers free) 0 ≡ numbers p
every slots c numbers most free p =
    listed p slots (digits slots numbers free 0) (spelled slots numbers free) 0 (many slots numbers free 0) (λ i. (let z : 0 + i ≡ i = omega arith in ap (spelled slots numbers free) z))
    ∙ covered slots numbers free 0 c most p

within_from : (p : ℕ) (slots : List Slot) (values : ℕ → Bool) (k : ℕ) → number p slots values k ≤ total p slots
within_from p [] values k = omega arith
within_from p (s ∷ ss) values k = omega (arith, within_from p ss values (k + 1), at_most_it (values k) (weight_for p s))

pub within : (p : ℕ) (slots : List Slot) (values : ℕ → Bool) → number p slots values 0 ≤ total p slots
within p slots values = within_from p slots values 0

free_from : (slots : List Slot) (numbers : ℕ → ℕ) (free : ℕ → Bool) (k i : ℕ) → slice_get slots i ≡ Some Free → get_or (digits slots numbers free k) i false ≡ free (k + i)
free_from [] numbers free k i e = cc
free_from (Part q w ∷ ss) numbers free k zero e = cc
free_from (Part q w ∷ ss) numbers free k (suc i) e =
    free_from ss (if ltb (total q ss) (numbers q) then left_after numbers q w else numbers) free (k + 1) i e ∙ (let z : k + 1 + i ≡ k + suc i = omega arith in ap free z)
free_from (Free ∷ ss) numbers free k zero e = let z : k ≡ k + 0 = omega arith in ap free z
free_from (Free ∷ ss) numbers free k (suc i) e = free_from ss numbers free (k + 1) i e ∙ (let z : k + 1 + i ≡ k + suc i = omega arith in ap free z)

pub free_stays : (slots : List Slot) (numbers : ℕ → ℕ) (free : ℕ → Bool) (level : ℕ) → slice_get slots level ≡ Some Free → spelled slots numbers free level ≡ free level
free_stays slots numbers free level e = free_from slots numbers free 0 level e ∙ (let z : 0 + level ≡ level = omega arith in ap free z)

-- values that are the same from a level on
same_from : (p : ℕ) (slots : List Slot) (a b : ℕ → Bool) (k : ℕ) → ((i : ℕ) → k ≤ i → a i ≡ b i) → number p slots a k ≡ number p slots b k
same_from p [] a b k same = refl
same_from p (s ∷ ss) a b k same =
    ap (λ c. (if c then weight_for p s else 0) + number p ss a (k + 1)) (same k (omega arith))
    ∙ ap (λ n. (if b k then weight_for p s else 0) + n) (same_from p ss a b (k + 1) (λ i h. same i (omega (arith, h))))

no_weight : (b c : Bool) (w : ℕ) → w ≡ 0 → (if b then w else 0) ≡ (if c then w else 0)
no_weight true true w e = refl
no_weight true false w e = e
no_weight false true w e = sym e
no_weight false false w e = refl

elsewhere_from : (p : ℕ) (slots : List Slot) (values : ℕ → Bool) (k i : ℕ) (value : Bool) → weight_for p (get_or slots i Free) ≡ 0
    → number p slots (with_value values (k + i) value) k ≡ number p slots values k
elsewhere_from p [] values k i value e = refl
elsewhere_from p (s ∷ ss) values k zero value e =
    ap (λ n. n + number p ss (with_value values (k + 0) value) (k + 1)) (no_weight (with_value values (k + 0) value k) (values k) (weight_for p s) e)
    ∙ ap (λ n. (if values k then weight_for p s else 0) + n)
    (same_from p ss (with_value values (k + 0) value) values (k + 1) (λ i h. with_value-apart values (k + 0) i value (λ same. absurd (omega (arith, h, same)))))
elsewhere_from p (s ∷ ss) values k (suc i) value e =
    let z : k + suc i ≡ k + 1 + i = omega arith in
    ap (λ c. (if c then weight_for p s else 0) + number p ss (with_value values (k + suc i) value) (k + 1))
    (with_value-apart values (k + suc i) k value (λ same. absurd (omega (arith, same))))
    ∙ ap (λ n. (if values k then weight_for p s else 0) + n)
    (ap (λ l. number p ss (with_value values l value) (k + 1)) z ∙ elsewhere_from p ss values (k + 1) i value e)

pub elsewhere : (p : ℕ) (slots : List Slot) (values : ℕ → Bool) (level : ℕ) (value : Bool) → weight_for p (get_or slots level Free) ≡ 0
    → number p slots (with_value values level value) 0 ≡ number p slots values 0
elsewhere p slots values level value e =
    (let z : level ≡ 0 + level = omega arith in ap (λ l. number p slots (with_value values l value) 0) z) ∙ elsewhere_from p slots values 0 level value e
