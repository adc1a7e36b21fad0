-- Lengths of chains, computed where no event comes back.
use Rattle.std.proofs.Common.{◌≡◌, ℕ, zero, suc, ◌≤◌, Bool, true, false, ◌&&◌, ◌||◌, List, [], ◌∷◌, ◌++◌, length, flat_map, refl, sym, ap, ◌∙◌, true≢false, arith, if◌then◌else◌, inl, inr, ◌⊎◌}
use Rattle.std.specs.List.{list_any, list_all}
use Rattle.std.specs.Cmp.{first_so, second_so}
use Rattle.rsml_syntax.specs.declared.syntax.Spec.{Spec}
use Rattle.rsml_meaning.specs.Words.{Instance, same_instance, has}
use Rattle.rsml_meaning.specs.Transitions.{TransitionInstance, transitions, is_on}
use Rattle.rsml_meaning.specs.Chains.{leads, linked, is_chain, begins_with, is_external, IsChainFrom, IsLength}
use Rattle.rsml_meaning.proofs.Same.{instance_same}

-- the events that transitions on an event raise
abbrev pub raised_on : List TransitionInstance → Instance → List Instance
raised_on ts e = flat_map (λ t. if is_on e t then t.raises else []) ts

-- no chain from the event has more than n events
abbrev pub ends_in : ℕ → Spec → Instance → Bool
ends_in zero s e = false
ends_in (suc n) s e = list_all (ends_in n s) (raised_on (transitions s) e)

all_front : (p : Instance → Bool) (xs ys : List Instance) → list_all p (xs ++ ys) ≡ true → list_all p xs ≡ true
all_front p [] ys h = refl
all_front p (x ∷ xs) ys h =
    ap (λ b. b && list_all p xs) (first_so (p x) (list_all p (xs ++ ys)) h) ∙ all_front p xs ys (second_so (p x) (list_all p (xs ++ ys)) h)

all_back : (p : Instance → Bool) (xs ys : List Instance) → list_all p (xs ++ ys) ≡ true → list_all p ys ≡ true
all_back p [] ys h = h
all_back p (x ∷ xs) ys h = all_back p xs ys (second_so (p x) (list_all p (xs ++ ys)) h)

pub passes : (p : Instance → Bool) (xs : List Instance) (f : Instance) → list_all p xs ≡ true → has xs f ≡ true → p f ≡ true
passes p [] f h k = absurd (true≢false (sym k))
passes p (x ∷ xs) f h k = by_test (same_instance f x) refl k (passes p xs f (second_so (p x) (list_all p xs) h))
  where
    by_test : (b : Bool) → same_instance f x ≡ b → (b || has xs f) ≡ true → (has xs f ≡ true → p f ≡ true) → p f ≡ true
    by_test true e r rest = ap p (instance_same f x e) ∙ first_so (p x) (list_all p xs) h
    by_test false e r rest = rest r

either : (a b : Bool) → (a || b) ≡ true → (a ≡ true) ⊎ (b ≡ true)
either true b h = inl refl
either false b h = inr h

pub in_front : (xs ys : List Instance) (f : Instance) → has xs f ≡ true → has (xs ++ ys) f ≡ true
in_front [] ys f h = absurd (true≢false (sym h))
in_front (x ∷ xs) ys f h = by_test (same_instance f x) h (in_front xs ys f)
  where
    by_test : (b : Bool) → (b || has xs f) ≡ true → (has xs f ≡ true → has (xs ++ ys) f ≡ true) → (b || has (xs ++ ys) f) ≡ true
    by_test true r rest = refl
    by_test false r rest = rest r

pub in_back : (xs ys : List Instance) (f : Instance) → has ys f ≡ true → has (xs ++ ys) f ≡ true
in_back [] ys f h = h
in_back (x ∷ xs) ys f h = by_test (same_instance f x) (in_back xs ys f h)
  where
    by_test : (b : Bool) → has (xs ++ ys) f ≡ true → (b || has (xs ++ ys) f) ≡ true
    by_test true r = refl
    by_test false r = r

pub is_raised : (ts : List TransitionInstance) (e f : Instance) → list_any (λ t. is_on e t && has t.raises f) ts ≡ true → has (raised_on ts e) f ≡ true
is_raised [] e f h = absurd (true≢false (sym h))
is_raised (t ∷ ts) e f h = by_test (is_on e t) h (is_raised ts e f)
  where
    by_test : (b : Bool) → ((b && has t.raises f) || list_any (λ u. is_on e u && has u.raises f) ts) ≡ true
        → (list_any (λ u. is_on e u && has u.raises f) ts ≡ true → has (raised_on ts e) f ≡ true)
        → has ((if b then t.raises else []) ++ raised_on ts e) f ≡ true
    by_test true r rest = elim (either (has t.raises f) (list_any (λ u. is_on e u && has u.raises f) ts) r) [
      | inl here ↦ in_front t.raises (raised_on ts e) f here
      | inr later ↦ in_back t.raises (raised_on ts e) f (rest later)
    ]
    by_test false r rest = rest r

linked_short : (n : ℕ) (s : Spec) (e : Instance) (es : List Instance) → ends_in n s e ≡ true → linked s (e ∷ es) ≡ true → length (e ∷ es) ≤ n
linked_short zero s e es h k = absurd (true≢false (sym h))
linked_short (suc n) s e [] h k = omega arith
linked_short (suc n) s e (f ∷ es) h k =
    let leads_on = is_raised (transitions s) e f (first_so (leads s e f) (linked s (f ∷ es)) k) in
    let rest = linked_short n s f es (passes (ends_in n s) (raised_on (transitions s) e) f h leads_on) (second_so (leads s e f) (linked s (f ∷ es)) k) in
    omega (arith, rest)

-- no chain from the event is longer than it takes the events to end
pub chain_short : (n : ℕ) (s : Spec) (x : Instance) (es : List Instance) → ends_in n s x ≡ true → IsChainFrom s x es → length es ≤ n
chain_short n s x [] h k = omega arith
chain_short n s x (e ∷ es) h k =
    let is_x = instance_same x e (second_so (is_chain s (e ∷ es)) (begins_with x (e ∷ es)) k) in
    linked_short n s e es (ap (ends_in n s) (sym is_x) ∙ h) (second_so (is_external s e) (linked s (e ∷ es)) (first_so (is_chain s (e ∷ es)) (begins_with x (e ∷ es)) k))

-- a chain that is as long as it takes the events to end is the longest
pub length_is : (s : Spec) (x : Instance) (es : List Instance) → IsChainFrom s x es → ends_in (length es) s x ≡ true → IsLength s x (length es)
length_is s x es k h = record { reached = (es, k, refl); most = λ fs l. chain_short (length es) s x fs h l }
