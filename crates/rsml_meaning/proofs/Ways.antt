-- An external event has a length, or some chain from it has an event twice.
use Rattle.std.proofs.Common.{◌≡◌, ℕ, zero, suc, ◌<◌, ◌≤◌, Bool, true, false, ◌&&◌, ◌||◌, List, [], ◌∷◌, ◌++◌, length, flat_map, Option, Some, None, if◌then◌else◌, refl, sym, ap, ◌∙◌, subst, true≢false, arith, inl, inr, ◌⊎◌}
use Rattle.std.specs.List.{list_any}
use Rattle.std.specs.Cmp.{first_so, second_so}
use Rattle.std.proofs.lemmas.Bool.{cases_lt}
use Rattle.rsml_syntax.specs.declared.syntax.Spec.{Spec}
use Rattle.rsml_meaning.specs.Words.{Instance, same_instance, has, first_some}
use Rattle.rsml_meaning.specs.Transitions.{TransitionInstance, transitions, is_on}
use Rattle.rsml_meaning.specs.Chains.{leads, linked, is_chain, is_external, IsChainFrom, IsLength, Endless}
use Rattle.rsml_meaning.specs.Laws.{LengthOrEndless}
use Rattle.rsml_meaning.proofs.Same.{instance_same, instance_itself}
use Rattle.rsml_meaning.proofs.Pigeons.{within, too_many, once_more, both}
use Rattle.rsml_meaning.proofs.Lengths.{raised_on, is_raised, in_front, in_back}

-- Ways of so many events.

-- n further events, each raised on the one before, where there are such
way : ℕ → Spec → Instance → Option (List Instance)
way zero s e = Some []
way (suc n) s e = first_some (λ f. elim (way n s f) [ Some es ↦ Some (f ∷ es) | None ↦ None ]) (raised_on (transitions s) e)

abbrev then_way : Instance → Option (List Instance) → Option (List Instance)
then_way f rest = elim rest [ Some es ↦ Some (f ∷ es) | None ↦ None ]

either : (a b : Bool) → (a || b) ≡ true → (a ≡ true) ⊎ (b ≡ true)
either true b h = inl refl
either false b h = inr h

in_either : (xs ys : List Instance) (f : Instance) → has (xs ++ ys) f ≡ true → (has xs f ≡ true) ⊎ (has ys f ≡ true)
in_either [] ys f h = inr h
in_either (x ∷ xs) ys f h = by_test (same_instance f x) h (in_either xs ys f)
  where
    by_test : (b : Bool) → (b || has (xs ++ ys) f) ≡ true → (has (xs ++ ys) f ≡ true → (has xs f ≡ true) ⊎ (has ys f ≡ true)) → ((b || has xs f) ≡ true) ⊎ (has ys f ≡ true)
    by_test true r rest = inl refl
    by_test false r rest = rest r

or_second : (a b : Bool) → b ≡ true → (a || b) ≡ true
or_second true b h = refl
or_second false b h = h

raised_leads : (ts : List TransitionInstance) (e f : Instance) → has (raised_on ts e) f ≡ true → list_any (λ t. is_on e t && has t.raises f) ts ≡ true
raised_leads [] e f h = absurd (true≢false (sym h))
raised_leads (t ∷ ts) e f h = by_test (is_on e t) h (raised_leads ts e f)
  where
    by_test : (b : Bool) → has ((if b then t.raises else []) ++ raised_on ts e) f ≡ true
        → (has (raised_on ts e) f ≡ true → list_any (λ u. is_on e u && has u.raises f) ts ≡ true)
        → ((b && has t.raises f) || list_any (λ u. is_on e u && has u.raises f) ts) ≡ true
    by_test true r rest = elim (in_either t.raises (raised_on ts e) f r) [
      | inl here ↦ ap (λ b. b || list_any (λ u. is_on e u && has u.raises f) ts) here
      | inr later ↦ or_second (has t.raises f) (list_any (λ u. is_on e u && has u.raises f) ts) (rest later)
    ]
    by_test false r rest = rest r

-- Of the items of a list, one has what was found first.
pub record Found (g : Instance → Option (List Instance)) (xs : List Instance) (ys : List Instance) : Type 0 where
  event : Instance
  among : has xs event ≡ true
  gives : g event ≡ Some ys

abbrev first_or : Option (List Instance) → Option (List Instance) → Option (List Instance)
first_or o rest = elim o [ Some y ↦ Some y | None ↦ rest ]

found_first : (g : Instance → Option (List Instance)) (xs ys : List Instance) → first_some g xs ≡ Some ys → Found g xs ys
found_first g [] ys h = cc
found_first g (x ∷ xs) ys h = by_first (g x) refl h (found_first g xs ys)
  where
    by_first : (o : Option (List Instance)) → g x ≡ o → first_or o (first_some g xs) ≡ Some ys → (first_some g xs ≡ Some ys → Found g xs ys) → Found g (x ∷ xs) ys
    by_first (Some zs) e r rest = record { event = x; among = ap (λ b. b || has xs x) (instance_itself x); gives = e ∙ r }
    by_first None e r rest = let p = rest r in record { event = p.event; among = or_second (same_instance p.event x) (has xs p.event) p.among; gives = p.gives }

found_none : (g : Instance → Option (List Instance)) (xs : List Instance) (f : Instance) → first_some g xs ≡ None → has xs f ≡ true → g f ≡ None
found_none g [] f h k = absurd (true≢false (sym k))
found_none g (x ∷ xs) f h k = by_first (g x) refl h (same_instance f x) refl k (found_none g xs f)
  where
    by_first : (o : Option (List Instance)) → g x ≡ o → first_or o (first_some g xs) ≡ None → (b : Bool) → same_instance f x ≡ b → (b || has xs f) ≡ true
        → (first_some g xs ≡ None → has xs f ≡ true → g f ≡ None) → g f ≡ None
    by_first (Some zs) e r b q l rest = cc
    by_first None e r true q l rest = ap g (instance_same f x q) ∙ e
    by_first None e r false q l rest = rest r l

-- What a way is.
pub record IsWay (s : Spec) (e : Instance) (es : List Instance) (n : ℕ) : Type 0 where
  linked_so : linked s (e ∷ es) ≡ true
  long : length es ≡ n

way_is : (n : ℕ) (s : Spec) (e : Instance) (es : List Instance) → way n s e ≡ Some es → IsWay s e es n
unfolding way
way_is zero s e [] h = record { linked_so = refl; long = refl }
way_is zero s e (f ∷ es) h = cc
way_is (suc n) s e es h =
    let p = found_first (λ f. then_way f (way n s f)) (raised_on (transitions s) e) es h in
    by_rest p.event p.among (way n s p.event) refl p.gives (way_is n s p.event)
  where
    by_rest : (f : Instance) → has (raised_on (transitions s) e) f ≡ true → (o : Option (List Instance)) → way n s f ≡ o → then_way f o ≡ Some es
        → ((fs : List Instance) → way n s f ≡ Some fs → IsWay s f fs n) → IsWay s e es (suc n)
    by_rest f among (Some fs) q r rest =
        let tail = rest fs q in
        subst (λ xs. IsWay s e xs (suc n)) (let same : f ∷ fs ≡ es = cc in same)
        (record { linked_so = both (leads s e f) (linked s (f ∷ fs)) (raised_leads (transitions s) e f among) tail.linked_so; long = let l = tail.long in omega (arith, l) })
    by_rest f among None q r rest = cc

no_way : (n : ℕ) (s : Spec) (e : Instance) (es : List Instance) → way n s e ≡ None → linked s (e ∷ es) ≡ true → n ≤ length es → ⊥
unfolding way
no_way zero s e es h k l = cc
no_way (suc n) s e [] h k l = omega (arith, l)
no_way (suc n) s e (f ∷ es) h k l =
    let here = is_raised (transitions s) e f (first_so (leads s e f) (linked s (f ∷ es)) k) in
    let gone = found_none (λ g. then_way g (way n s g)) (raised_on (transitions s) e) f h here in
    by_rest (way n s f) refl gone (λ q. no_way n s f es q (second_so (leads s e f) (linked s (f ∷ es)) k) (omega (arith, l)))
  where
    by_rest : (o : Option (List Instance)) → way n s f ≡ o → then_way f o ≡ None → (way n s f ≡ None → ⊥) → ⊥
    by_rest (Some fs) q r rest = cc
    by_rest None q r rest = rest q

-- The greatest number for which there is a way.
pub record Longest (s : Spec) (e : Instance) : Type 0 where
  count : ℕ
  events : List Instance
  is : way count s e ≡ Some events
  most : way (suc count) s e ≡ None

no_zero : (s : Spec) (e : Instance) → way zero s e ≡ None → ⊥
unfolding way
no_zero s e h = cc

longest : (n : ℕ) (s : Spec) (e : Instance) → way n s e ≡ None → Longest s e
longest zero s e h = absurd (no_zero s e h)
longest (suc n) s e h = by_way (way n s e) refl (longest n s e)
  where
    by_way : (o : Option (List Instance)) → way n s e ≡ o → (way n s e ≡ None → Longest s e) → Longest s e
    by_way (Some es) q rest = record { count = n; events = es; is = q; most = h }
    by_way None q rest = rest q

-- The law.

abbrev all_raised : Spec → List Instance
all_raised s = flat_map (λ t. t.raises) (transitions s)

raised_among : (ts : List TransitionInstance) (e f : Instance) → list_any (λ t. is_on e t && has t.raises f) ts ≡ true → has (flat_map (λ t. t.raises) ts) f ≡ true
raised_among [] e f h = absurd (true≢false (sym h))
raised_among (t ∷ ts) e f h = elim (either (is_on e t && has t.raises f) (list_any (λ u. is_on e u && has u.raises f) ts) h) [
  | inl here ↦ in_front t.raises (flat_map (λ u. u.raises) ts) f (second_so (is_on e t) (has t.raises f) here)
  | inr later ↦ in_back t.raises (flat_map (λ u. u.raises) ts) f (raised_among ts e f later)
]

linked_within : (s : Spec) (e : Instance) (es : List Instance) → linked s (e ∷ es) ≡ true → within es (all_raised s) ≡ true
linked_within s e [] h = refl
linked_within s e (f ∷ es) h =
    both (has (all_raised s) f) (within es (all_raised s)) (raised_among (transitions s) e f (first_so (leads s e f) (linked s (f ∷ es)) h))
    (linked_within s f es (second_so (leads s e f) (linked s (f ∷ es)) h))

chain_is : (s : Spec) (x : Instance) (es : List Instance) → is_external s x ≡ true → linked s (x ∷ es) ≡ true → IsChainFrom s x (x ∷ es)
chain_is s x es h k = both (is_chain s (x ∷ es)) (same_instance x x) (both (is_external s x) (linked s (x ∷ es)) h k) (instance_itself x)

too_long : (s : Spec) (x : Instance) (es : List Instance) → is_external s x ≡ true → way (suc (length (all_raised s))) s x ≡ Some es → Endless s x
too_long s x es h k =
    let w = way_is (suc (length (all_raised s))) s x es k in
    let twice = too_many (all_raised s) es (linked_within s x es w.linked_so) (let l = w.long in omega (arith, l)) in
    (x ∷ es, twice.event, chain_is s x es h w.linked_so, once_more twice.event x es 2 twice.twice)

at_most : (n : ℕ) (s : Spec) (x : Instance) (es : List Instance) → way (suc n) s x ≡ None → IsChainFrom s x es → length es ≤ suc n
at_most n s x [] h k = omega arith
at_most n s x (y ∷ es) h k = by_order (cases_lt n (length es))
  where
    by_order : (n < length es) ⊎ (length es ≤ n) → length (y ∷ es) ≤ suc n
    by_order (inl more) =
        let chain = first_so (is_chain s (y ∷ es)) (same_instance x y) k in
        let is_x = instance_same x y (second_so (is_chain s (y ∷ es)) (same_instance x y) k) in
        absurd (no_way (suc n) s x es h (subst (λ z. linked s (z ∷ es) ≡ true) (sym is_x) (second_so (is_external s y) (linked s (y ∷ es)) chain)) (omega (arith, more)))
    by_order (inr less) = omega (arith, less)

pub length_or_endless : LengthOrEndless
length_or_endless s x h = by_way (way (suc (length (all_raised s))) s x) refl
  where
    by_way : (o : Option (List Instance)) → way (suc (length (all_raised s))) s x ≡ o → ((n : ℕ) × IsLength s x n) ⊎ Endless s x
    by_way (Some es) q = inr (too_long s x es h q)
    by_way None q =
        let l = longest (suc (length (all_raised s))) s x q in
        let w = way_is l.count s x l.events l.is in
        inl (
          suc l.count,
          record {
            reached = (x ∷ l.events, chain_is s x l.events h w.linked_so, ap suc w.long);
            most = λ es k. at_most l.count s x es l.most k;
          },
        )
