-- Events that do not loop though others do: what no chain reaches, and what no transition raises.
use Rattle.std.proofs.Common.{◌≡◌, ◌≤◌, Bool, true, false, cond, ◌&&◌, ◌||◌, not, List, [], ◌∷◌, length, filter, refl, sym, ap, ◌∙◌, subst, true≢false, arith}
use Rattle.std.specs.List.{list_any, list_all}
use Rattle.std.specs.Cmp.{first_so, second_so}
use Rattle.rsml_syntax.specs.declared.syntax.Spec.{Spec}
use Rattle.rsml_meaning.specs.Words.{Instance, same_instance, has}
use Rattle.rsml_meaning.specs.Transitions.{TransitionInstance, transitions, is_on}
use Rattle.rsml_meaning.specs.Interfaces.{receives}
use Rattle.rsml_meaning.specs.Chains.{is_external, leads, linked, is_chain, IsTwiceIn, Loops}
use Rattle.rsml_meaning.proofs.Same.{instance_same}
use Rattle.rsml_meaning.proofs.Lengths.{passes}
use Rattle.rsml_meaning.proofs.Reported.{external_passes}

-- Events that a set of events leads to.

-- the set has the external events, and each event that a transition on an event of it raises
abbrev pub is_closed : Spec → List Instance → Bool
is_closed s set = list_all (λ r. has set r.raised) (receives s) && list_all (λ t. not (has set t.event) || list_all (has set) t.raises) (transitions s)

leads_within : (set : List Instance) (ts : List TransitionInstance) (e f : Instance) → list_all (λ t. not (has set t.event) || list_all (has set) t.raises) ts ≡ true
    → has set e ≡ true → list_any (λ t. is_on e t && has t.raises f) ts ≡ true → has set f ≡ true
leads_within set [] e f h m k = absurd (true≢false (sym k))
leads_within set (t ∷ ts) e f h m k = by_test (is_on e t) (has t.raises f) refl refl k
    (leads_within set ts e f (second_so (not (has set t.event) || list_all (has set) t.raises) (list_all (λ t. not (has set t.event) || list_all (has set) t.raises) ts) h) m)
  where
    raised : is_on e t ≡ true → list_all (has set) t.raises ≡ true
    raised p =
        let here = first_so (not (has set t.event) || list_all (has set) t.raises) (list_all (λ t. not (has set t.event) || list_all (has set) t.raises) ts) h in
        let of = subst (λ z. has set z ≡ true) (sym (instance_same t.event e p)) m in
        ap (λ b. not b || list_all (has set) t.raises) (sym of) ∙ here

    by_test : (a b : Bool) → is_on e t ≡ a → has t.raises f ≡ b → ((a && b) || list_any (λ t. is_on e t && has t.raises f) ts) ≡ true
        → (list_any (λ t. is_on e t && has t.raises f) ts ≡ true → has set f ≡ true) → has set f ≡ true
    by_test true true p q k rest = passes (has set) t.raises f (raised p) q
    by_test true false p q k rest = rest k
    by_test false b p q k rest = rest k

linked_within : (s : Spec) (set : List Instance) (e : Instance) (es : List Instance) → is_closed s set ≡ true → has set e ≡ true → linked s (e ∷ es) ≡ true → list_all (has set) (e ∷ es) ≡ true
linked_within s set e [] c m h = ap (λ b. b && true) m
linked_within s set e (f ∷ es) c m h =
    let closed = second_so (list_all (λ r. has set r.raised) (receives s)) (list_all (λ t. not (has set t.event) || list_all (has set) t.raises) (transitions s)) c in
    ap (λ b. b && list_all (has set) (f ∷ es)) m
    ∙ linked_within s set f es c (leads_within set (transitions s) e f closed m (first_so (leads s e f) (linked s (f ∷ es)) h)) (second_so (leads s e f) (linked s (f ∷ es)) h)

twice_among : (es : List Instance) (e : Instance) → IsTwiceIn es e → has es e ≡ true
twice_among [] e h = absurd (omega (arith, h))
twice_among (x ∷ es) e h = by_test (same_instance e x) h (twice_among es e)
  where
    by_test : (b : Bool) → 2 ≤ length (cond b (x ∷ filter (same_instance e) es) (filter (same_instance e) es)) → (IsTwiceIn es e → has es e ≡ true) → (b || has es e) ≡ true
    by_test true k rest = refl
    by_test false k rest = rest k

-- an event outside such a set is on no chain
pub not_reached : (s : Spec) (set : List Instance) (e : Instance) → is_closed s set ≡ true → has set e ≡ false → Loops s e → ⊥
not_reached s set e c out l = by_list l.0 l.1 l.2
  where
    by_list : (es : List Instance) → is_chain s es ≡ true → IsTwiceIn es e → ⊥
    by_list [] h t = true≢false (sym h)
    by_list (x ∷ es) h t =
        let first = external_passes (has set) (receives s) x
        (first_so (list_all (λ r. has set r.raised) (receives s)) (list_all (λ t. not (has set t.event) || list_all (has set) t.raises) (transitions s)) c)
        (first_so (is_external s x) (linked s (x ∷ es)) h) in
        let within = linked_within s set x es c first (second_so (is_external s x) (linked s (x ∷ es)) h) in
        true≢false (sym (passes (has set) (x ∷ es) e within (twice_among (x ∷ es) e t)) ∙ out)

-- Events that no transition raises.

abbrev pub is_never_raised : Spec → Instance → Bool
is_never_raised s e = list_all (λ t. not (has t.raises e)) (transitions s)

none_leads : (ts : List TransitionInstance) (e f : Instance) → list_all (λ t. not (has t.raises f)) ts ≡ true → list_any (λ t. is_on e t && has t.raises f) ts ≡ true → ⊥
none_leads [] e f h k = true≢false (sym k)
none_leads (t ∷ ts) e f h k = by_test (is_on e t) (has t.raises f) (first_so (not (has t.raises f)) (list_all (λ t. not (has t.raises f)) ts) h) k (none_leads ts e f (second_so (not (has t.raises f)) (list_all (λ t. not (has t.raises f)) ts) h))
  where
    by_test : (a b : Bool) → not b ≡ true → ((a && b) || list_any (λ t. is_on e t && has t.raises f) ts) ≡ true → (list_any (λ t. is_on e t && has t.raises f) ts ≡ true → ⊥) → ⊥
    by_test a true p k rest = true≢false (sym p)
    by_test true false p k rest = rest k
    by_test false false p k rest = rest k

none_later : (s : Spec) (e x : Instance) (es : List Instance) → is_never_raised s e ≡ true → linked s (x ∷ es) ≡ true → has es e ≡ false
none_later s e x [] h l = refl
none_later s e x (f ∷ es) h l = by_test (same_instance e f) refl (none_later s e f es h (second_so (leads s x f) (linked s (f ∷ es)) l))
  where
    by_test : (b : Bool) → same_instance e f ≡ b → has es e ≡ false → (b || has es e) ≡ false
    by_test true q rest = absurd (none_leads (transitions s) x e h (subst (λ z. leads s x z ≡ true) (sym (instance_same e f q)) (first_so (leads s x f) (linked s (f ∷ es)) l)))
    by_test false q rest = rest

none_counted : (es : List Instance) (e : Instance) → has es e ≡ false → length (filter (same_instance e) es) ≡ 0
none_counted [] e h = refl
none_counted (x ∷ es) e h = by_test (same_instance e x) h (none_counted es e)
  where
    by_test : (b : Bool) → (b || has es e) ≡ false → (has es e ≡ false → length (filter (same_instance e) es) ≡ 0) → length (cond b (x ∷ filter (same_instance e) es) (filter (same_instance e) es)) ≡ 0
    by_test true k rest = absurd (true≢false k)
    by_test false k rest = rest k

-- such an event does not loop
pub never_raised : (s : Spec) (e : Instance) → is_never_raised s e ≡ true → Loops s e → ⊥
never_raised s e h l = by_list l.0 l.1 l.2
  where
    once : (b : Bool) (x : Instance) (es : List Instance) → length (filter (same_instance e) es) ≡ 0 → 2 ≤ length (cond b (x ∷ filter (same_instance e) es) (filter (same_instance e) es)) → ⊥
    once true x es k t = omega (arith, k, t)
    once false x es k t = omega (arith, k, t)

    by_list : (es : List Instance) → is_chain s es ≡ true → IsTwiceIn es e → ⊥
    by_list [] c t = true≢false (sym c)
    by_list (x ∷ es) c t = once (same_instance e x) x es (none_counted es e (none_later s e x es h (second_so (is_external s x) (linked s (x ∷ es)) c))) t
