-- No chain of a certified specification has more events than there are.
use Rattle.std.proofs.Common.{◌≡◌, ℕ, ◌<◌, ◌≤◌, ◌==◌, Bool, true, false, cond, ◌&&◌, List, [], ◌∷◌, length, filter, Some, slice_get, refl, sym, ap, ◌∙◌, subst, true≢false, arith}
use Rattle.std.specs.Cmp.{first_so, second_so}
use Rattle.std.proofs.lemmas.Bool.{eqb-true}
use Rattle.std.proofs.lemmas.Option.{same_Some}
use Rattle.rsml_syntax.specs.declared.syntax.Spec.{Spec}
use Rattle.rsml_meaning.specs.Words.{Each, Instance, same_instance, has}
use Rattle.rsml_meaning.specs.Instances.{events}
use Rattle.rsml_meaning.specs.Interfaces.{ReceiveInstance, receives}
use Rattle.rsml_meaning.specs.Transitions.{TransitionInstance, transitions, is_on}
use Rattle.rsml_meaning.specs.Chains.{is_external, leads, linked, is_chain, begins_with, Ends}
use Rattle.rsml_meaning.specs.Certified.{Certified}
use Rattle.rsml_meaning.proofs.Same.{instance_same, instance_itself}
use Rattle.rsml_meaning.specs.Scoped.{WellScoped, IsEvent}
use Rattle.rsml_meaning.proofs.Lists.{each_one, any_some}
use Rattle.state_tree.proofs.Lists.{get_within, place_of_one, as_long}
use Rattle.event_graph.proofs.Pigeons.{among, firsts, length_firsts, among_firsts, within, both, too_many}
use Rattle.micro_step.specs.Places.{ArePlaces}

-- The events of a chain.

module _ (s : Spec) (scoped : WellScoped s) where
  external_is : (e : Instance) → is_external s e ≡ true → IsEvent s e
  external_is e h =
      let r = any_some (λ (r : ReceiveInstance). same_instance r.raised e) (receives s) h in
      subst (IsEvent s) (instance_same r.0.raised e r.2) (each_one (λ (r : ReceiveInstance). IsEvent s r.raised) (receives s) r.0 scoped.receives r.1)

  led_is : (e f : Instance) → leads s e f ≡ true → IsEvent s f
  led_is e f h =
      let t = any_some (λ t. is_on e t && has t.raises f) (transitions s) h in
      let x = any_some (same_instance f) t.0.raises (second_so (is_on e t.0) (has t.0.raises f) t.2) in
      let are = each_one (λ (t : TransitionInstance). Each (IsEvent s) t.raises) (transitions s) t.0 scoped.raises t.1 in
      subst (IsEvent s) (sym (instance_same f x.0 x.2)) (each_one (IsEvent s) t.0.raises x.0 are x.1)

  linked_are : (e : Instance) (es : List Instance) → IsEvent s e → linked s (e ∷ es) ≡ true → Each (IsEvent s) (e ∷ es)
  linked_are e [] m h = (m, tt)
  linked_are e (f ∷ es) m h = (m, linked_are f es (led_is e f (first_so (leads s e f) (linked s (f ∷ es)) h)) (second_so (leads s e f) (linked s (f ∷ es)) h))

  chain_are : (es : List Instance) → is_chain s es ≡ true → Each (IsEvent s) es
  chain_are [] h = tt
  chain_are (e ∷ es) h = linked_are e es (external_is e (first_so (is_external s e) (linked s (e ∷ es)) h)) (second_so (is_external s e) (linked s (e ∷ es)) h)

-- Their numbers.

numbers_of : (s : Spec) (es : List Instance) → Each (IsEvent s) es → (ks : List ℕ) × ArePlaces (events s) es ks
numbers_of s [] h = ([], tt)
numbers_of s (e ∷ es) h =
    let k = place_of_one (events s) e h.0 in
    let r = numbers_of s es h.1 in
    (k.0 ∷ r.0, (k.1, r.1))

are_within : (s : Spec) (es : List Instance) (ks : List ℕ) → ArePlaces (events s) es ks → within ks (firsts (length (events s))) ≡ true
are_within s [] [] h = refl
are_within s [] (k ∷ ks) h = absurd h
are_within s (e ∷ es) [] h = absurd h
are_within s (e ∷ es) (k ∷ ks) h =
    let n = length (events s) in
    both (among (firsts n) k) (within ks (firsts n)) (among_firsts n k (get_within (events s) k e h.0)) (are_within s es ks h.1)

-- a number that is in the list is that of an event
stands : (s : Spec) (b : ℕ) (es : List Instance) (ks : List ℕ) → ArePlaces (events s) es ks → 1 ≤ length (filter (λ z. b == z) ks) → (e : Instance) × (slice_get (events s) b ≡ Some e)
stands s b [] [] h l = absurd (omega (arith, l))
stands s b [] (k ∷ ks) h l = absurd h
stands s b (e ∷ es) [] h l = absurd h
stands s b (e ∷ es) (k ∷ ks) h l = by (b == k) refl l (stands s b es ks h.1)
  where
    by : (p : Bool) → (b == k) ≡ p → 1 ≤ length (cond p (k ∷ filter (λ z. b == z) ks) (filter (λ z. b == z) ks)) → (1 ≤ length (filter (λ z. b == z) ks) → (f : Instance) × (slice_get (events s) b ≡ Some f)) → (f : Instance) × (slice_get (events s) b ≡ Some f)
    by true q m rest = (e, ap (slice_get (events s)) (eqb-true b k q) ∙ h.0)
    by false q m rest = rest m

-- the event stands there as often as its number at least
as_often : (s : Spec) (b : ℕ) (e : Instance) → slice_get (events s) b ≡ Some e → (es : List Instance) (ks : List ℕ) → ArePlaces (events s) es ks
    → length (filter (λ z. b == z) ks) ≤ length (filter (same_instance e) es)
as_often s b e at [] [] h = omega arith
as_often s b e at [] (k ∷ ks) h = absurd h
as_often s b e at (f ∷ es) [] h = absurd h
as_often s b e at (f ∷ es) (k ∷ ks) h = by (b == k) (same_instance e f) refl refl (as_often s b e at es ks h.1)
  where
    same : (b == k) ≡ true → same_instance e f ≡ true
    same q =
        let is : e ≡ f = same_Some e f (sym at ∙ ap (slice_get (events s)) (eqb-true b k q) ∙ h.0) in
        subst (λ z. same_instance e z ≡ true) is (instance_itself e)

    by : (p q : Bool) → (b == k) ≡ p → same_instance e f ≡ q → length (filter (λ z. b == z) ks) ≤ length (filter (same_instance e) es)
        → length (cond p (k ∷ filter (λ z. b == z) ks) (filter (λ z. b == z) ks)) ≤ length (cond q (f ∷ filter (same_instance e) es) (filter (same_instance e) es))
    by true true u v l = omega (arith, l)
    by true false u v l = absurd (true≢false (sym (same u) ∙ v))
    by false true u v l = omega (arith, l)
    by false false u v l = l

-- The bound.

no_longer : (s : Spec) → WellScoped s → Certified s → (es : List Instance) → is_chain s es ≡ true → length (events s) < length es → ⊥
no_longer s scoped cert es h more =
    let ks = numbers_of s es (chain_are s scoped es h) in
    let long : length es ≡ length ks.0 = as_long (λ (e : Instance) (k : ℕ). slice_get (events s) k ≡ Some e) es ks.0 ks.1 in
    let count = length_firsts (length (events s)) in
    let twice = too_many (firsts (length (events s))) ks.0 (are_within s es ks.0 ks.1) (omega (arith, long, count, more)) in
    let two = twice.twice in
    let e = stands s twice.event es ks.0 ks.1 (omega (arith, two)) in
    let often = as_often s twice.event e.0 e.1 es ks.0 ks.1 in
    cert.no_loop e.0 (es, h, omega (arith, two, often))

-- no event ends a longer chain
pub none_ends : (s : Spec) → WellScoped s → Certified s → (x : Instance) (n : ℕ) (present : List Instance) → length (events s) < n → Each (Ends s x n) present → present ≡ []
none_ends s scoped cert x n [] l e = refl
none_ends s scoped cert x n (y ∷ present) l e =
    let long = e.0.2 in
    absurd (no_longer s scoped cert e.0.0 (first_so (is_chain s e.0.0) (begins_with x e.0.0) e.0.1) (omega (arith, long, l)))

-- an external event ends a chain of one event
pub ends_one : (s : Spec) (x : Instance) → is_external s x ≡ true → Ends s x 1 x
ends_one s x h = (x ∷ [], both (is_chain s (x ∷ [])) (same_instance x x) (both (is_external s x) true h refl) (instance_itself x), refl, instance_itself x)
