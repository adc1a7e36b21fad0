-- No transition of a plant raises an event, so every chain is one event: none loops, and there is no clash.
use Rattle.std.proofs.Common.{◌≡◌, ℕ, ◌≤◌, Bool, true, false, not, cond, List, [], ◌∷◌, length, refl, sym, ap, ◌∙◌, subst, true≢false, arith}
use Rattle.std.specs.Cmp.{first_so, second_so}
use Rattle.rsml_meaning.specs.Words.{Instance, same_instance, has, Each}
use Rattle.rsml_meaning.specs.Transitions.{transitions, is_on}
use Rattle.rsml_meaning.specs.Chains.{is_external, leads, linked, is_chain, begins_with, ends_with, IsTwiceIn, Loops, Ends, Clash}
use Rattle.rsml_meaning.proofs.Same.{instance_same, instance_itself}
use Rattle.rsml_meaning.proofs.Lists.{any_some, each_one}
use Rattle.demonstrating.specs.Plant.{plant}
use Rattle.demonstrating.proofs.Transitions.{each_transition}

none_raised : (n : ℕ) → Each (λ t. t.raises ≡ []) (transitions (plant n))
none_raised n = each_transition n (λ t. t.raises ≡ []) (λ i m. (refl, (refl, (refl, (refl, tt)))))

none_leads : (n : ℕ) (e f : Instance) → leads (plant n) e f ≡ true → ⊥
none_leads n e f h =
    let some = any_some _ (transitions (plant n)) h in
    let t = some.0 in
    let raised = second_so (is_on e t) (has t.raises f) some.2 in
    true≢false (sym raised ∙ ap (λ rs. has rs f) (each_one (λ t. t.raises ≡ []) (transitions (plant n)) t (none_raised n) some.1))

-- a chain is one event
one_event : (n : ℕ) (es : List Instance) → is_chain (plant n) es ≡ true → (x : Instance) × (es ≡ x ∷ [])
one_event n [] h = absurd (true≢false (sym h))
one_event n (x ∷ []) h = (x, refl)
one_event n (x ∷ y ∷ es) h =
    let links = second_so (is_external (plant n) x) (linked (plant n) (x ∷ y ∷ es)) h in
    absurd (none_leads n x y (first_so (leads (plant n) x y) (linked (plant n) (y ∷ es)) links))

not_twice : (e x : Instance) → IsTwiceIn (x ∷ []) e → ⊥
not_twice e x h = by_test (same_instance e x) h
  where
    by_test : (b : Bool) → 2 ≤ length (cond b (x ∷ []) []) → ⊥
    by_test true k = omega (arith, k)
    by_test false k = omega (arith, k)

pub none_loops : (n : ℕ) (e : Instance) → Loops (plant n) e → ⊥
none_loops n e l = let one = one_event n l.0 l.1 in not_twice e one.0 (subst (λ es. IsTwiceIn es e) one.1 l.2)

-- a chain ends with the event that it begins with
ends_there : (n : ℕ) (x : Instance) (k : ℕ) (e : Instance) → Ends (plant n) x k e → e ≡ x
ends_there n x k e ends =
    let chain = first_so (is_chain (plant n) ends.0) (begins_with x ends.0) ends.1 in
    let begins = second_so (is_chain (plant n) ends.0) (begins_with x ends.0) ends.1 in
    let one = one_event n ends.0 chain in
    instance_same e one.0 (subst (λ es. ends_with e es ≡ true) one.1 ends.3)
    ∙ sym (instance_same x one.0 (subst (λ es. begins_with x es ≡ true) one.1 begins))

pub none_clashes : (n : ℕ) (x : Instance) (k : ℕ) (e f : Instance) → Clash (plant n) x k e f → ⊥
none_clashes n x k e f clash =
    let same = ends_there n x k e clash.one ∙ sym (ends_there n x k f clash.two) in
    true≢false (sym clash.differ ∙ ap not (subst (λ z. same_instance e z ≡ true) same (instance_itself e)))
