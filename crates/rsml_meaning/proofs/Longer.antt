-- The events that a micro-step leaves end chains that are one event longer.
use Rattle.std.proofs.Common.{◌≡◌, ℕ, suc, true, ◌&&◌, List, [], ◌∷◌, ◌++◌, filter, refl, sym, subst, true≢false, arith, length-append}
use Rattle.std.specs.List.{list_any}
use Rattle.std.specs.Cmp.{first_so, second_so}
use Rattle.rsml_syntax.specs.declared.syntax.Spec.{Spec}
use Rattle.rsml_syntax.specs.declared.world.World.{World}
use Rattle.rsml_meaning.specs.Words.{Each, IsOne, Instance, has}
use Rattle.rsml_meaning.specs.Instances.{events}
use Rattle.rsml_meaning.specs.Truth.{view}
use Rattle.rsml_meaning.specs.Transitions.{TransitionInstance, transitions, is_on, is_enabled}
use Rattle.rsml_meaning.specs.Chains.{Ends, is_chain, linked, leads, is_external, begins_with, ends_with}
use Rattle.rsml_meaning.specs.Steps.{enabled_transitions}
use Rattle.rsml_meaning.proofs.Same.{instance_same, instance_itself}
use Rattle.rsml_meaning.specs.MicroSteps.{Result, IsResult}
use Rattle.rsml_meaning.proofs.Lists.{both, each_filter, each_more, each_ones, each_one, any_one, any_some}
use Rattle.rsml_meaning.proofs.Lines.{present_ends}

linked_more : (s : Spec) (es : List Instance) (f e : Instance) → linked s es ≡ true → ends_with f es ≡ true → leads s f e ≡ true → linked s (es ++ (e ∷ [])) ≡ true
linked_more s [] f e h k l = absurd (true≢false (sym k))
linked_more s (a ∷ []) f e h k l = both (leads s a e) true (subst (λ z. leads s z e ≡ true) (instance_same f a k) l) refl
linked_more s (a ∷ b ∷ es) f e h k l =
    both (leads s a b) (linked s (b ∷ es ++ (e ∷ []))) (first_so (leads s a b) (linked s (b ∷ es)) h) (linked_more s (b ∷ es) f e (second_so (leads s a b) (linked s (b ∷ es)) h) k l)

chain_more : (s : Spec) (es : List Instance) (f e : Instance) → is_chain s es ≡ true → ends_with f es ≡ true → leads s f e ≡ true → is_chain s (es ++ (e ∷ [])) ≡ true
chain_more s [] f e h k l = absurd (true≢false (sym h))
chain_more s (a ∷ es) f e h k l =
    both (is_external s a) (linked s (a ∷ es ++ (e ∷ []))) (first_so (is_external s a) (linked s (a ∷ es)) h) (linked_more s (a ∷ es) f e (second_so (is_external s a) (linked s (a ∷ es)) h) k l)

begins_more : (x e : Instance) (es : List Instance) → begins_with x es ≡ true → begins_with x (es ++ (e ∷ [])) ≡ true
begins_more x e [] h = absurd (true≢false (sym h))
begins_more x e (a ∷ es) h = h

ends_more : (e : Instance) (es : List Instance) → ends_with e (es ++ (e ∷ [])) ≡ true
ends_more e [] = instance_itself e
ends_more e (a ∷ []) = instance_itself e
ends_more e (a ∷ b ∷ es) = ends_more e (b ∷ es)

longer : (s : Spec) (x : Instance) (n : ℕ) (f e : Instance) → Ends s x n f → leads s f e ≡ true → Ends s x (suc n) e
longer s x n f e h l =
    let chain = first_so (is_chain s h.0) (begins_with x h.0) h.1 in
    let begin = second_so (is_chain s h.0) (begins_with x h.0) h.1 in (
      h.0 ++ (e ∷ []),
      both (is_chain s (h.0 ++ (e ∷ []))) (begins_with x (h.0 ++ (e ∷ []))) (chain_more s h.0 f e chain h.3 l) (begins_more x e h.0 begin),
      omega (arith, h.2, length-append h.0 (e ∷ [])),
      ends_more e h.0,
    )

-- What is known of a taken transition: its event ends a chain.
abbrev On : Spec → Instance → ℕ → TransitionInstance → Type 0
On s x n t = IsOne t (transitions s) × Ends s x n t.event

taken_on : (s : Spec) (w : World) (x : Instance) (n : ℕ) (present : List Instance) → Each (Ends s x n) present → Each (On s x n) (enabled_transitions s (view s w) present)
taken_on s w x n present h = each_more (λ t. IsOne t (transitions s) × ((has present t.event && is_enabled (view s w) t) ≡ true)) (On s x n)
    (λ t p. (p.0, present_ends s x n present h t.event (first_so (has present t.event) (is_enabled (view s w) t) p.1)))
    (enabled_transitions s (view s w) present)
    (each_filter (λ t. IsOne t (transitions s)) (λ t. has present t.event && is_enabled (view s w) t) (transitions s) (each_ones (λ t. IsOne t (transitions s)) (transitions s) (λ t m. m)))

pub next_longer : (s : Spec) (w : World) (x : Instance) (n : ℕ) (present : List Instance) (r : Result) → IsResult s w present r → Each (Ends s x n) present → Each (Ends s x (suc n)) r.raised
next_longer s w x n present r m h =
    let on = subst (Each (On s x n)) (sym m.all_taken) (taken_on s w x n present h) in
    subst (Each (Ends s x (suc n))) (sym m.all_raised)
    (each_more (λ e. IsOne e (events s) × (list_any (λ t. has t.raises e) r.taken ≡ true)) (Ends s x (suc n)) (λ e p. raised on e p.1)
    (filter (λ e. list_any (λ t. has t.raises e) r.taken) (events s))
    (each_filter (λ e. IsOne e (events s)) (λ e. list_any (λ t. has t.raises e) r.taken) (events s) (each_ones (λ e. IsOne e (events s)) (events s) (λ e k. k))))
  where
    raised : Each (On s x n) r.taken → (e : Instance) → list_any (λ t. has t.raises e) r.taken ≡ true → Ends s x (suc n) e
    raised on e k =
        let t = any_some (λ t. has t.raises e) r.taken k in
        let p = each_one (On s x n) r.taken t.0 on t.1 in
        longer s x n t.0.event e p.1
        (any_one (λ u. is_on t.0.event u && has u.raises e) (transitions s) t.0 p.0 (both (is_on t.0.event t.0) (has t.0.raises e) (instance_itself t.0.event) t.2))
