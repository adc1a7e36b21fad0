-- A step of a certified specification comes to one thing, and ends in time.
use Rattle.std.proofs.Common.{◌≡◌, ◌≢◌, ℕ, zero, suc, ◌+◌, ◌≤◌, true, List, [], ◌∷◌, length, arith, ⊎_elim, refl, sym, ap, ◌∙◌, subst}
use Rattle.std.specs.Cmp.{first_so, second_so}
use Rattle.rsml_syntax.specs.declared.syntax.Spec.{Spec}
use Rattle.rsml_syntax.specs.declared.world.World.{World}
use Rattle.rsml_meaning.specs.Words.{Each, Instance, same_instance}
use Rattle.rsml_meaning.specs.Worlds.{IsWorld}
use Rattle.rsml_meaning.specs.Chains.{is_external, is_chain, linked, begins_with, IsLength, Ends}
use Rattle.rsml_meaning.specs.Certified.{Certified}
use Rattle.rsml_meaning.specs.Steps.{Micro, Sent, Round, IsRound, IsStep}
use Rattle.rsml_meaning.specs.Transitions.{TransitionInstance}
use Rattle.rsml_meaning.proofs.Same.{instance_same, instance_itself}
use Rattle.rsml_meaning.proofs.Ways.{length_or_endless}
use Rattle.rsml_meaning.specs.Scoped.{WellScoped}
use Rattle.rsml_meaning.specs.MicroSteps.{Result, IsResult}
use Rattle.rsml_meaning.specs.Whole.{StepResult, IsStepResult}
use Rattle.rsml_meaning.specs.RunLaws.{EventsHaveLengths, StepsAreShort, StepsAreOne}
use Rattle.rsml_meaning.proofs.Lists.{both}
use Rattle.rsml_meaning.proofs.WorldSteps.{micro_steps_leave_worlds}
use Rattle.rsml_meaning.proofs.MicroSteps.{rounds_are_determinate}
use Rattle.rsml_meaning.proofs.Longer.{next_longer}

not_empty : (e : Instance) (es : List Instance) → e ∷ es ≡ [] → ⊥
not_empty e es h = cc

abbrev result : List TransitionInstance → List Sent → World → List Instance → Result
result taken sent world raised = record { taken = taken; sent = sent; world = world; raised = raised }

-- Lengths.

pub events_have_lengths : EventsHaveLengths
events_have_lengths s x c h = ⊎_elim (λ l. l) (λ endless. absurd (c.no_loop endless.1 (endless.0, first_so (is_chain s endless.0) (begins_with x endless.0) endless.2, endless.3))) (length_or_endless s x h)

-- an event that has a length is external
is_first : (s : Spec) (x : Instance) (es : List Instance) → is_chain s es ≡ true → begins_with x es ≡ true → is_external s x ≡ true
is_first s x [] h k = cc
is_first s x (e ∷ es) h k = subst (λ z. is_external s z ≡ true) (sym (instance_same x e k)) (first_so (is_external s e) (linked s (e ∷ es)) h)

pub alone : (s : Spec) (x : Instance) → is_external s x ≡ true → Ends s x 1 x
alone s x h = (x ∷ [], both (is_chain s (x ∷ [])) (same_instance x x) (both (is_external s x) true h refl) (instance_itself x), refl, instance_itself x)

rounds_end : (s : Spec) (x : Instance) (l : ℕ) → IsLength s x l → (n : ℕ) (rs : List Round) (w v : World) (present : List Instance) → present ≢ [] → Each (Ends s x n) present → IsStep s w present rs v → n + length rs ≤ l + 1
rounds_end s x l h n [] w v present ne e a = elim a [ ]
rounds_end s x l h n (r ∷ []) w v [] ne e a = absurd (ne refl)
rounds_end s x l h n (r ∷ []) w v (y ∷ present) ne e a = let m = h.most e.0.0 e.0.1 in omega (arith, m, e.0.2)
rounds_end s x l h n (r ∷ q ∷ rs) w v present ne e a =
    let rest = rounds_end s x l h (suc n) (q ∷ rs) a.0 v a.1 a.3 (next_longer s w x n present (result r.taken r.sent a.0 a.1) a.2.micro e) a.4 in
    omega (arith, rest)

pub steps_are_short : StepsAreShort
steps_are_short s w x n r h a =
    let chain = h.reached in
    let external = is_first s x chain.0 (first_so (is_chain s chain.0) (begins_with x chain.0) chain.1) (second_so (is_chain s chain.0) (begins_with x chain.0) chain.1) in
    let l = rounds_end s x n h 1 r.rounds w r.world (x ∷ []) (not_empty x []) (alone s x external, tt) a in
    omega (arith, l)

-- Steps.

module _ (s : Spec) (scoped : WellScoped s) (c : Certified s) (x : Instance) where
  same_micro : (n : ℕ) (w : World) (present : List Instance) (r q : Result) → IsWorld s w → Each (Ends s x n) present → IsResult s w present r → IsResult s w present q → r ≡ q
  same_micro n w present r q i h a b =
      let one = (rounds_are_determinate s w x n present scoped c i h).result in
      one.2 r a ∙ sym (one.2 q b)

  -- rounds that begin in one world with the same present events, and come to the same
  same_round : (w : World) (present : List Instance) (r q : Round) (v₁ v₂ : World) (raised₁ raised₂ : List Instance) → IsRound s w present r v₁ raised₁ → IsRound s w present q v₂ raised₂
      → result r.taken r.sent v₁ raised₁ ≡ result q.taken q.sent v₂ raised₂ → r ≡ q
  same_round w present r q v₁ v₂ raised₁ raised₂ a b m = λ t. record {
    world = (a.world ∙ sym b.world) t;
    present = (a.events ∙ sym b.events) t;
    taken = ap (λ z. z.taken) m t;
    sent = ap (λ z. z.sent) m t;
  }

  pub one_step : (n : ℕ) (rs qs : List Round) (w : World) (present : List Instance) (v₁ v₂ : World) → IsWorld s w → Each (Ends s x n) present → IsStep s w present rs v₁ → IsStep s w present qs v₂ → (rs ≡ qs) × (v₁ ≡ v₂)
  one_step n [] qs w present v₁ v₂ i h a b = elim a [ ]
  one_step n (r ∷ []) [] w present v₁ v₂ i h a b = elim b [ ]
  one_step n (r ∷ r₂ ∷ rs) [] w present v₁ v₂ i h a b = elim b [ ]
  one_step n (r ∷ []) (q ∷ []) w present v₁ v₂ i h a b =
      let m = same_micro n w present (result r.taken r.sent v₁ []) (result q.taken q.sent v₂ []) i h a.micro b.micro in
      (λ t. same_round w present r q v₁ v₂ [] [] a b m t ∷ [], ap (λ z. z.world) m)
  one_step n (r ∷ []) (q ∷ q₂ ∷ qs) w present v₁ v₂ i h a b =
      let m = same_micro n w present (result r.taken r.sent v₁ []) (result q.taken q.sent b.0 b.1) i h a.micro b.2.micro in
      absurd (b.3 (sym (ap (λ z. z.raised) m)))
  one_step n (r ∷ r₂ ∷ rs) (q ∷ []) w present v₁ v₂ i h a b =
      let m = same_micro n w present (result r.taken r.sent a.0 a.1) (result q.taken q.sent v₂ []) i h a.2.micro b.micro in
      absurd (a.3 (ap (λ z. z.raised) m))
  one_step n (r ∷ r₂ ∷ rs) (q ∷ q₂ ∷ qs) w present v₁ v₂ i h a b =
      let m = same_micro n w present (result r.taken r.sent a.0 a.1) (result q.taken q.sent b.0 b.1) i h a.2.micro b.2.micro in
      let later : IsStep s a.0 a.1 (q₂ ∷ qs) v₂ =
      subst (λ z. IsStep s z a.1 (q₂ ∷ qs) v₂) (sym (ap (λ z. z.world) m)) (subst (λ z. IsStep s b.0 z (q₂ ∷ qs) v₂) (sym (ap (λ z. z.raised) m)) b.4) in
      let rest = one_step (suc n) (r₂ ∷ rs) (q₂ ∷ qs) a.0 a.1 v₁ v₂
      (micro_steps_leave_worlds s w present (result r.taken r.sent a.0 a.1) scoped i a.2.micro)
      (next_longer s w x n present (result r.taken r.sent a.0 a.1) a.2.micro h) a.4 later in
      (λ t. same_round w present r q a.0 b.0 a.1 b.1 a.2 b.2 m t ∷ rest.0 t, rest.1)

  abbrev round : World → List Instance → Result → Round
  round w present m = record { world = w; present = present; taken = m.taken; sent = m.sent }

  -- a micro-step that raises events, and a step on them
  then_step : (w : World) (present : List Instance) (m : Result) → IsResult s w present m → m.raised ≢ [] → (r : StepResult) → IsStepResult s m.world m.raised r → (q : StepResult) × IsStepResult s w present q
  then_step w present m a ne r b = by_rounds r.rounds b
    where
      by_rounds : (rs : List Round) → IsStep s m.world m.raised rs r.world → (q : StepResult) × IsStepResult s w present q
      by_rounds [] b = elim b [ ]
      by_rounds (q ∷ rs) b = (record { rounds = round w present m ∷ q ∷ rs; world = r.world }, (m.world, m.raised, record { world = refl; events = refl; micro = a }, ne, b))

  -- a step is there where at most k rounds are left
  there_is : (l : ℕ) → IsLength s x l → (k n : ℕ) (w : World) (present : List Instance) → present ≢ [] → l + 1 ≤ n + k → IsWorld s w → Each (Ends s x n) present → (r : StepResult) × IsStepResult s w present r
  there_is l h zero n w [] ne le i e = absurd (ne refl)
  there_is l h zero n w (y ∷ present) ne le i e = absurd (let m = h.most e.0.0 e.0.1 in omega (arith, m, e.0.2, le))
  there_is l h (suc k) n w present ne le i e =
      let one = (rounds_are_determinate s w x n present scoped c i e).result in
      let m = one.0 in
      by_raised m one.1 m.raised refl (λ more. there_is l h k (suc n) m.world m.raised more (omega (arith, le)) (micro_steps_leave_worlds s w present m scoped i one.1) (next_longer s w x n present m one.1 e))
    where
      by_raised : (m : Result) → IsResult s w present m → (raised : List Instance) → m.raised ≡ raised → (m.raised ≢ [] → (r : StepResult) × IsStepResult s m.world m.raised r) → (r : StepResult) × IsStepResult s w present r
      by_raised m a [] q rest = (record { rounds = round w present m ∷ []; world = m.world }, record { world = refl; events = refl; micro = subst (Micro s w present m.taken m.sent m.world) q a })
      by_raised m a (f ∷ fs) q rest =
          let ne : m.raised ≢ [] = λ z. not_empty f fs (sym q ∙ z) in
          let r = rest ne in
          then_step w present m a ne r.0 r.1

pub steps_are_one : StepsAreOne
steps_are_one s w x scoped c i h =
    let l = events_have_lengths s x c h in
    let r = there_is s scoped c x l.0 l.1 l.0 1 w (x ∷ []) (not_empty x []) (omega arith) i (alone s x h, tt) in
    (r.0, r.1, λ q a. let p = one_step s scoped c x 1 q.rounds r.0.rounds w (x ∷ []) q.world r.0.world i (alone s x h, tt) a r.1 in λ t. record { rounds = p.0 t; world = p.1 t })

-- a step leaves a world
pub step_leaves_world : (s : Spec) → WellScoped s → (w : World) (present : List Instance) (rs : List Round) (v : World) → IsWorld s w → IsStep s w present rs v → IsWorld s v
step_leaves_world s scoped w present [] v i a = elim a [ ]
step_leaves_world s scoped w present (r ∷ []) v i a = micro_steps_leave_worlds s w present (result r.taken r.sent v []) scoped i a.micro
step_leaves_world s scoped w present (r ∷ q ∷ rs) v i a =
    step_leaves_world s scoped a.0 a.1 (q ∷ rs) v (micro_steps_leave_worlds s w present (result r.taken r.sent a.0 a.1) scoped i a.2.micro) a.4
