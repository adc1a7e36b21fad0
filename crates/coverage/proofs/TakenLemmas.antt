-- What reacts in a round is what it takes.
use Rattle.std.proofs.Common.{◌≡◌, ◌↔◌, IsTrue, ◌&&◌, Bool, true, false, cond, List, [], ◌∷◌, map, filter, inl, inr, refl, sym, ap, ◌∙◌, subst}
use Rattle.rsml_meaning.specs.Words.{IsOne, has}
use Rattle.rsml_meaning.specs.Truth.{view}
use Rattle.rsml_meaning.specs.Transitions.{TransitionInstance, transitions, is_enabled}
use Rattle.rsml_meaning.specs.Interfaces.{SendCaseInstance, send_cases, is_sending}
use Rattle.coverage.specs.Coverage.{of_transition, of_case, reacts}
use Rattle.coverage.specs.Laws.{WhatReactsIsTaken}

passes : {A : Type 0} (t : A → Bool) (xs : List A) (x : A) → IsOne x (filter t xs) → t x ≡ true
passes t [] x m = absurd m
passes t (y ∷ xs) x m = by (t y) refl m (passes t xs x)
  where
    by : (b : Bool) → b ≡ t y → IsOne x (cond b (y ∷ filter t xs) (filter t xs)) → (IsOne x (filter t xs) → t x ≡ true) → t x ≡ true
    by true e (inl p) rest = ap t p ∙ sym e
    by true e (inr n) rest = rest n
    by false e n rest = rest n

stays : {A : Type 0} (t : A → Bool) (xs : List A) (x : A) → IsOne x xs → t x ≡ true → IsOne x (filter t xs)
stays t [] x m h = absurd m
stays t (y ∷ xs) x (inl e) h = subst (λ b. IsOne x (cond b (y ∷ filter t xs) (filter t xs))) (sym h ∙ ap t e) (inl e)
stays t (y ∷ xs) x (inr m) h = by (t y) (stays t xs x m h)
  where
    by : (b : Bool) → IsOne x (filter t xs) → IsOne x (cond b (y ∷ filter t xs) (filter t xs))
    by true n = inr n
    by false n = n

-- one of a list is among those that pass exactly where it passes
one_passes : {A : Type 0} (t : A → Bool) (xs ys : List A) (x : A) (b : Bool) → b ≡ t x → ys ≡ filter t xs → IsOne x xs → IsTrue b ↔ IsOne x ys
one_passes t xs ys x b e f m =
    (λ h. subst (IsOne x) (sym f) (stays t xs x m (sym e ∙ h)), λ n. e ∙ passes t xs x (subst (IsOne x) f n))

pub what_reacts_is_taken : WhatReactsIsTaken
what_reacts_is_taken s w w' es raised r is = (taken, sent)
  where
    taken : (t : TransitionInstance) → IsOne t (transitions s) → IsTrue (reacts s (of_transition t) r) ↔ IsOne t r.taken
    taken t m =
        one_passes (λ t. has es t.event && is_enabled (view s w) t) (transitions s) r.taken t (reacts s (of_transition t) r)
        (λ i. has (is.events i) t.event && is_enabled (view s (is.world i)) t) is.micro.all_taken m

    sent : (c : SendCaseInstance) → IsOne c (send_cases s) → IsTrue (reacts s (of_case c) r) ↔ IsOne c (map (λ x. x.send_case) r.sent)
    sent c m =
        one_passes (λ c. has es c.event && is_sending (view s w) c) (send_cases s) (map (λ x. x.send_case) r.sent) c (reacts s (of_case c) r)
        (λ i. has (is.events i) c.event && is_sending (view s (is.world i)) c) is.micro.all_sent m
