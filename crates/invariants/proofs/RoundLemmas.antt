-- Rounds of a step, and the sets of events in them.
use Rattle.std.proofs.Common.{◌≡◌, ◌↔◌, ℕ, zero, suc, ◌+◌, ◌<◌, ◌≤◌, ◌==◌, ◌||◌, ◌⊎◌, inl, inr, ⊎_elim, Bool, true, false, not, ◌&&◌, List, [], ◌∷◌, ◌++◌, length, Option, Some, None, unwrap_or, slice_get, IsTrue, refl, sym, ap, ◌∙◌, subst, true≢false, arith}
use Rattle.std.specs.Cmp.{first_so, nat_eq_equiv}
use Rattle.std.proofs.lemmas.Bool.{ne_eqb, cases_eq, cases_lt}
use Rattle.std.proofs.lemmas.Option.{same_Some}
use Rattle.rsml_syntax.specs.declared.syntax.Spec.{Spec}
use Rattle.rsml_meaning.specs.Words.{Instance}
use Rattle.rsml_meaning.specs.Instances.{events}
use Rattle.rsml_meaning.specs.Chains.{is_chain, begins_with, Ends, IsLength}
use Rattle.rsml_meaning.specs.Certified.{Certified}
use Rattle.rsml_meaning.specs.Report.{IsLengthAnswer}
use Rattle.state_tree.proofs.Lists.{get_within, within_get}
use Rattle.ground_members.specs.Members.{IsEvent}
use Rattle.event_graph.specs.declared.events.Events.{Events}
use Rattle.event_graph.specs.Sets.{has}
use Rattle.event_chains.specs.Rounds.{Round, IsRound}
use Rattle.elaborate.specs.Machine.{GroundMachine}
use Rattle.micro_step.specs.Micros.{AreEvents}
use Rattle.ground_claims.specs.declared.claim.GroundClaim.{GroundClaim}
use Rattle.invariants.specs.declared.found.Broken.{Broken}
use Rattle.invariants.specs.Asked.{all_hold, turn_false}
use Rattle.invariants.specs.Safe.{IsSafe, AllSafe, AreKnown, FindsFirst, IsFirstBroken, IsIn, IsOfKnown, IsSafeStart, MayBe}
use Rattle.invariants.proofs.MoveLemmas.{no_moves}
use Rattle.invariants.proofs.SubsetLemmas.{finds_as}

-- The events of a round, one after another.

pub record AreFront (ends events : ℕ → Bool) (n : ℕ) : Type 0 where
  pub below : (q : ℕ) → q < n → events q ≡ ends q
  pub above : (q : ℕ) → n ≤ q → events q ≡ false

pub front_put : (ends old new : ℕ → Bool) (n : ℕ) → AreFront ends old n → ends n ≡ true → ((q : ℕ) → new q ≡ (old q || n == q)) → AreFront ends new (n + 1)
front_put ends old new n f here put = record {
  below = λ q l. ⊎_elim (λ e. subst (λ z. new z ≡ ends z) (sym e) (now ∙ sym here)) (λ e. other q e ∙ f.below q (omega (arith, e, l))) (cases_eq q n);
  above = λ q l. other q (λ e. omega (arith, e, l)) ∙ f.above q (omega (arith, l));
}
  where
    or_none : (b : Bool) → (b || false) ≡ b
    or_none true = refl
    or_none false = refl

    or_some : (b : Bool) → (b || true) ≡ true
    or_some true = refl
    or_some false = refl

    now : new n ≡ true
    now = put n ∙ ap (λ (b : Bool). old n || b) (nat_eq_equiv.refl n) ∙ or_some (old n)

    other : (q : ℕ) → (q ≡ n → ⊥) → new q ≡ old q
    other q e = put q ∙ ap (λ (b : Bool). old q || b) (ne_eqb n q (λ d. e (sym d))) ∙ or_none (old q)

pub front_skip : (ends old : ℕ → Bool) (n : ℕ) → AreFront ends old n → ends n ≡ false → AreFront ends old (n + 1)
front_skip ends old n f here = record {
  below = λ q l. ⊎_elim (λ e. subst (λ z. old z ≡ ends z) (sym e) (f.above n (omega arith) ∙ sym here)) (λ e. f.below q (omega (arith, e, l))) (cases_eq q n);
  above = λ q l. f.above q (omega (arith, l));
}

pub front_within : (ends events : ℕ → Bool) (n k : ℕ) → AreFront ends events n → events k ≡ true → k < n
front_within ends events n k f h = ⊎_elim (λ l. l) (λ l. absurd (true≢false (sym h ∙ f.above k l))) (cases_lt k n)

-- Known sets.

known_at : (xs : List Events) (y z : Events) (k : ℕ) → slice_get (xs ++ (y ∷ [])) k ≡ Some z → (slice_get xs k ≡ Some z) ⊎ (y ≡ z)
known_at [] y z zero h = inr (same_Some y z h)
known_at [] y z (suc k) h = absurd (let no : ⊥ = cc in no)
known_at (x ∷ xs) y z zero h = inl h
known_at (x ∷ xs) y z (suc k) h = known_at xs y z k h

pub known_more : (m : GroundMachine) (claims : List GroundClaim) (old new : List Events) (set : Events) → new ≡ old ++ (set ∷ []) → AreKnown m claims old → AllSafe m claims (IsIn (has set))
    → AreKnown m claims new
known_more m claims old new set is known safe k z at =
    ⊎_elim (λ h. known k z h) (λ e. subst (λ f. AllSafe m claims (IsIn (has f))) e safe) (known_at old set z k (ap (λ sets. slice_get sets k) (sym is) ∙ at))

pub known_safe : (m : GroundMachine) (claims : List GroundClaim) (sets : List Events) (set : ℕ → Bool) → AreKnown m claims sets → IsOfKnown sets set → AllSafe m claims (IsIn set)
known_safe m claims sets set known held f within = known held.0 held.1 held.2 f (λ q h. held.3 q (within q h))

-- The sets of a round.

module _ (s : Spec) (x : Instance) (n : ℕ) (r : Round) (set : Events) (count : ℕ) (own : r.spec ≡ s) (round : IsRound r x n) (many : count ≡ length (events s))
    (same : (q : ℕ) → q < count → has set q ≡ has r.ends q) (there : AreEvents s set) where
  within_count : (k : ℕ) (e : Instance) → IsEvent s e k → k < count
  within_count k e at = let l = get_within (events s) k e at in omega (arith, l, many)

  ends_so : (k : ℕ) (e : Instance) → IsEvent s e k → IsTrue (has r.ends k) ↔ Ends s x n e
  ends_so k e at = subst (λ t. IsTrue (has r.ends k) ↔ Ends t x n e) own (round k e (subst (λ t. IsEvent t e k) (sym own) at))

  pub in_may : (f : ℕ → Bool) → IsIn (has set) f → MayBe s x n f
  in_may f within k h =
      let e = within_get (events s) k (there k (within k h)) in
      (e.0, e.1, (ends_so k e.0 e.1).0 (sym (same k (within_count k e.0 e.1)) ∙ within k h))

  pub may_in : (f : ℕ → Bool) → MayBe s x n f → IsIn (has set) f
  may_in f may k h =
      let e = may k h in
      same k (within_count k e.0 e.1) ∙ (ends_so k e.0 e.1).1 e.2

-- what is found of the sets of these events is found of those of the round
pub found_in_round : (m : GroundMachine) (claims : List GroundClaim) (x : Instance) (n : ℕ) (set : Events) (found : Option Broken)
    → ((f : ℕ → Bool) → IsIn (has set) f → MayBe m.base.spec x n f) → ((f : ℕ → Bool) → MayBe m.base.spec x n f → IsIn (has set) f)
    → FindsFirst m claims (IsIn (has set)) found → FindsFirst m claims (MayBe m.base.spec x n) found
found_in_round m claims x n set found in_may may_in h = finds_as m claims (IsIn (has set)) (MayBe m.base.spec x n) found in_may may_in h

-- its events are events of the specification
pub found_events : (m : GroundMachine) (claims : List GroundClaim) (set : Events) (b : Broken) → AreEvents m.base.spec set → IsFirstBroken m claims (IsIn (has set)) b → AreEvents m.base.spec b.events
found_events m claims set b there h q e = there q (h.passes q e)

-- Rounds with no events.

pub none_safe : (m : GroundMachine) (claims : List GroundClaim) (f : ℕ → Bool) → ((q : ℕ) → f q ≡ false) → IsSafe m claims f
none_safe m claims f none w is = ap (λ ks. turn_false m claims ks w) (no_moves m f none) ∙ by (all_hold m.base.spec claims w)
  where
    by : (a : Bool) → (a && not a) ≡ false
    by true = refl
    by false = refl

no_ends_safe : (m : GroundMachine) (claims : List GroundClaim) (x : Instance) (n : ℕ) → ((e : Instance) → Ends m.base.spec x n e → ⊥) → AllSafe m claims (MayBe m.base.spec x n)
no_ends_safe m claims x n without f may = none_safe m claims f (λ q. by q (f q) refl)
  where
    by : (q : ℕ) (b : Bool) → f q ≡ b → f q ≡ false
    by q true e = let h = may q e in absurd (without h.0 h.2)
    by q false e = e

-- there is no chain of no event
pub zero_safe : (m : GroundMachine) (claims : List GroundClaim) (x : Instance) → AllSafe m claims (MayBe m.base.spec x 0)
zero_safe m claims x = no_ends_safe m claims x 0 (λ e h. by h.0 h.1 h.2)
  where
    by : (es : List Instance) → (is_chain m.base.spec es && begins_with x es) ≡ true → length es ≡ 0 → ⊥
    by [] c l = true≢false (sym c)
    by (e ∷ es) c l = omega (arith, l)

-- nor one that is longer than the longest
past_safe : (m : GroundMachine) (claims : List GroundClaim) (x : Instance) (long n : ℕ) → IsLength m.base.spec x long → long < n → AllSafe m claims (MayBe m.base.spec x n)
past_safe m claims x long n is l = no_ends_safe m claims x n (λ e h. let k = is.most h.0 h.1 in omega (arith, k, l, h.2))

-- so all rounds are safe where those up to the length are
pub all_rounds : (m : GroundMachine) (claims : List GroundClaim) (x : Instance) (answer : Option ℕ) (done : ℕ) → Certified m.base.spec → IsLengthAnswer m.base.spec x answer → unwrap_or answer 0 ≤ done
    → ((n : ℕ) → n < done + 1 → AllSafe m claims (MayBe m.base.spec x n)) → (n : ℕ) → AllSafe m claims (MayBe m.base.spec x n)
all_rounds m claims x None done cert endless l safe n =
    absurd (cert.no_loop endless.1 (endless.0, first_so (is_chain m.base.spec endless.0) (begins_with x endless.0) endless.2, endless.3))
all_rounds m claims x (Some long) done cert is l safe n =
    ⊎_elim (λ k. safe n k) (λ k. past_safe m claims x long n is (omega (arith, k, l))) (cases_lt n (done + 1))

-- one more round
pub round_more : (m : GroundMachine) (claims : List GroundClaim) (x : Instance) (n : ℕ) → ((k : ℕ) → k < n → AllSafe m claims (MayBe m.base.spec x k)) → AllSafe m claims (MayBe m.base.spec x n)
    → (k : ℕ) → k < n + 1 → AllSafe m claims (MayBe m.base.spec x k)
round_more m claims x n safe here k l = ⊎_elim (λ e. subst (λ z. AllSafe m claims (MayBe m.base.spec x z)) (sym e) here) (λ e. safe k (omega (arith, e, l))) (cases_eq k n)

-- one more external event
pub start_more : (m : GroundMachine) (claims : List GroundClaim) (n : ℕ) → ((k : ℕ) → k < n → IsSafeStart m claims k) → IsSafeStart m claims n → (k : ℕ) → k < n + 1 → IsSafeStart m claims k
start_more m claims n safe here k l = ⊎_elim (λ e. subst (IsSafeStart m claims) (sym e) here) (λ e. safe k (omega (arith, e, l))) (cases_eq k n)
