-- Sets of events one after another.
use Rattle.std.proofs.Common.{◌≡◌, ℕ, ◌+◌, ◌<◌, ◌≤◌, ◌==◌, ◌||◌, Bool, true, false, List, Option, Some, None, ◌⊎◌, ⊎_elim, refl, sym, ap, ◌∙◌, subst, true≢false, arith}
use Rattle.std.specs.Cmp.{nat_eq_equiv}
use Rattle.std.proofs.lemmas.Bool.{ne_eqb, cases_eq, cases_lt}
use Rattle.event_graph.specs.Sets.{has}
use Rattle.elaborate.specs.Machine.{GroundMachine}
use Rattle.micro_step.specs.Places.{places_where}
use Rattle.ground_claims.specs.declared.claim.GroundClaim.{GroundClaim}
use Rattle.invariants.specs.declared.found.Broken.{Broken}
use Rattle.invariants.specs.Asked.{turn_false}
use Rattle.invariants.specs.Moves.{moves_on}
use Rattle.invariants.specs.Safe.{IsSafe, AllSafe, IsEarlier, IsFirstBroken, FindsFirst, IsIn, Fits}

abbrev Same : (ℕ → Bool) → (ℕ → Bool) → Type 0
Same f g = (q : ℕ) → f q ≡ g q

-- from a number on there is none
abbrev pub NoneFrom : (ℕ → Bool) → ℕ → Type 0
NoneFrom f from = (q : ℕ) → from ≤ q → f q ≡ false

-- Sets of the same events.

same_moves : (m : GroundMachine) (f g : ℕ → Bool) → Same f g → moves_on m f ≡ moves_on m g
same_moves m f g h = λ i. places_where (λ x. h x.event i) 0 m.transitions

pub same_safe : (m : GroundMachine) (claims : List GroundClaim) (f g : ℕ → Bool) → Same f g → IsSafe m claims g → IsSafe m claims f
same_safe m claims f g h safe = λ w is. ap (λ ks. turn_false m claims ks w) (same_moves m f g h) ∙ safe w is

same_not_earlier : (f g : ℕ → Bool) → Same f g → IsEarlier f g → ⊥
same_not_earlier f g h e = true≢false (sym e.present ∙ sym (h e.place) ∙ e.absent)

-- what is found of sets that pass is found of those that pass another test that comes to the same
pub finds_as : (m : GroundMachine) (claims : List GroundClaim) (P Q : (ℕ → Bool) → Type 0) (found : Option Broken) → ((f : ℕ → Bool) → P f → Q f) → ((f : ℕ → Bool) → Q f → P f)
    → FindsFirst m claims P found → FindsFirst m claims Q found
finds_as m claims P Q None to from h = λ f q. h f (from f q)
finds_as m claims P Q (Some b) to from h = record { passes = to (has b.events) h.passes; world = h.world; first = λ f q e. h.first f (from f q) e }

-- At the end one set fits.

module _ (set present : ℕ → Bool) (from : ℕ) (front : NoneFrom present from) (rest : NoneFrom set from) where
  fits_same : (f : ℕ → Bool) → Fits set present from f → Same f present
  fits_same f h q = ⊎_elim (λ l. h.before q l) (λ l. by l (f q) refl) (cases_lt q from)
    where
      by : from ≤ q → (b : Bool) → f q ≡ b → f q ≡ present q
      by l true e = absurd (true≢false (sym (h.within q l e) ∙ rest q l))
      by l false e = e ∙ sym (front q l)

  pub none_broken : (m : GroundMachine) (claims : List GroundClaim) → IsSafe m claims present → AllSafe m claims (Fits set present from)
  none_broken m claims safe = λ f h. same_safe m claims f present (fits_same f h) safe

  pub one_fits : Fits set present from present
  one_fits = record { before = λ q l. refl; within = λ q l e. absurd (true≢false (sym e ∙ front q l)) }

  pub none_earlier : (m : GroundMachine) (claims : List GroundClaim) (f : ℕ → Bool) → Fits set present from f → IsEarlier f present → IsSafe m claims f
  none_earlier m claims f h e = absurd (same_not_earlier f present (fits_same f h) e)

-- One more event of the set.

module _ (set present more : ℕ → Bool) (from event : ℕ) (front : NoneFrom present from) (low : from ≤ event) (here : set event ≡ true)
    (between : (q : ℕ) → from ≤ q → q < event → set q ≡ false) (puts : (q : ℕ) → more q ≡ (present q || event == q)) where
  not_here : (q : ℕ) → (q ≡ event → ⊥) → more q ≡ present q
  not_here q other = puts q ∙ ap (λ (b : Bool). present q || b) (ne_eqb event q (λ e. other (sym e))) ∙ by (present q)
    where
      by : (b : Bool) → (b || false) ≡ b
      by true = refl
      by false = refl

  at_event : more event ≡ true
  at_event = puts event ∙ ap (λ (b : Bool). present event || b) (nat_eq_equiv.refl event) ∙ by (present event)
    where
      by : (b : Bool) → (b || true) ≡ true
      by true = refl
      by false = refl

  pub front_absent : NoneFrom present (event + 1)
  front_absent q l = front q (omega (arith, l, low))

  pub front_present : NoneFrom more (event + 1)
  front_present q l = not_here q (λ e. omega (arith, e, l)) ∙ front q (omega (arith, l, low))

  pub more_in : IsIn set present → IsIn set more
  more_in h q e = ⊎_elim (λ k. subst (λ z. set z ≡ true) (sym k) here) (λ k. h q (sym (not_here q k) ∙ e)) (cases_eq q event)

  -- what fits has no event between
  skipped : (f : ℕ → Bool) → Fits set present from f → (q : ℕ) → from ≤ q → q < event → f q ≡ false
  skipped f h q l k = by (f q) refl
    where
      by : (b : Bool) → f q ≡ b → f q ≡ false
      by true e = absurd (true≢false (sym (h.within q l e) ∙ between q l k))
      by false e = e

  -- below the event it is as the present ones
  below : (f : ℕ → Bool) → Fits set present from f → (q : ℕ) → q < event → f q ≡ present q
  below f h q k = ⊎_elim (λ l. h.before q l) (λ l. skipped f h q l k ∙ sym (front q l)) (cases_lt q from)

  fits_absent : (f : ℕ → Bool) → Fits set present from f → f event ≡ false → Fits set present (event + 1) f
  fits_absent f h e = record {
    before = λ q l. ⊎_elim (λ k. subst (λ z. f z ≡ present z) (sym k) (e ∙ sym (front event low))) (λ k. below f h q (omega (arith, k, l))) (cases_eq q event);
    within = λ q l. h.within q (omega (arith, l, low));
  }

  fits_present : (f : ℕ → Bool) → Fits set present from f → f event ≡ true → Fits set more (event + 1) f
  fits_present f h e = record {
    before = λ q l. ⊎_elim (λ k. subst (λ z. f z ≡ more z) (sym k) (e ∙ sym at_event)) (λ k. below f h q (omega (arith, k, l)) ∙ sym (not_here q k)) (cases_eq q event);
    within = λ q l. h.within q (omega (arith, l, low));
  }

  back_absent : (f : ℕ → Bool) → Fits set present (event + 1) f → Fits set present from f
  back_absent f h = record {
    before = λ q l. h.before q (omega (arith, l, low));
    within = λ q l e. ⊎_elim (λ k. absurd (true≢false (sym e ∙ h.before q k ∙ front q l))) (λ k. h.within q k e) (cases_lt q (event + 1));
  }

  back_present : (f : ℕ → Bool) → Fits set more (event + 1) f → Fits set present from f
  back_present f h = record {
    before = λ q l. h.before q (omega (arith, l, low)) ∙ not_here q (λ e. omega (arith, e, l, low));
    within = λ q l e. ⊎_elim
        (λ k. ⊎_elim (λ i. subst (λ z. set z ≡ true) (sym i) here) (λ i. absurd (true≢false (sym e ∙ h.before q k ∙ not_here q i ∙ front q l))) (cases_eq q event))
        (λ k. h.within q k e) (cases_lt q (event + 1));
  }

  -- a set with the event is before none without it
  later : (f g : ℕ → Bool) → Fits set present from f → f event ≡ true → Fits set present (event + 1) g → IsEarlier f g → ⊥
  later f g h e k earlier = ⊎_elim
      (λ l. true≢false (sym e ∙ earlier.front event l ∙ k.before event (omega arith) ∙ front event low))
      (λ l. ⊎_elim
      (λ i. true≢false (sym earlier.present ∙ k.before earlier.place (omega (arith, l)) ∙ sym (h.before earlier.place i) ∙ earlier.absent))
      (λ i. true≢false (sym earlier.present ∙ k.before earlier.place (omega (arith, l)) ∙ front earlier.place i))
      (cases_lt earlier.place from))
      (cases_lt event earlier.place)

  module _ (m : GroundMachine) (claims : List GroundClaim) where
    pub broken_absent : (b : Broken) → IsFirstBroken m claims (Fits set present (event + 1)) b → IsFirstBroken m claims (Fits set present from) b
    broken_absent b h = record { passes = back_absent (has b.events) h.passes; world = h.world; first = λ f fits earlier. by f fits earlier (f event) refl }
      where
        by : (f : ℕ → Bool) → Fits set present from f → IsEarlier f (has b.events) → (a : Bool) → f event ≡ a → IsSafe m claims f
        by f fits earlier true e = absurd (later f (has b.events) fits e h.passes earlier)
        by f fits earlier false e = h.first f (fits_absent f fits e) earlier

    pub found_present : (found : Option Broken) → AllSafe m claims (Fits set present (event + 1)) → FindsFirst m claims (Fits set more (event + 1)) found
        → FindsFirst m claims (Fits set present from) found
    found_present None safe h = λ f fits. by f fits (f event) refl
      where
        by : (f : ℕ → Bool) → Fits set present from f → (a : Bool) → f event ≡ a → IsSafe m claims f
        by f fits true e = h f (fits_present f fits e)
        by f fits false e = safe f (fits_absent f fits e)
    found_present (Some b) safe h = record { passes = back_present (has b.events) h.passes; world = h.world; first = λ f fits earlier. by f fits earlier (f event) refl }
      where
        by : (f : ℕ → Bool) → Fits set present from f → IsEarlier f (has b.events) → (a : Bool) → f event ≡ a → IsSafe m claims f
        by f fits earlier true e = h.first f (fits_present f fits e) earlier
        by f fits earlier false e = safe f (fits_absent f fits e)

-- All sets of events of a set fit from the first on.

pub fits_in : (set none f : ℕ → Bool) → Fits set none 0 f → IsIn set f
fits_in set none f h q e = h.within q (omega arith) e

pub in_fits : (set none f : ℕ → Bool) → IsIn set f → Fits set none 0 f
in_fits set none f h = record { before = λ q l. absurd (omega (arith, l)); within = λ q l e. h q e }
