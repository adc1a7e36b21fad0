-- Candidates that are met are those whose transitions, or cases of sends, are enabled.
use Rattle.std.proofs.Common.{◌≡◌, ℕ, zero, suc, ◌+◌, ◌<◌, ◌≤◌, ◌==◌, ◌||◌, ◌&&◌, Bool, true, false, List, [], ◌∷◌, ◌++◌, map, length, Some, None, Option, slice_get, slice_index_or, take, ◌⊎◌, inl, inr, ⊎_elim, refl, sym, ap, ◌∙◌, subst, arith}
use Rattle.std.specs.List.{list_any, All}
use Rattle.std.specs.Option.{option_map_or, IfSome}
use Rattle.std.proofs.lemmas.Bool.{eqb-true}
use Rattle.std.proofs.lemmas.Option.{same_Some, slice_get_read}
use Rattle.std.proofs.lemmas.List.{take_more, take_all, map_push, length_push}
use Rattle.std.proofs.lemmas.List.Elements.{All-push}
use Rattle.rsml_syntax.specs.declared.world.World.{World}
use Rattle.rsml_meaning.specs.Instances.{components, events}
use Rattle.rsml_meaning.specs.Worlds.{IsWorld}
use Rattle.state_tree.proofs.Lists.{get_within, beside}
use Rattle.rsml_meaning.specs.Transitions.{transitions}
use Rattle.rsml_meaning.specs.Interfaces.{send_cases}
use Rattle.and_or_tables.specs.Ground.{known}
use Rattle.rsml_ground.specs.declared.definitions.GroundGuard.{GroundGuard}
use Rattle.rsml_ground.specs.declared.definitions.GroundGuard.TheVariants as guards
use Rattle.rsml_ground.specs.Rests.{GuardFits}
use Rattle.rsml_ground.specs.Truths.{guard_truth, truths_in}
use Rattle.macros.specs.Guards.{GuardBelow, HasShape}
use Rattle.ground_members.specs.declared.transitions.GroundTransition.{GroundTransition}
use Rattle.ground_members.specs.declared.send_cases.GroundSendCase.{GroundSendCase}
use Rattle.ground_members.specs.Members.{TransitionIs, SendCaseIs}
use Rattle.elaborate.specs.Machine.{GroundMachine, StandsFor}
use Rattle.elaborate.specs.OnEvents.{places_of}
use Rattle.elaborate.specs.Enabled.{is_enabled, is_sending}
use Rattle.micro_step.specs.declared.candidates.Candidate.{Candidate}
use Rattle.micro_step.specs.declared.prepared.Prepared.{Prepared}
use Rattle.macros.specs.declared.asked.Asked.{Asked}
use Rattle.macros.specs.Asked.{AsksFor}
use Rattle.micro_step.specs.Candidates.{Fits, HasGuardOf, TellsOf, AreFor, IsPrepared, ArePrepared, is_met}
use Rattle.rsml_ground.specs.Choices.{AreOfComponents, TellActivity, are_chosen}
use Rattle.micro_step.specs.Places.{passes}
use Rattle.micro_step.specs.Rising.{among}
use Rattle.micro_step.proofs.LoopLemmas.{on_event}
use Rattle.micro_step.proofs.MicroLemmas.{choices_are}
use Rattle.micro_step.proofs.PlaceLemmas.{among_places}

-- Which candidates are met.

more_met : (b met a p : Bool) → (b ≡ true → met ≡ p) → ((b && met) || (a && p)) ≡ ((b || a) && p)
more_met true met true p h = ap (λ (z : Bool). z || p) (h refl) ∙ twice p
  where
    twice : (p : Bool) → (p || p) ≡ p
    twice true = refl
    twice false = refl
more_met true met false p h = ap (λ (z : Bool). z || false) (h refl) ∙ none p
  where
    none : (p : Bool) → (p || false) ≡ p
    none true = refl
    none false = refl
more_met false met a p h = refl

met_among : {A : Type 0} (m : GroundMachine) (w : World) (t : A → Bool) (xs : List A) (cs : List Candidate) (q : ℕ) → All (λ c. is_met m w c ≡ passes t xs c.number) cs
    → list_any (λ c. c.number == q && is_met m w c) cs ≡ (among (map (λ c. c.number) cs) q && passes t xs q)
met_among m w t xs [] q h = refl
met_among m w t xs (c ∷ cs) q h =
    ap (λ (z : Bool). (c.number == q && is_met m w c) || z) (met_among m w t xs cs q (λ k d l. h (suc k) d (omega (arith, l))))
    ∙ more_met (c.number == q) (is_met m w c) (among (map (λ c. c.number) cs) q) (passes t xs q)
    (λ e. h 0 c (omega arith) ∙ ap (passes t xs) (eqb-true c.number q e))

both_pass : {A : Type 0} (t u : A → Bool) (xs : List A) (q : ℕ) → (passes t xs q && passes u xs q) ≡ passes (λ x. t x && u x) xs q
both_pass t u xs q = by (slice_get xs q)
  where
    by : (o : Option _) → (option_map_or t o false && option_map_or u o false) ≡ option_map_or (λ x. t x && u x) o false
    by None = refl
    by (Some x) = refl

-- those of an event that are met are those whose items on the event pass
pub met_on : {A : Type 0} (m : GroundMachine) (w : World) (test : World → A → Bool) (ev : A → ℕ) (xs : List A) (event : ℕ) (cs : List Candidate) (q : ℕ) → IsWorld m.base.spec w
    → AreFor m test xs (places_of event 0 (map ev xs)) cs
    → list_any (λ c. c.number == q && is_met m w c) cs ≡ passes (λ x. ev x == event && test w x) xs q
met_on m w test ev xs event cs q world for =
    met_among m w (test w) xs cs q (λ k d l. (for.each k d l).right w world)
    ∙ ap (λ (ns : List ℕ). among ns q && passes (test w) xs q) (for.in_order ∙ on_event ev event 0 xs)
    ∙ ap (λ (b : Bool). b && passes (test w) xs q) (among_places (λ x. ev x == event) xs q)
    ∙ both_pass (λ x. ev x == event) (test w) xs q

pub fits_of : {A : Type 0} (m : GroundMachine) (test : World → A → Bool) (xs : List A) (numbers : List ℕ) (cs : List Candidate) → AreFor m test xs numbers cs → All (Fits m) cs
fits_of m test xs numbers cs for = λ k d l. (for.each k d l).fits

pub below_of : {A : Type 0} (m : GroundMachine) (test : World → A → Bool) (xs : List A) (numbers : List ℕ) (cs : List Candidate) (n : ℕ) → n ≡ length xs → AreFor m test xs numbers cs → All (λ c. c.number < n) cs
below_of m test xs numbers cs n e for = λ k d l. let b = (for.each k d l).below in omega (arith, b, e)

-- what is prepared for an event
pub prepared_at : (m : GroundMachine) (ps : List Prepared) (event : ℕ) (p : Prepared) → ArePrepared m ps → event < length (events m.base.spec) → p ≡ slice_index_or ps event p → IsPrepared m event p
prepared_at m ps event p all l e = all.each event p (slice_get_read ps (length (events m.base.spec)) event p (sym all.many) l e)

-- Candidates are prepared.

-- the shape of a guard, and the phrases that it names
shape_of : (n : ℕ) (guard : GroundGuard) → GuardFits n guard → HasShape guard × GuardBelow n guard
shape_of n guards.Always fits = (tt, tt)
shape_of n (guards.Table table) fits = (fits.shape, fits.below)

pub transition_shape : (m : GroundMachine) (k : ℕ) (x : GroundTransition) → StandsFor m → slice_get m.transitions k ≡ Some x → HasShape x.guard × GuardBelow (length m.base.phrases) x.guard
transition_shape m k x stands at =
    let r = beside (TransitionIs m.base.phrases m.base.spec) (transitions m.base.spec) m.transitions k x stands.transitions_are at in
    shape_of (length m.base.phrases) x.guard r.2.fits

pub case_shape : (m : GroundMachine) (k : ℕ) (x : GroundSendCase) → StandsFor m → slice_get m.send_cases k ≡ Some x → HasShape x.guard × GuardBelow (length m.base.phrases) x.guard
case_shape m k x stands at =
    let r = beside (SendCaseIs m.base.phrases m.base.spec) (send_cases m.base.spec) m.send_cases k x stands.cases_are at in
    shape_of (length m.base.phrases) x.guard r.2.fits

known_map : {A : Type 0} (f : A → Bool) (xs : List A) (k : ℕ) (x : A) → slice_get xs k ≡ Some x → known (map f xs) k ≡ f x
known_map f [] k x e = absurd (let no : ⊥ = cc in no)
known_map f (y ∷ xs) zero x e = ap f (same_Some y x e)
known_map f (y ∷ xs) (suc k) x e = known_map f xs k x e

-- the truth of a transition's guard can be kept at its own number
pub own_guard : (m : GroundMachine) (number : ℕ) (x : GroundTransition) (a : Asked) → slice_get m.transitions number ≡ Some x → AsksFor (length m.base.phrases) x.guard a → HasGuardOf m a number
own_guard m number x a at asks = record {
  there = get_within m.transitions number x at;
  right = λ w. asks.right (truths_in m.base w) ∙ sym (known_map (λ (y : GroundTransition). guard_truth (truths_in m.base w) y.guard) m.transitions number x at);
}

pub tells_of_transition : (m : GroundMachine) (c : Candidate) (x : GroundTransition) → slice_get m.transitions c.number ≡ Some x
    → AreOfComponents m.base.spec c.choices.items → TellActivity m.base.spec x.source c.choices.items → AsksFor (length m.base.phrases) x.guard c.asked
    → IfSome c.kept_at (HasGuardOf m c.asked) → TellsOf m (is_enabled m) m.transitions c
tells_of_transition m c x at components active asks kept = record {
  fits = record { components = components; phrases = asks.below; kept_at = kept };
  below = get_within m.transitions c.number x at;
  right = λ w world.
      (λ i. active w (choices_are m.base.spec w world) i && asks.right (truths_in m.base w) i)
      ∙ ap (λ (o : Option GroundTransition). option_map_or (is_enabled m w) o false) (sym at);
}

pub tells_of_case : (m : GroundMachine) (c : Candidate) (x : GroundSendCase) → slice_get m.send_cases c.number ≡ Some x
    → c.choices.items ≡ [] → AsksFor (length m.base.phrases) x.guard c.asked → IfSome c.kept_at (HasGuardOf m c.asked) → TellsOf m (is_sending m) m.send_cases c
tells_of_case m c x at none asks kept = record {
  fits = record { components = subst (AreOfComponents m.base.spec) (sym none) (λ k d l. absurd (omega (arith, l))); phrases = asks.below; kept_at = kept };
  below = get_within m.send_cases c.number x at;
  right = λ w world.
      (λ i. are_chosen w.choices (none i) && asks.right (truths_in m.base w) i)
      ∙ ap (λ (o : Option GroundSendCase). option_map_or (is_sending m w) o false) (sym at);
}

-- one more candidate
pub for_more : {A : Type 0} (m : GroundMachine) (test : World → A → Bool) (xs : List A) (numbers : List ℕ) (i k : ℕ) (cs new : List Candidate) (c : Candidate)
    → i < length numbers → k ≡ slice_index_or numbers i 0 → c.number ≡ k → TellsOf m test xs c → new ≡ cs ++ c ∷ [] → AreFor m test xs (take i numbers) cs → AreFor m test xs (take (i + 1) numbers) new
for_more m test xs numbers i k cs new c l at same tells is for = record {
  in_order = ap (map (λ (d : Candidate). d.number)) is ∙ map_push (λ (d : Candidate). d.number) cs c ∙ (λ j. for.in_order j ++ (same ∙ at) j ∷ []) ∙ sym (take_more numbers i 0 l);
  each = subst (All (TellsOf m test xs)) (sym is) (All-push (TellsOf m test xs) cs c for.each tells);
}

pub for_none : {A : Type 0} (m : GroundMachine) (test : World → A → Bool) (xs : List A) (numbers : List ℕ) (cs : List Candidate) → cs ≡ [] → AreFor m test xs (take 0 numbers) cs
for_none m test xs numbers cs e = record {
  in_order = ap (map (λ (d : Candidate). d.number)) e;
  each = subst (All (TellsOf m test xs)) (sym e) (λ k d l. absurd (omega (arith, l)));
}

pub for_all : {A : Type 0} (m : GroundMachine) (test : World → A → Bool) (xs : List A) (numbers : List ℕ) (i : ℕ) (cs : List Candidate) → length numbers ≤ i → AreFor m test xs (take i numbers) cs → AreFor m test xs numbers cs
for_all m test xs numbers i cs l for = subst (λ (ns : List ℕ). AreFor m test xs ns cs) (take_all i numbers l) for

-- What is prepared for the first events.
pub record AreFirst (m : GroundMachine) (count : ℕ) (ps : List Prepared) : Type 0 where
  pub many : length ps ≡ count
  pub each : (event : ℕ) (p : Prepared) → slice_get ps event ≡ Some p → IsPrepared m event p

at_push : {A : Type 0} (xs : List A) (y : A) (i : ℕ) (x : A) → slice_get (xs ++ y ∷ []) i ≡ Some x → (slice_get xs i ≡ Some x) ⊎ ((i ≡ length xs) × (y ≡ x))
at_push [] y zero x e = inr (refl, same_Some y x e)
at_push [] y (suc i) x e = absurd (let no : ⊥ = cc in no)
at_push (z ∷ xs) y zero x e = inl e
at_push (z ∷ xs) y (suc i) x e = ⊎_elim (λ l. inl l) (λ r. inr (ap suc r.0, r.1)) (at_push xs y i x e)

pub first_none : (m : GroundMachine) (ps : List Prepared) → ps ≡ [] → AreFirst m 0 ps
first_none m ps e = record {
  many = ap length e;
  each = λ event p at. absurd (let no : ⊥ = (let k = ap (λ (qs : List Prepared). slice_get qs event) (sym e) ∙ at in cc) in no);
}

-- one more event
pub first_more : (m : GroundMachine) (count : ℕ) (ps new : List Prepared) (p : Prepared) → new ≡ ps ++ p ∷ [] → IsPrepared m count p → AreFirst m count ps → AreFirst m (count + 1) new
first_more m count ps new p is prepared first = record {
  many = ap length is ∙ length_push ps p ∙ ap (λ n. n + 1) first.many;
  each = λ event q at. ⊎_elim
      (λ l. first.each event q l)
      (λ r. subst (λ k. IsPrepared m k q) (sym (r.0 ∙ first.many)) (subst (IsPrepared m count) r.1 prepared))
      (at_push ps p event q (ap (λ (qs : List Prepared). slice_get qs event) (sym is) ∙ at));
}

pub first_all : (m : GroundMachine) (count : ℕ) (ps : List Prepared) → count ≡ length (events m.base.spec) → AreFirst m count ps → ArePrepared m ps
first_all m count ps e first = record { many = first.many ∙ e; each = first.each }
