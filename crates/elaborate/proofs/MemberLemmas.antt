-- What is stored of transitions and cases of sends.
use Rattle.std.proofs.Common.{◌≡◌, ℕ, zero, suc, ◌<◌, List, [], ◌∷◌, map, length, get_or, Some, slice_get, sym, ap, ◌∙◌, subst, arith}
use Rattle.std.specs.List.{All, AllZip}
use Rattle.std.proofs.lemmas.Option.{same_Some}
use Rattle.rsml_syntax.specs.declared.syntax.Spec.{Spec}
use Rattle.rsml_meaning.specs.Words.{Each}
use Rattle.rsml_meaning.specs.Instances.{events}
use Rattle.rsml_meaning.specs.Transitions.{transitions}
use Rattle.rsml_meaning.specs.Interfaces.{send_cases}
use Rattle.rsml_ground.specs.declared.definitions.Definition.{Definition}
use Rattle.rsml_ground.specs.declared.definitions.GroundGuard.{GroundGuard}
use Rattle.rsml_ground.specs.declared.definitions.GroundGuard.TheVariants as guards
use Rattle.rsml_ground.specs.declared.phrases.GroundPhrase.{GroundPhrase}
use Rattle.rsml_ground.specs.Grounded.{IsGrounded}
use Rattle.rsml_ground.specs.Numbers.{Keeps}
use Rattle.rsml_ground.specs.Rests.{GuardFits}
use Rattle.rsml_ground.specs.Truths.{Grounded}
use Rattle.macros.specs.Tables.{with_parts}
use Rattle.macros.specs.Guards.{GuardBelow}
use Rattle.macros.proofs.Below.{each_all}
use Rattle.phrase_builder.proofs.Lists.{get_below}
use Rattle.ground_members.specs.declared.transitions.GroundTransition.{GroundTransition}
use Rattle.ground_members.specs.declared.send_cases.GroundSendCase.{GroundSendCase}
use Rattle.ground_members.specs.Members.{TransitionIs, SendCaseIs, AreTransitions, AreSendCases}
use Rattle.ground_members.proofs.Staying.{transition_stays}
use Rattle.elaborate.specs.Machine.{StandsFor, of_parts}
use Rattle.elaborate.specs.Members.{AreMembers, machine_of}
use Rattle.elaborate.specs.OnEvents.{AreOn}

zip_so : {A B : Type 0} (P Q : A → B → Type 0) → ((x : A) (y : B) → P x y → Q x y) → (xs : List A) (ys : List B) → AllZip P xs ys → AllZip Q xs ys
zip_so P Q f [] [] z = tt
zip_so P Q f [] (y ∷ ys) z = absurd z
zip_so P Q f (x ∷ xs) [] z = absurd z
zip_so P Q f (x ∷ xs) (y ∷ ys) z = (f x y z.0, zip_so P Q f xs ys z.1)

zip_each : {A B : Type 0} (P : A → B → Type 0) (Q : B → Type 0) → ((x : A) (y : B) → P x y → Q y) → (xs : List A) (ys : List B) → AllZip P xs ys → Each Q ys
zip_each P Q f [] [] z = tt
zip_each P Q f [] (y ∷ ys) z = absurd z
zip_each P Q f (x ∷ xs) [] z = absurd z
zip_each P Q f (x ∷ xs) (y ∷ ys) z = (f x y z.0, zip_each P Q f xs ys z.1)

guard_below : (n : ℕ) (g : GroundGuard) → GuardFits n g → GuardBelow n g
guard_below n guards.Always f = tt
guard_below n (guards.Table table) f = f.below

pub transition_guards_below : (ps : List GroundPhrase) (s : Spec) (xs : List GroundTransition) → AreTransitions ps s xs → Each (λ x. GuardBelow (length ps) x.guard) xs
transition_guards_below ps s xs are = zip_each (TransitionIs ps s) (λ x. GuardBelow (length ps) x.guard) (λ t x is. guard_below (length ps) x.guard is.fits) (transitions s) xs are

pub case_guards_below : (ps : List GroundPhrase) (s : Spec) (xs : List GroundSendCase) → AreSendCases ps s xs → Each (λ x. GuardBelow (length ps) x.guard) xs
case_guards_below ps s xs are = zip_each (SendCaseIs ps s) (λ x. GuardBelow (length ps) x.guard) (λ t x is. guard_below (length ps) x.guard is.fits) (send_cases s) xs are

pub transition_events : (ps : List GroundPhrase) (s : Spec) (count : ℕ) (xs : List GroundTransition) → count ≡ length (events s) → AreTransitions ps s xs → All (λ x. x.event < count) xs
transition_events ps s count xs e are =
    each_all (λ x. x.event < count) xs
    (zip_each (TransitionIs ps s) (λ x. x.event < count) (λ t x is. subst (λ n. x.event < n) (sym e) (get_below (events s) x.event t.event is.event)) (transitions s) xs are)

pub case_events : (ps : List GroundPhrase) (s : Spec) (count : ℕ) (xs : List GroundSendCase) → count ≡ length (events s) → AreSendCases ps s xs → All (λ x. x.event < count) xs
case_events ps s count xs e are =
    each_all (λ x. x.event < count) xs
    (zip_each (SendCaseIs ps s) (λ x. x.event < count) (λ t x is. subst (λ n. x.event < n) (sym e) (get_below (events s) x.event t.event is.event)) (send_cases s) xs are)

-- the transitions still stand for the text where phrases grow, and the cases do over all phrases
pub both_stand : (ps qs : List GroundPhrase) (s : Spec) (ds : List Definition) (ts : List GroundTransition) (cs : List GroundSendCase)
    → AreTransitions ps s ts → Keeps ps qs → IsGrounded (record { spec = s; phrases = qs; definitions = ds }) → AreSendCases qs s cs → StandsFor (of_parts s qs ds ts cs)
both_stand ps qs s ds ts cs are keeps grounded cases = record {
  grounded = grounded;
  transitions_are = zip_so (TransitionIs ps s) (TransitionIs qs s) (λ t x is. transition_stays ps qs s keeps t x is) (transitions s) ts are;
  cases_are = cases;
}

-- all that is stored
pub all_stored : (s : Spec) (ps : List GroundPhrase) (ds : List Definition) (ts us : List GroundTransition) (cs es : List GroundSendCase) (g : Grounded) (n : ℕ) (on : List (List ℕ)) (m : ℕ) (cases : List (List ℕ)) (count : ℕ)
    → StandsFor (of_parts s ps ds ts cs) → g ≡ with_parts s ps ds → count ≡ length (events s) → n ≡ length ts → m ≡ length cs → us ≡ ts → es ≡ cs
    → AreOn count (map (λ x. x.event) us) on → AreOn count (map (λ x. x.event) es) cases → AreMembers (machine_of g ts cs) n on m cases
all_stored s ps ds ts us cs es g n on m cases count stands e few many more u k ons case_ons =
    subst (λ (x : Grounded). AreMembers (machine_of x ts cs) n on m cases) (sym e) (record {
      stands = stands;
      count_is = many;
      case_count_is = more;
      transitions_on_are = subst (λ (c : ℕ). AreOn c (map (λ x. x.event) ts) on) few (subst (λ (xs : List GroundTransition). AreOn count (map (λ x. x.event) xs) on) u ons);
      cases_on_are = subst (λ (c : ℕ). AreOn c (map (λ x. x.event) cs) cases) few (subst (λ (xs : List GroundSendCase). AreOn count (map (λ x. x.event) xs) cases) k case_ons);
    })

-- the guard of what stands at a place, and the phrases that it is over
pub guard_at : (A : Type 0) (f : A → GroundGuard) (n : ℕ) (xs : List A) (k : ℕ) (x : A) (g : GroundGuard) → Each (λ x. GuardBelow n (f x)) xs → k < length xs → x ≡ get_or xs k x → g ≡ f x → (slice_get (map f xs) k ≡ Some g) × GuardBelow n g
guard_at A f n [] k x g each l at is = absurd (omega (arith, l))
guard_at A f n (y ∷ xs) zero x g each l at is = let e : g ≡ f y = is ∙ ap f at in (ap Some (sym e), subst (GuardBelow n) (sym e) each.0)
guard_at A f n (y ∷ xs) (suc k) x g each l at is = guard_at A f n xs k x g each.1 (omega (arith, l)) at is

-- the list at a place
pub on_at : (A : Type 0) (f : A → List ℕ) (ps : List A) (i : ℕ) (v : A) (xs : List ℕ) → i < length ps → v ≡ get_or ps i v → slice_get (map f ps) i ≡ Some xs → f v ≡ xs
on_at A f [] i v xs l e h = absurd (omega (arith, l))
on_at A f (p ∷ ps) zero v xs l e h = ap f e ∙ same_Some (f p) xs h
on_at A f (p ∷ ps) (suc i) v xs l e h = on_at A f ps i v xs (omega (arith, l)) e h
