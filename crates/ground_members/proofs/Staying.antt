-- What stands for transitions and cases of sends still does where phrases grow.
use Rattle.std.proofs.Common.{◌≡◌, ℕ, zero, suc, ◌+◌, ◌<◌, ◌≤◌, List, [], ◌∷◌, ◌++◌, map, length, take, get_or, Some, slice_get, refl, sym, subst, arith, not-suc-le-zero, le_of_suc-le-suc}
use Rattle.std.specs.List.{AllZip}
use Rattle.rsml_syntax.specs.declared.syntax.Spec.{Spec}
use Rattle.rsml_meaning.specs.Truth.{within}
use Rattle.rsml_meaning.specs.Transitions.{TransitionInstance}
use Rattle.rsml_meaning.specs.Interfaces.{SendCaseInstance}
use Rattle.rsml_ground.specs.declared.definitions.Definition.{Definition}
use Rattle.rsml_ground.specs.declared.phrases.GroundPhrase.{GroundPhrase}
use Rattle.rsml_ground.specs.Grounded.{IsGrounded}
use Rattle.rsml_ground.specs.Numbers.{Keeps}
use Rattle.phrase_builder.proofs.Growing.{guard_more}
use Rattle.phrase_builder.proofs.Standing.{guard_stays}
use Rattle.ground_members.specs.declared.transitions.GroundTransition.{GroundTransition}
use Rattle.ground_members.specs.declared.send_cases.GroundSendCase.{GroundSendCase}
use Rattle.ground_members.specs.Members.{TransitionIs, SendCaseIs}
use Rattle.ground_members.proofs.Lists.{zip_turn, zip_end}

there_is : {A : Type 0} (xs : List A) (k : ℕ) → k < length xs → (x : A) × (slice_get xs k ≡ Some x)
there_is [] k l = absurd (not-suc-le-zero l)
there_is (x ∷ xs) zero l = (x, refl)
there_is (x ∷ xs) (suc k) l = there_is xs k (le_of_suc-le-suc l)

get_below : {A : Type 0} (xs : List A) (k : ℕ) (x : A) → slice_get xs k ≡ Some x → k < length xs
get_below [] k x h = cc
get_below (y ∷ xs) zero x h = omega arith
get_below (y ∷ xs) (suc k) x h = omega (arith, get_below xs k x h)

-- what keeps its numbers is not shorter
pub longer : (ps qs : List GroundPhrase) → Keeps ps qs → length ps ≤ length qs
longer ps qs h = by (length ps) refl
  where
    by : (n : ℕ) → length ps ≡ n → n ≤ length qs
    by zero e = omega arith
    by (suc n) e = let x = there_is ps n (omega (arith, e)) in let b = get_below qs n x.0 (h n x.0 x.1) in omega (arith, b)

pub keeps_both : (ps qs rs : List GroundPhrase) → Keeps ps qs → Keeps qs rs → Keeps ps rs
keeps_both ps qs rs a b k p h = b k p (a k p h)

pub transition_stays : (ps qs : List GroundPhrase) (s : Spec) → Keeps ps qs → (t : TransitionInstance) (x : GroundTransition) → TransitionIs ps s t x → TransitionIs qs s t x
transition_stays ps qs s h t x a = record {
  component = a.component;
  source = a.source;
  target = a.target;
  event = a.event;
  guard = guard_stays ps qs s (within t.this) t.guard x.guard h a.guard;
  fits = guard_more (length ps) (length qs) (longer ps qs h) x.guard a.fits;
  raises = a.raises;
  ordinal = a.ordinal;
}

pub case_stays : (ps qs : List GroundPhrase) (s : Spec) → Keeps ps qs → (c : SendCaseInstance) (x : GroundSendCase) → SendCaseIs ps s c x → SendCaseIs qs s c x
case_stays ps qs s h c x a = record {
  send = a.send;
  event = a.event;
  guard = guard_stays ps qs s (within c.send.index) c.guard x.guard h a.guard;
  fits = guard_more (length ps) (length qs) (longer ps qs h) x.guard a.fits;
  answer = a.answer;
  ordinal = a.ordinal;
}

-- So far the phrases have grown, and each item stands for one of the list.
pub record IsSoFar {B C : Type 0} (R : List GroundPhrase → Spec → B → C → Type 0) (s : Spec) (ds : List Definition) (old new : List GroundPhrase) (bs : List B) (cs : List C) : Type 0 where
  pub grounded : IsGrounded (record { spec = s; phrases = new; definitions = ds })
  pub keeps : Keeps old new
  pub are : AllZip (R new s) bs cs

module _ {A B C : Type 0} (R : List GroundPhrase → Spec → B → C → Type 0) (s : Spec) (ds : List Definition) (f : A → B) (xs : List A) where
  pub so_far_starts : (ps : List GroundPhrase) (cs : List C) → cs ≡ [] → IsGrounded (record { spec = s; phrases = ps; definitions = ds }) → IsSoFar R s ds ps ps (map f (take 0 xs)) cs
  so_far_starts ps cs e g = record { grounded = g; keeps = λ k p h. h; are = subst (AllZip (R ps s) []) (sym e) tt }

  pub so_far_turn : (stays : (ps qs : List GroundPhrase) → Keeps ps qs → (b : B) (c : C) → R ps s b c → R qs s b c) (old ps qs : List GroundPhrase) (i : ℕ) (x : A) (cs es : List C) (c : C)
      → IsSoFar R s ds old ps (map f (take i xs)) cs → i < length xs → x ≡ get_or xs i x → IsGrounded (record { spec = s; phrases = qs; definitions = ds }) → Keeps ps qs → R qs s (f x) c → es ≡ cs ++ (c ∷ [])
      → IsSoFar R s ds old qs (map f (take (i + 1) xs)) es
  so_far_turn stays old ps qs i x cs es c h l is g k q e = record {
    grounded = g;
    keeps = keeps_both old ps qs h.keeps k;
    are = zip_turn (R ps s) (R qs s) f xs i x cs es c (stays ps qs k) h.are l is e q;
  }

  pub so_far_ends : (old ps : List GroundPhrase) (i : ℕ) (cs : List C) → IsSoFar R s ds old ps (map f (take i xs)) cs → length xs ≤ i → AllZip (R ps s) (map f xs) cs
  so_far_ends old ps i cs h l = zip_end (R ps s) f xs i cs h.are l
