-- Sets of events on which no micro-step turns claims false, and the first set on which one does. A set of events is the test of
-- their numbers.
use Rattle.std.specs.Prelude.{◌≡◌, ℕ, ◌<◌, ◌≤◌, Bool, true, false, List, Option, Some, slice_get, IsTrue, MatchOption}
use Rattle.rsml_syntax.specs.declared.syntax.Spec.{Spec}
use Rattle.rsml_syntax.specs.declared.world.World.{World}
use Rattle.rsml_meaning.specs.Words.{Instance}
use Rattle.rsml_meaning.specs.Worlds.{IsWorld}
use Rattle.rsml_meaning.specs.Chains.{is_external, Ends}
use Rattle.ground_members.specs.Members.{IsEvent}
use Rattle.event_graph.specs.declared.events.Events.{Events}
use Rattle.event_graph.specs.Sets.{has}
use Rattle.elaborate.specs.Machine.{GroundMachine}
use Rattle.micro_step.specs.Micros.{AreEvents}
use Rattle.group_verdicts.specs.Least.{IsLeastWorld}
use Rattle.ground_claims.specs.declared.claim.GroundClaim.{GroundClaim}
use Rattle.invariants.specs.declared.found.Broken.{Broken}
use Rattle.invariants.specs.declared.found.Found.{Found}
use Rattle.invariants.specs.Asked.{breaks}

-- a micro-step on the events of the set turns the claims false from no world
abbrev pub IsSafe : GroundMachine → List GroundClaim → (ℕ → Bool) → Type 0
IsSafe m claims f = (w : World) → IsWorld m.base.spec w → breaks m claims f w ≡ false

-- each set that passes is so
abbrev pub AllSafe : GroundMachine → List GroundClaim → ((ℕ → Bool) → Type 0) → Type 0
AllSafe m claims Passes = (f : ℕ → Bool) → Passes f → IsSafe m claims f

-- The first set comes before the second: at the first event in which they differ it has none.
pub record IsEarlier (f g : ℕ → Bool) : Type 0 where
  pub place : ℕ
  pub absent : f place ≡ false
  pub present : g place ≡ true
  pub front : (q : ℕ) → q < place → f q ≡ g q

-- Of the sets that pass, the first that is not safe, and the least world.
pub record IsFirstBroken (m : GroundMachine) (claims : List GroundClaim) (Passes : (ℕ → Bool) → Type 0) (b : Broken) : Type 0 where
  pub passes : Passes (has b.events)
  pub world : IsLeastWorld m.base.spec (breaks m claims (has b.events)) b.world
  pub first : (f : ℕ → Bool) → Passes f → IsEarlier f (has b.events) → IsSafe m claims f

-- that set, or none where all are safe
abbrev pub FindsFirst : GroundMachine → List GroundClaim → ((ℕ → Bool) → Type 0) → Option Broken → Type 0
FindsFirst m claims Passes found = MatchOption found (AllSafe m claims Passes) (IsFirstBroken m claims Passes)

-- each event of the second set is in the first
abbrev pub IsIn : (ℕ → Bool) → (ℕ → Bool) → Type 0
IsIn set f = (q : ℕ) → f q ≡ true → set q ≡ true

-- all sets of events of these are safe
abbrev pub AreKnown : GroundMachine → List GroundClaim → List Events → Type 0
AreKnown m claims sets = (k : ℕ) (set : Events) → slice_get sets k ≡ Some set → AllSafe m claims (IsIn (has set))

-- the events of a set are all in one of these
abbrev pub IsOfKnown : List Events → (ℕ → Bool) → Type 0
IsOfKnown sets f = (k : ℕ) × (set : Events) × (slice_get sets k ≡ Some set) × IsIn (has set) f

-- Below a number the events of a set are those of another, and from there on they are in a third.
pub record Fits (set present : ℕ → Bool) (from : ℕ) (f : ℕ → Bool) : Type 0 where
  pub before : (q : ℕ) → q < from → f q ≡ present q
  pub within : (q : ℕ) → from ≤ q → f q ≡ true → set q ≡ true

-- each event of the set ends a chain of n events from x
abbrev pub MayBe : Spec → Instance → ℕ → (ℕ → Bool) → Type 0
MayBe s x n f = (k : ℕ) → f k ≡ true → (e : Instance) × IsEvent s e k × Ends s x n e

-- The first round after x in which some set is not safe, and the first set there.
pub record IsFirstRound (m : GroundMachine) (claims : List GroundClaim) (x : Instance) (round : ℕ) (b : Broken) : Type 0 where
  pub broken : IsFirstBroken m claims (MayBe m.base.spec x round) b
  pub first : (n : ℕ) → n < round → AllSafe m claims (MayBe m.base.spec x n)

-- in each round after the external event of a number all sets are safe
abbrev pub IsSafeStart : GroundMachine → List GroundClaim → ℕ → Type 0
IsSafeStart m claims k = (x : Instance) → IsEvent m.base.spec x k → IsTrue (is_external m.base.spec x) → (n : ℕ) → AllSafe m claims (MayBe m.base.spec x n)

-- The event of a number is external, and what was found is the first round after it and the first set there.
pub record IsFirstAfter (m : GroundMachine) (claims : List GroundClaim) (k : ℕ) (f : Found) : Type 0 where
  pub same : f.start ≡ k
  pub start : Instance
  pub is : IsEvent m.base.spec start k
  pub external : IsTrue (is_external m.base.spec start)
  pub events : AreEvents m.base.spec f.broken.events
  pub round : IsFirstRound m claims start f.round f.broken

-- What was found is the first after any external event.
pub record IsFound (m : GroundMachine) (claims : List GroundClaim) (f : Found) : Type 0 where
  pub here : IsFirstAfter m claims f.start f
  pub first : (k : ℕ) → k < f.start → IsSafeStart m claims k
