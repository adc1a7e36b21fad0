-- What is proved of claims, and when that is right.
use Rattle.std.specs.Prelude.{◌≡◌, ℕ, not, List, Option, Some, IsTrue}
use Rattle.std.specs.List.{position_from}
use Rattle.rsml_syntax.specs.declared.syntax.Spec.{Spec}
use Rattle.rsml_syntax.specs.declared.world.World.{World}
use Rattle.rsml_meaning.specs.Runs.{first_world}
use Rattle.rsml_meaning.specs.MicroSteps.{Result}
use Rattle.rsml_meaning.specs.Transitions.{transitions}
use Rattle.claim_syntax.specs.declared.claim.Claim.{Claim}
use Rattle.claims.specs.Claims.{is_true, all_true}
use Rattle.claims.specs.Inductive.{Moment, ComesTo, AreInductive}
use Rattle.claims.specs.Breaks.{IsLeastBreak}
use Rattle.ground_members.specs.Members.{IsEvent}
use Rattle.micro_step.specs.Places.{ArePlaces}
use Rattle.micro_step.specs.Micros.{AreEvents, events_in}
use Rattle.invariants.specs.declared.proof.Break.{Break}
use Rattle.invariants.specs.declared.proof.Proof.{Proof}
use Rattle.invariants.specs.declared.proof.Proof.TheVariants as proofs

-- the place of the first claim that is false in a world, counted from 0
abbrev pub first_false : Spec → List Claim → World → Option ℕ
first_false s cs w = position_from (λ c. not (is_true s w c)) 0 cs

-- A moment by the numbers of its events.
pub record MomentIs (s : Spec) (m : Moment) (b : Break) : Type 0 where
  pub start : IsEvent s m.start b.start
  pub round : b.round ≡ m.round
  pub events : AreEvents s b.present
  pub present : m.present ≡ events_in s b.present
  pub world : b.world ≡ m.world

-- The least break of claims, the numbers of the transitions that are taken at it, and the place of the first claim that is false in
-- the world that is left.
pub record BreakIs (s : Spec) (cs : List Claim) (b : Break) : Type 0 where
  pub moment : Moment
  pub is : MomentIs s moment b
  pub least : IsLeastBreak s cs moment
  pub result : Result
  pub comes_to : ComesTo s moment result
  pub taken : ArePlaces (transitions s) result.taken b.taken.items
  pub claim : first_false s cs result.world ≡ Some b.claim

-- Claims are inductive; or one is false in the first world, the first such; or all are true there, and they have a least break.
abbrev pub IsProof : Spec → List Claim → Proof → Type 0
IsProof s cs proofs.Inductive = AreInductive s cs
IsProof s cs (proofs.Initial claim) = first_false s cs (first_world s) ≡ Some claim
IsProof s cs (proofs.Breaks b) = IsTrue (all_true s cs (first_world s)) × BreakIs s cs b
