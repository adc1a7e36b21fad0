-- When claims are inductive.
use Rattle.std.specs.Prelude.{ℕ, List, IsTrue}
use Rattle.rsml_syntax.specs.declared.syntax.Spec.{Spec}
use Rattle.rsml_syntax.specs.declared.world.World.{World}
use Rattle.rsml_meaning.specs.Words.{Instance, Each}
use Rattle.rsml_meaning.specs.Worlds.{IsWorld}
use Rattle.rsml_meaning.specs.Chains.{is_external, Ends}
use Rattle.rsml_meaning.specs.Runs.{first_world}
use Rattle.rsml_meaning.specs.MicroSteps.{Result, IsResult}
use Rattle.claim_syntax.specs.declared.claim.Claim.{Claim}
use Rattle.claims.specs.Claims.{all_true}

-- A moment of a step: the external event that the step is on, the number of the round, the events that are present, and
-- the world.
pub record Moment : Type 0 where
  pub start : Instance
  pub round : ℕ
  pub present : List Instance
  pub world : World

-- As far as the chains of events tell, the moment may come: each present event ends a chain of as many events as the round's
-- number from the external one. The world is any world; none of this says that a run comes to it.
pub record MayCome (s : Spec) (m : Moment) : Type 0 where
  pub external : IsTrue (is_external s m.start)
  pub ends : Each (Ends s m.start m.round) m.present
  pub is_world : IsWorld s m.world

-- a micro-step at the moment comes to this
abbrev pub ComesTo : Spec → Moment → Result → Type 0
ComesTo s m r = IsResult s m.world m.present r

-- Claims are inductive: all are true in the first world, and a micro-step at a moment at which all are leaves a world in
-- which all are.
pub record AreInductive (s : Spec) (cs : List Claim) : Type 0 where
  pub first : IsTrue (all_true s cs (first_world s))
  pub kept : (m : Moment) (r : Result) → MayCome s m → IsTrue (all_true s cs m.world) → ComesTo s m r → IsTrue (all_true s cs r.world)
