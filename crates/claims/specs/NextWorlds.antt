-- The world that is left in a certified specification, as a function.
use Rattle.std.specs.Prelude.{◌≡◌, false, filter, IsTrue, List}
use Rattle.rsml_syntax.specs.declared.syntax.Spec.{Spec}
use Rattle.rsml_syntax.specs.declared.world.World.{World}
use Rattle.rsml_meaning.specs.Words.{has}
use Rattle.rsml_meaning.specs.Instances.{events}
use Rattle.rsml_meaning.specs.Truth.{view}
use Rattle.rsml_meaning.specs.Steps.{enabled_transitions}
use Rattle.rsml_meaning.specs.Turns.{after_all}
use Rattle.claim_syntax.specs.declared.claim.Claim.{Claim}
use Rattle.claims.specs.Claims.{all_true}
use Rattle.claims.specs.Inductive.{Moment, MayCome}

-- the next world: the enabled transitions are entered one after another, and the cells stay
abbrev pub next_world : Spec → Moment → World
next_world s m = record { choices = after_all s (enabled_transitions s (view s m.world) m.present) m.world.choices; cells = m.world.cells }

-- A moment that may come, at which all claims are true, and in the next world not all are. The present events stand in their
-- order, each once.
pub record TurnFalse (s : Spec) (cs : List Claim) (m : Moment) : Type 0 where
  pub may_come : MayCome s m
  pub listed : m.present ≡ filter (has m.present) (events s)
  pub before : IsTrue (all_true s cs m.world)
  pub after : all_true s cs (next_world s m) ≡ false
