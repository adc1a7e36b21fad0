-- The events that end chains of so many events from an external one.
use Rattle.std.specs.Prelude.{ℕ, IsTrue, ◌↔◌}
use Rattle.rsml_syntax.specs.declared.syntax.Spec.{Spec}
use Rattle.rsml_meaning.specs.Words.{Instance}
use Rattle.rsml_meaning.specs.Chains.{Ends}
use Rattle.ground_members.specs.Members.{IsEvent}
use Rattle.event_graph.specs.declared.events.Events.{Events}
use Rattle.event_graph.specs.Sets.{has}

-- Events of a specification.
pub record Round : Type 0 where
  pub spec : Spec
  pub ends : Events

-- the events are those that end chains of n events from this one
abbrev pub IsRound : Round → Instance → ℕ → Type 0
IsRound r x n = (k : ℕ) (e : Instance) → IsEvent r.spec e k → IsTrue (has r.ends k) ↔ Ends r.spec x n e
