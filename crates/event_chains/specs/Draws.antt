-- When a graph of numbered events stands for a specification.
use Rattle.std.specs.Prelude.{◌≡◌, ℕ, Bool, ◌||◌, length}
use Rattle.rsml_syntax.specs.declared.syntax.Spec.{Spec}
use Rattle.rsml_meaning.specs.Words.{Instance}
use Rattle.rsml_meaning.specs.Instances.{events}
use Rattle.rsml_meaning.specs.Chains.{is_external, leads, meet_on_a_line, meet_in_a_send}
use Rattle.ground_members.specs.Members.{IsEvent}
use Rattle.event_graph.specs.Graphs.{Graph, IsGraph}
use Rattle.event_graph.specs.Graphs as graph

-- sources of transitions on the two lie on one line, or one send instance has cases on both
abbrev pub meet : Spec → Instance → Instance → Bool
meet s e f = meet_on_a_line s e f || meet_in_a_send s e f

-- Its events are those of the specification, by their places; one leads to another, begins chains, or meets another where the
-- specification says so.
pub record Draws (s : Spec) (g : Graph) : Type 0 where
  pub of_events : IsGraph g
  pub counted : g.count ≡ length (events s)
  pub ways_are : (a b : ℕ) (e f : Instance) → IsEvent s e a → IsEvent s f b → graph.leads g a b ≡ leads s e f
  pub starts_are : (a : ℕ) (e : Instance) → IsEvent s e a → graph.starts g a ≡ is_external s e
  pub meetings_are : (a b : ℕ) (e f : Instance) → IsEvent s e a → IsEvent s f b → graph.meets g a b ≡ meet s e f
