-- What reacts to events: states and send instances, by their numbers.
use Rattle.std.specs.Prelude.{ℕ, ◌<◌, Bool, ◌&&◌, ◌==◌, List}
use Rattle.std.specs.List.{list_any}
use Rattle.rsml_syntax.specs.declared.syntax.Spec.{Spec}
use Rattle.rsml_meaning.specs.Words.{Each, on_one_line}
use Rattle.state_tree.specs.Numbers.{path_of}
use Rattle.event_graph.specs.declared.events.Events.{Events}
use Rattle.event_graph.specs.Sets.{has_at}
use Rattle.ground_members.specs.declared.transitions.GroundTransition.{GroundTransition}
use Rattle.ground_members.specs.declared.send_cases.GroundSendCase.{GroundSendCase}
use Rattle.event_chains.specs.declared.reaction.Reaction.{Reaction}

-- some transition on the first event raises the second
abbrev pub leads_by : List GroundTransition → ℕ → ℕ → Bool
leads_by ts a b = list_any (λ t. t.event == a && list_any (λ r. r == b) t.raises) ts

-- the source of a transition, with its event
abbrev pub source_of : GroundTransition → Reaction
source_of t = record { owner = t.source; event = t.event }

-- the send of a case, with its event
abbrev pub send_of : GroundSendCase → Reaction
send_of c = record { owner = c.send; event = c.event }

-- owners and events are below these numbers
abbrev pub AreBelow : ℕ → ℕ → List Reaction → Type 0
AreBelow owners events rs = Each (λ r. (r.owner < owners) × (r.event < events)) rs

-- this one reacts to the event
abbrev pub reacts : List Reaction → ℕ → ℕ → Bool
reacts rs k b = list_any (λ r. r.owner == k && r.event == b) rs

-- one on a line with this state reacts to the event
abbrev pub reacts_on_line : Spec → List Reaction → ℕ → ℕ → Bool
reacts_on_line s rs k b = list_any (λ r. on_one_line (path_of s k) (path_of s r.owner) && r.event == b) rs

-- one that reacts to the first event has the second in its set
abbrev pub meet_by : List Events → List Reaction → ℕ → ℕ → Bool
meet_by sets rs a b = list_any (λ r. r.event == a && has_at sets r.owner b) rs
