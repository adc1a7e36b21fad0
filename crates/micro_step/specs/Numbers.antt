-- What a machine does, over its numbers.
use Rattle.std.specs.Prelude.{◌≡◌, ℕ, ◌<◌, Bool, ◌&&◌, List, [], map, length, Option, Some, None, slice_get, slice_index_or, fold, ℤ}
use Rattle.std.specs.List.{AllZip, list_any}
use Rattle.std.specs.Option.{option_map_or}
use Rattle.rsml_syntax.specs.declared.world.World.{World}
use Rattle.rsml_meaning.specs.Active.{enter}
use Rattle.rsml_meaning.specs.Cells.{cells}
use Rattle.state_tree.specs.Numbers.{component_path, path_of}
use Rattle.and_or_tables.specs.Ground.{known}
use Rattle.rsml_ground.specs.declared.definitions.GroundGuard.{GroundGuard}
use Rattle.rsml_ground.specs.declared.definitions.GroundGuard.TheVariants as guards
use Rattle.rsml_ground.specs.Truths.{sum_number, value_in}
use Rattle.rsml_ground.specs.Rests.{SumFits}
use Rattle.ground_members.specs.declared.transitions.GroundTransition.{GroundTransition}
use Rattle.ground_members.specs.declared.send_cases.GroundSendCase.{GroundSendCase}
use Rattle.ground_members.specs.declared.send_cases.GroundValue.{GroundValue}
use Rattle.ground_members.specs.declared.send_cases.GroundValue.TheVariants as value
use Rattle.ground_members.specs.declared.send_cases.GroundAnswer.{GroundAnswer}
use Rattle.ground_members.specs.declared.send_cases.GroundAnswer.TheVariants as answer
use Rattle.elaborate.specs.Machine.{GroundMachine}
use Rattle.elaborate.specs.Enabled.{is_enabled, is_sending}
use Rattle.micro_step.specs.declared.prepared.Prepared.{Prepared}
use Rattle.micro_step.specs.declared.reading.Reading.{Reading}
use Rattle.event_graph.specs.declared.events.Events.{Events}
use Rattle.micro_step.specs.Candidates.{ArePrepared, KnowsGuards}
use Rattle.event_graph.specs.Sets.{has}
use Rattle.macros.specs.Known.{Knows}
use Rattle.micro_step.specs.Rising.{AreRising, Numbers, among}
use Rattle.micro_step.specs.Places.{passes, places_where}

-- whether one of the transitions of these numbers raises the event of a number
abbrev pub raised_at : GroundMachine → List ℕ → ℕ → Bool
raised_at m taken event = list_any (passes (λ x. among x.raises event) m.transitions) taken

-- the children after a transition; a stay leaves them
abbrev pub after_move : GroundMachine → List ℕ → GroundTransition → List ℕ
after_move m choices x = elim x.target [
  | None ↦ choices
  | Some target ↦ enter m.base.spec (component_path m.base.spec x.component) (path_of m.base.spec target) choices
]

-- the children after the transition of a number
abbrev pub after_number : GroundMachine → List ℕ → ℕ → List ℕ
after_number m choices k = option_map_or (after_move m choices) (slice_get m.transitions k) choices

-- the world after the transitions of these numbers: their moves are entered one after another
abbrev pub left_by : GroundMachine → World → List ℕ → World
left_by m w taken = record w { choices = fold (after_number m) w.choices taken }

-- the number of a value in a world
abbrev pub value_number : GroundMachine → World → GroundValue → ℤ
value_number m w (value.Sum x) = sum_number w.cells x
value_number m w (value.Function k) = value_in m.base w k

-- the values of an answer
abbrev pub values_of : GroundAnswer → List GroundValue
values_of answer.Quiet = []
values_of (answer.Values xs) = xs

-- the numbers of the values of a case of a send in a world
abbrev pub case_numbers : GroundMachine → World → GroundSendCase → List ℤ
case_numbers m w x = map (value_number m w) (values_of x.answer)

-- the numbers are those of the case of a number
abbrev pub AreOfCase : GroundMachine → World → List (List ℤ) → ℕ → Type 0
AreOfCase m w values k = (x : GroundSendCase) → slice_get m.send_cases k ≡ Some x → slice_get values k ≡ Some (case_numbers m w x)

-- there is a number for each value of each case of a send
abbrev pub HaveRoom : GroundMachine → List (List ℤ) → Type 0
HaveRoom m values = AllZip (λ x ns. length ns ≡ length (values_of x.answer)) m.send_cases values

-- the value is a sum over cells, or that of a function instance, that there are
abbrev pub ValueFits : GroundMachine → GroundValue → Type 0
ValueFits m (value.Sum x) = SumFits (length (cells m.base.spec)) x
ValueFits m (value.Function k) = k < length m.base.definitions

-- the truths of the rows of a guard's table, by those of the phrases
abbrev pub ground_rows : List Bool → GroundGuard → List Bool
ground_rows truths guards.Always = []
ground_rows truths (guards.Table table) = map (λ row. known truths row.phrase) table.rows

-- the items at these places
abbrev pub picked : List ℕ → List ℕ → List ℕ
picked ks places = map (λ p. slice_index_or ks p 0) places

-- What a machine keeps for its micro-steps: what is known of the phrases and of the guards of transitions, the numbers of the
-- taken transitions and of the send cases, and for each case of a send the numbers of its values; and what is prepared for
-- each event.
pub record Kept : Type 0 where
  pub memo : List (Option Bool)
  pub guards : List (Option Bool)
  pub taken : Numbers
  pub sent : Numbers
  pub values : List (List ℤ)
  pub prepared : List Prepared

-- It was made for the machine.
pub record IsFor (m : GroundMachine) (k : Kept) : Type 0 where
  pub phrases : length k.memo ≡ length m.base.phrases
  pub guards : length k.guards ≡ length m.transitions
  pub taken : k.taken.below ≡ length m.transitions
  pub sent : k.sent.below ≡ length m.send_cases
  pub values : HaveRoom m k.values
  pub prepared : ArePrepared m k.prepared

-- There is a place for each phrase and guard and for each transition and case of a send, and what is known is right in the world.
pub record IsReading (m : GroundMachine) (w : World) (r : Reading) : Type 0 where
  pub knows : Knows m.base w r.memo
  pub guards : KnowsGuards m w r.guards
  pub taken : r.taken.below ≡ length m.transitions
  pub sent : r.sent.below ≡ length m.send_cases
  pub rising_taken : AreRising r.taken.items
  pub rising_sent : AreRising r.sent.items

-- the numbers of the transitions that are enabled in a world on the events of a set, rising
abbrev pub taken_at : GroundMachine → World → Events → List ℕ
taken_at m w set = places_where (λ x. has set x.event && is_enabled m w x) 0 m.transitions

-- the numbers of the cases of sends that are enabled in a world on the events of a set, rising
abbrev pub sent_at : GroundMachine → World → Events → List ℕ
sent_at m w set = places_where (λ x. has set x.event && is_sending m w x) 0 m.send_cases

-- the values of the cases of these numbers
abbrev pub of_cases : List (List ℤ) → List ℕ → List (List ℤ)
of_cases values ks = map (λ k. slice_index_or values k []) ks
