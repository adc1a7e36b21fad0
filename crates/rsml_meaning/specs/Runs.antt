-- The first world, what an event does to the cells, and runs of event files.
use Rattle.std.specs.Prelude.{◌≡◌, true, false, List, [], ◌∷◌, map, Option, Some, None, if◌then◌else◌, ℤ, zip, flat_map, unwrap_or, ⊤}
use Rattle.rsml_syntax.specs.declared.syntax.Spec.{Spec}
use Rattle.rsml_syntax.specs.declared.world.World.{World}
use Rattle.rsml_meaning.specs.Words.{Instance, same_instance, has, first_some}
use Rattle.rsml_meaning.specs.Instances.{components}
use Rattle.rsml_meaning.specs.Cells.{InputCell, cells}
use Rattle.rsml_meaning.specs.Worlds.{cell}
use Rattle.rsml_meaning.specs.Active.{child_place}
use Rattle.rsml_meaning.specs.EventLines.{Bytes, Message}
use Rattle.rsml_meaning.specs.EventFiles.{Line, Limits, messages, lines_of, IsWellFormed}
use Rattle.rsml_meaning.specs.Steps.{Round, IsStep}

-- each component at its default child, each cell and previous cell at its input's initial value
abbrev pub first_world : Spec → World
first_world s = record { choices = map (λ c. child_place c c.default) (components s); cells = map (λ c. c.initial) (cells s) }

-- the number of a field, where the field is this input
abbrev pub number_for : Instance → Instance × ℤ → Option ℤ
number_for input field = if same_instance input field.0 then Some field.1 else None

-- the number that a message has for an input, if it has one
abbrev pub told : Message → Instance → Option ℤ
told m input = first_some (number_for input) (zip m.receive.inputs m.numbers)

-- what a cell holds after a message: a previous cell of the message's inputs gets the number that the cell had, a cell of them gets its new number
abbrev pub latched_cell : Spec → World → Message → InputCell × ℤ → ℤ
latched_cell s w m c = elim c.0.previous [
  | true ↦ if has m.receive.inputs c.0.input then cell s w false c.0.input else c.1
  | false ↦ unwrap_or (told m c.0.input) c.1
]

-- the world with the message's numbers in its cells, and what these held in their previous cells; all else stays
abbrev pub latched : Spec → World → Message → World
latched s w m = record { choices = w.choices; cells = map (latched_cell s w m) (zip (cells s) w.cells) }

-- What one event does: the receive instance that it came by, the rounds of its step, and the world after the step.
pub record Reaction : Type 0 where
  pub receive : Instance
  pub rounds : List Round
  pub world : World

-- In world w the message is latched, and the reaction is a step on the event that the message raises.
pub record IsReaction (s : Spec) (w : World) (m : Message) (r : Reaction) : Type 0 where
  pub receive : r.receive ≡ m.receive.receive
  pub step : IsStep s (latched s w m) (m.receive.raised ∷ []) r.rounds r.world

-- from the world w, each message in turn has its reaction, in the world that the one before left
abbrev pub IsRunFrom : Spec → World → List Message → List Reaction → Type 0
IsRunFrom s w [] [] = ⊤
IsRunFrom s w (m ∷ ms) (r ∷ rs) = IsReaction s w m r × IsRunFrom s r.world ms rs
IsRunFrom s w _ _ = ⊥

-- a run of lines of an event file, from the first world
abbrev pub IsRun : Spec → List Line → List Reaction → Type 0
IsRun s lines rs = IsRunFrom s (first_world s) (messages s lines) rs

-- the rounds of the steps of all events
abbrev pub rounds_in : List Reaction → List Round
rounds_in rs = flat_map (λ r. r.rounds) rs

-- lines of an event file have exactly one run: one list of steps, with all their worlds
pub record HaveOneRun (s : Spec) (lines : List Line) : Type 0 where
  pub run : List Reaction
  pub is_run : IsRun s lines run
  pub only : (other : List Reaction) → IsRun s lines other → other ≡ run

-- every well-formed event file has exactly one run
abbrev pub HasOneRun : Spec → Limits → Type 0
HasOneRun s limits = (content : Bytes) → IsWellFormed s limits content → HaveOneRun s (lines_of content)
