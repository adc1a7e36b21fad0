-- The commands: what the words after the program's name ask for.
use Rattle.std.specs.Prelude.{ℕ, Bool, ◌≡◌, ◌≤◌, true, false, List, [], ◌∷◌, Option, Some, None, codes, option_map, if◌then◌else◌, ◌&&◌, ⊤}
use Rattle.std.specs.Option.{option_or}
use Rattle.rsml_meaning.specs.EventLines.{Bytes}
use Rattle.rsml_syntax.specs.text.Names.{same}
use Rattle.following.specs.declared.event_action.EventAction.{EventAction}
use Rattle.following.specs.declared.event_action.EventAction.TheVariants as event_action
use Rattle.pairing.specs.declared.pair_action.PairAction.{PairAction}
use Rattle.pairing.specs.declared.pair_action.PairAction.TheVariants as pair_action
use Rattle.rsml.specs.Counts.{count_of}
use Rattle.rsml.specs.declared.command.Action.{Action}
use Rattle.rsml.specs.declared.command.Action.TheVariants as action

-- the action of this word
abbrev pub action_of : Bytes → Option Action
action_of word = elim (same word (codes "check")) [
  | true ↦ Some action.Check
  | false ↦ elim (same word (codes "explain")) [
    | true ↦ Some action.Explain
    | false ↦ elim (same word (codes "format")) [
      | true ↦ Some action.Format
      | false ↦ elim (same word (codes "migrate")) [ true ↦ Some action.Migrate | false ↦ None ]
    ]
  ]
]

-- the action of this word on an event file
abbrev pub event_action_of : Bytes → Option EventAction
event_action_of word = elim (same word (codes "simulate")) [
  | true ↦ Some event_action.Simulate
  | false ↦ elim (same word (codes "cover")) [ true ↦ Some event_action.Cover | false ↦ None ]
]

-- the action of these two words on an event file
abbrev pub explained_action_of : Bytes → Bytes → Option EventAction
explained_action_of first word =
    elim (same first (codes "explain")) [
      | true ↦ elim (same word (codes "cover")) [ true ↦ Some event_action.ExplainCover | false ↦ None ]
      | false ↦ None
    ]

-- the action of this word on two texts
abbrev pub pair_action_of : Bytes → Option PairAction
pair_action_of word = elim (same word (codes "prove")) [
  | true ↦ Some pair_action.Prove
  | false ↦ elim (same word (codes "same")) [ true ↦ Some pair_action.Same | false ↦ None ]
]

-- the action of these two words on two texts
abbrev pub explained_pair_action_of : Bytes → Bytes → Option PairAction
explained_pair_action_of first word =
    elim (same first (codes "explain")) [
      | true ↦ elim (same word (codes "prove")) [
        | true ↦ Some pair_action.ExplainProve
        | false ↦ elim (same word (codes "same")) [ true ↦ Some pair_action.ExplainSame | false ↦ None ]
      ]
      | false ↦ None
    ]

-- whether these two words ask for columns with comment lines behind them
abbrev pub explains_gaps : Bytes → Bytes → Bool
explains_gaps first word = same first (codes "explain") && same word (codes "gaps")

-- What is asked for, by the names of files or the number of units:
pub data Command : Type 0 where
  -- an action on a specification
  act : Action → Bytes → Command
  -- an action on a specification and an event file
  follow : EventAction → Bytes → Bytes → Command
  -- an action on two texts: a specification and claims, or two specifications
  pair : PairAction → Bytes → Bytes → Command
  -- the summary of the generated specification and events of so many units
  demo : ℕ → Command
  -- which program this is
  version : Command

-- this action on this file
abbrev pub with_file : Bytes → Action → Command
with_file file action = act action file

-- this action on these files
abbrev pub with_files : Bytes → Bytes → EventAction → Command
with_files file events action = follow action file events

-- this action on these two texts
abbrev pub with_texts : Bytes → Bytes → PairAction → Command
with_texts file other action = pair action file other

-- at most so many columns of each group of this file
abbrev pub with_columns : Bytes → ℕ → Command
with_columns file most = act (action.Gaps most) file

-- the same, with comment lines behind it
abbrev pub with_explained_columns : Bytes → ℕ → Command
with_explained_columns file most = act (action.ExplainGaps most) file

-- the command of this word on two files: on two texts, or on a specification and an event file
abbrev pub command_on : Bytes → Bytes → Bytes → Option Command
command_on word file other = option_or (option_map (with_texts file other) (pair_action_of word)) (option_map (with_files file other) (event_action_of word))

-- the command of these two words on two files
abbrev pub explained_command_on : Bytes → Bytes → Bytes → Bytes → Option Command
explained_command_on first word file other =
    option_or (option_map (with_texts file other) (explained_pair_action_of first word)) (option_map (with_files file other) (explained_action_of first word))

-- the command that the words are, if they are one
abbrev pub command_of : List Bytes → Option Command
command_of (word ∷ []) = if same word (codes "version") then Some version else None
command_of (word ∷ file ∷ []) = if same word (codes "demo") then option_map demo (count_of 64 file) else option_map (with_file file) (action_of word)
command_of (word ∷ file ∷ other ∷ []) =
    if same word (codes "gaps") then option_map (with_columns file) (count_of 99 other) else command_on word file other
command_of (first ∷ word ∷ file ∷ other ∷ []) =
    if explains_gaps first word then option_map (with_explained_columns file) (count_of 99 other) else explained_command_on first word file other
command_of _ = None

-- of each group some columns are asked for
abbrev pub IsCounted : Action → Type 0
IsCounted (action.Gaps most) = (1 ≤ most) × (most ≤ 99)
IsCounted (action.ExplainGaps most) = (1 ≤ most) × (most ≤ 99)
IsCounted _ = ⊤

-- the units are from 1 to 64, and the columns from 1 to 99
abbrev pub AreCounted : Command → Type 0
AreCounted (act action _) = IsCounted action
AreCounted (demo n) = (1 ≤ n) × (n ≤ 64)
AreCounted _ = ⊤

-- the file of the command's specification, if it reads one: of two specifications the first
abbrev pub specification_file : Command → Option Bytes
specification_file (act action file) = Some file
specification_file (follow action file events) = Some file
specification_file (pair action file other) = Some file
specification_file (demo n) = None
specification_file version = None

-- the command names this file
pub data Names : Command → Bytes → Type 0 where
  specification : (c : Command) (file : Bytes) → specification_file c ≡ Some file → Names c file
  events : (action : EventAction) (file events : Bytes) → Names (follow action file events) events
  other : (action : PairAction) (file other : Bytes) → Names (pair action file other) other
