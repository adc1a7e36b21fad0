-- The groups of which exactly one member is to be enabled, their conditions, and when a group is sound.
use Rattle.std.specs.Prelude.{◌≡◌, ℕ, Bool, true, not, ◌&&◌, List, ◌++◌, map, IsTrue, flat_map, filter, length}
use Rattle.std.specs.List.{list_any}
use Rattle.rsml_syntax.specs.declared.syntax.Spec.{Spec}
use Rattle.rsml_syntax.specs.declared.world.World.{World}
use Rattle.rsml_syntax.specs.declared.syntax.Case.{Case}
use Rattle.rsml_meaning.specs.Words.{Instance, Path, is_proper_prefix, item_of}
use Rattle.rsml_meaning.specs.Instances.{states, events}
use Rattle.rsml_meaning.specs.Worlds.{IsWorld}
use Rattle.rsml_meaning.specs.Truth.{View, view, within, guard}
use Rattle.rsml_meaning.specs.Transitions.{TransitionInstance, transitions, is_on, is_from, is_enabled, line}
use Rattle.rsml_meaning.specs.Interfaces.{SendCaseInstance, send_cases, sends, is_sending, is_case, FunctionInstance, functions}

-- a state with an event that a transition from it is on; a send instance with an event that a case of it is on; a function instance
pub data Group : Type 0 where
  state : Path → Instance → Group
  send : Instance → Instance → Group
  function : FunctionInstance → Group

-- a transition, a case of a send, or a case of a function
pub data Member : Type 0 where
  transition : TransitionInstance → Member
  send_case : SendCaseInstance → Member
  case : Instance → ℕ × Case → Member

-- a transition has an active source and a true guard, a case has a true guard
abbrev pub enabled : View → Member → Bool
enabled v (transition t) = is_enabled v t
enabled v (send_case c) = is_sending v c
enabled v (case f c) = guard v (within f.index) (item_of c).guard

-- the transitions on a state's line, the cases of a send on the event, all cases of a function
abbrev pub members : Spec → Group → List Member
members s (state path e) = map transition (line s e path)
members s (send x e) = map send_case (filter (is_case x e) (send_cases s))
members s (function f) = map (case f.function) f.cases

-- the groups of a state, one for each event of a transition from it
abbrev pub state_groups : Spec → Path → List Group
state_groups s path = map (state path) (filter (λ e. list_any (is_from path e) (transitions s)) (events s))

-- the groups of a send instance, one for each event of a case of it
abbrev pub send_groups : Spec → Instance → List Group
send_groups s x = map (send x) (filter (λ e. list_any (is_case x e) (send_cases s)) (events s))

-- the groups: of states by event, of sends by event, of functions
abbrev pub groups : Spec → List Group
groups s = flat_map (λ x. state_groups s x.path) (states s) ++ (flat_map (send_groups s) (sends s) ++ map function (functions s))

-- an active state strictly inside the path is the source of a transition on the event
abbrev pub reacts_inside : Spec → View → Path → Instance → Bool
reacts_inside s v path e = list_any (λ t. is_on e t && (is_proper_prefix path t.source && v.is_active t.source)) (transitions s)

-- the condition of a group: the state is active, and no active state inside it is the source of a transition on the event
abbrev pub meets : Spec → View → Group → Bool
meets s v (state path e) = v.is_active path && not (reacts_inside s v path e)
meets s v (send x e) = true
meets s v (function f) = true

-- how many members are enabled
abbrev pub enabled_count : Spec → Group → View → ℕ
enabled_count s group v = length (filter (enabled v) (members s group))

-- in every world that meets the condition exactly one member is enabled
abbrev pub Sound : Spec → Group → Type 0
Sound s group = (w : World) → IsWorld s w → IsTrue (meets s (view s w) group) → enabled_count s group (view s w) ≡ 1
