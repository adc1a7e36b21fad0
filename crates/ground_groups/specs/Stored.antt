-- What is stored of groups, and what is right of it.
use Rattle.std.specs.Prelude.{◌≡◌, ℕ, ◌+◌, ◌<◌, ◌^◌, true, ◌&&◌, List, [], ◌∷◌, suc, ◌++◌, map, flat_map, filter, length, Option, Some, None, slice_get, unwrap_or, slice_index_or}
use Rattle.std.specs.List.{AllZip, list_any}
use Rattle.rsml_syntax.specs.declared.syntax.Spec.{Spec}
use Rattle.rsml_syntax.specs.limits.Checked.{IsChecked}
use Rattle.rsml_meaning.specs.Words.{Instance, at, is_proper_prefix, Each, IsOne}
use Rattle.rsml_meaning.specs.Instances.{states, events}
use Rattle.rsml_meaning.specs.Transitions.{TransitionInstance, transitions, is_on, is_from, line}
use Rattle.rsml_meaning.specs.Interfaces.{FunctionInstance, definitions, function_cases, functions, sends, send_cases, is_case}
use Rattle.rsml_meaning.specs.Groups.{Group, state, send, state_groups, send_groups}
use Rattle.state_tree.specs.Numbers.{path_of}
use Rattle.rsml_ground.specs.declared.definitions.Definition.{Definition}
use Rattle.rsml_ground.specs.declared.definitions.Definition.TheVariants as definition
use Rattle.ground_members.specs.Members.{IsSend, IsEvent}
use Rattle.ground_groups.specs.declared.key.Key.{Key}
use Rattle.ground_groups.specs.declared.lines.Line.{Line}
use Rattle.ground_groups.specs.declared.functions.FunctionGroup.{FunctionGroup}
use Rattle.ground_groups.specs.Below.{below_of}
use Rattle.ground_groups.specs.Heads.{AreRising, AreHeads, places_of}

-- the event of this number
abbrev pub event_at : Spec → ℕ → Instance
event_at s j = unwrap_or (slice_get (events s) j) (record { name = s.top; index = 0 })

-- the numbers are the places of the items in a list
abbrev pub ArePlaces : {A : Type 0} → List A → List A → List ℕ → Type 0
ArePlaces all items places = AllZip (λ x i. slice_get all i ≡ Some x) items places

-- keys in order, each once, and the places of each
pub record AreLots (keys heads : List Key) (places : List (List ℕ)) : Type 0 where
  pub are_heads : AreHeads keys heads
  pub are_places : places ≡ map (λ k. places_of k 0 keys) heads
  pub few : length keys < 2 ^ 32

-- States.

-- the transitions from the state on the event
abbrev pub own_of : Spec → Key → List TransitionInstance
own_of s q = filter (is_from (path_of s q.owner) (event_at s q.event)) (transitions s)

-- the line of the state on the event
abbrev pub line_of : Spec → Key → List TransitionInstance
line_of s q = line s (event_at s q.event) (path_of s q.owner)

-- the transitions on the event from the states around
abbrev pub upper_of : Spec → Key → List TransitionInstance
upper_of s q = filter (λ t. is_on (event_at s q.event) t && is_proper_prefix t.source (path_of s q.owner)) (transitions s)

-- the key of a group of a state
pub record IsStateKey (s : Spec) (g : Group) (q : Key) : Type 0 where
  pub state_there : q.owner < length (states s)
  pub event_there : q.event < length (events s)
  pub is : g ≡ state (path_of s q.owner) (event_at s q.event)

-- each key that a transition is on is among the heads
abbrev pub ReactsAt : Spec → List Key → Type 0
ReactsAt s heads = (q : Key) → q.owner < length (states s) → q.event < length (events s)
    → list_any (is_from (path_of s q.owner) (event_at s q.event)) (transitions s) ≡ true → IsOne q heads

-- the keys of the groups of states, with the places of the transitions from each
pub record AreStateLots (s : Spec) (heads : List Key) (places : List (List ℕ)) : Type 0 where
  pub groups : AllZip (IsStateKey s) (flat_map (λ x. state_groups s x.path) (states s)) heads
  pub own : AllZip (λ q ls. ArePlaces (transitions s) (own_of s q) ls) heads places
  pub rising : AreRising heads
  pub all : ReactsAt s heads
  pub only : (q : Key) → IsOne q heads → list_any (is_from (path_of s q.owner) (event_at s q.event)) (transitions s) ≡ true
  pub few : Each (λ ls. length ls < 2 ^ 32) places

-- the group of the nearest state around, whose line comes first
abbrev pub IsOuter : Spec → List Key → Key → Option ℕ → Type 0
IsOuter s heads q None = line_of s q ≡ own_of s q
IsOuter s heads q (Some outer) = (key : Key) × (slice_get heads outer ≡ Some key) × (key.owner < q.owner) × (line_of s q ≡ line_of s key ++ own_of s q)

-- how many members the line of a key has, and where they begin
pub record IsLine (s : Spec) (heads : List Key) (q : Key) (x : Line) : Type 0 where
  pub outer : IsOuter s heads q x.outer
  pub members : x.members ≡ length (line_of s q)

-- how many members the line at a place has, if there is one
abbrev pub members_before : List Line → Option ℕ → ℕ
members_before lines None = 0
members_before lines (Some place) = slice_index_or (map (λ x. x.members) lines) place 0

-- Sends.

-- the key of a group of a send
pub record IsSendKey (s : Spec) (g : Group) (q : Key) : Type 0 where
  pub instance : Instance
  pub event : Instance
  pub send_there : IsSend s instance q.owner
  pub event_there : IsEvent s event q.event
  pub is : g ≡ send instance event

-- the places of the cases of a key
abbrev pub AreCasesAt : Spec → Key → List ℕ → Type 0
AreCasesAt s q ls = (x e : Instance) → IsSend s x q.owner → IsEvent s e q.event → ArePlaces (send_cases s) (filter (is_case x e) (send_cases s)) ls

-- the keys of the groups of sends, with the places of the cases of each
pub record AreSendLots (s : Spec) (heads : List Key) (places : List (List ℕ)) : Type 0 where
  pub groups : AllZip (IsSendKey s) (flat_map (send_groups s) (sends s)) heads
  pub own : AllZip (AreCasesAt s) heads places
  pub few : Each (λ ls. length ls < 2 ^ 32) places

-- Functions.

-- the number of a function instance, and how many cases it has
pub record IsFunctionGroup (s : Spec) (f : FunctionInstance) (x : FunctionGroup) : Type 0 where
  pub there : slice_get (definitions s) x.function ≡ Some (function_cases f)
  pub cases : x.cases ≡ length f.cases

-- the functions among definitions, the first of which has this number
abbrev pub function_groups : ℕ → List Definition → List FunctionGroup
function_groups at [] = []
function_groups at (definition.Macro table ∷ ds) = function_groups (suc at) ds
function_groups at (definition.Function cases ∷ ds) = record { function = at; cases = length cases } ∷ function_groups (suc at) ds

-- All groups.

-- what is stored of all groups
pub record AreStored (s : Spec) (state_heads : List Key) (state_places : List (List ℕ)) (lines : List Line)
    (below : List (List ℕ)) (send_heads : List Key) (send_places : List (List ℕ)) (fs : List FunctionGroup) (count : ℕ) : Type 0 where
  pub checked : IsChecked s
  pub of_states : AreStateLots s state_heads state_places
  pub below_is : below ≡ map (below_of s state_heads) state_heads
  pub lines_are : AllZip (IsLine s state_heads) state_heads lines
  pub of_sends : AreSendLots s send_heads send_places
  pub of_functions : AllZip (IsFunctionGroup s) (functions s) fs
  pub count_is : count ≡ length state_heads + (length send_heads + length fs)
