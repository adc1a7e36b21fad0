-- What the transitions and the cases of sends name is there.
use Rattle.std.specs.Prelude.{◌≡◌, ℕ, ◌+◌, ◌<◌, ◌≤◌, List, length, take, Option, Some, None, ⊤}
use Rattle.rsml_syntax.specs.declared.syntax.Spec.{Spec}
use Rattle.rsml_syntax.specs.text.Names.{Name}
use Rattle.rsml_meaning.specs.Words.{Instance, Path, Each, at, child_path, place_in}
use Rattle.rsml_meaning.specs.Instances.{states, events}
use Rattle.rsml_meaning.specs.Truth.{within}
use Rattle.rsml_meaning.specs.Transitions.{TransitionInstance, target_path}
use Rattle.rsml_meaning.specs.Interfaces.{SendCaseInstance, sends, definitions}
use Rattle.state_arrays.specs.Places.{path_at}
use Rattle.state_arrays.specs.Trees.{HasPath}
use Rattle.rsml_ground.specs.Scoped.{GuardIsScoped, SendCaseIsScoped}

-- An event has a number, and an index that an array can have.
pub record EventIsScoped (s : Spec) (e : Instance) : Type 0 where
  pub number : ℕ
  pub place : place_in (events s) e ≡ Some number
  pub fits : e.index ≤ 64

-- a state that has a plain child of this name
abbrev pub HasChild : Spec → ℕ → Name → Type 0
HasChild s node name = (path : Path) × (path_at (states s) node ≡ Some path) × HasPath (states s) (child_path path (at name 0))

-- a state from which each of these names leads on to a state
abbrev pub LeadsOn : Spec → ℕ → List Name → Type 0
LeadsOn s node names =
    (path : Path) × (path_at (states s) node ≡ Some path) × ((n : ℕ) → n < length names → HasPath (states s) (target_path path (take (n + 1) names)))

-- a target is a state
abbrev pub TargetIsScoped : Spec → Option Path → Type 0
TargetIsScoped s None = ⊤
TargetIsScoped s (Some path) = HasPath (states s) path

-- What a transition names is there.
pub record TransitionIsScoped (s : Spec) (t : TransitionInstance) : Type 0 where
  pub source : HasPath (states s) t.source
  pub target : TargetIsScoped s t.target
  pub event : EventIsScoped s t.event
  pub guard : GuardIsScoped s (length (definitions s)) (within t.this) t.guard
  pub raises : Each (EventIsScoped s) t.raises

-- a send instance has a number
abbrev pub HasSend : Spec → Instance → Type 0
HasSend s x = (number : ℕ) × (place_in (sends s) x ≡ Some number)

-- What a case of a send names is there.
pub record CaseIsScoped (s : Spec) (c : SendCaseInstance) : Type 0 where
  pub send : HasSend s c.send
  pub event : EventIsScoped s c.event
  pub case : SendCaseIsScoped s (length (definitions s)) c
