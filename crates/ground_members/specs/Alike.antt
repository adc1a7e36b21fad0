-- When transitions over numbers differ in their sources alone.
use Rattle.std.specs.Prelude.{◌≡◌, ℕ, List, ◌∷◌, ◌++◌, Some}
use Rattle.std.specs.List.{AllZip}
use Rattle.rsml_syntax.specs.declared.syntax.Spec.{Spec}
use Rattle.rsml_syntax.specs.text.Names.{Name}
use Rattle.rsml_meaning.specs.Words.{Path, at, child_path}
use Rattle.rsml_meaning.specs.Instances.{states}
use Rattle.rsml_meaning.specs.Transitions.{TransitionInstance}
use Rattle.state_arrays.specs.Places.{path_at}
use Rattle.rsml_ground.specs.declared.phrases.GroundPhrase.{GroundPhrase}
use Rattle.ground_members.specs.declared.transitions.GroundTransition.{GroundTransition}
use Rattle.ground_members.specs.Members.{IsState, TransitionIs}

-- A transition that leads from this child of the state of a number, and is otherwise as another.
pub record IsAlike (s : Spec) (node : ℕ) (other : GroundTransition) (name : Name) (x : GroundTransition) : Type 0 where
  pub component : x.component ≡ other.component
  pub source : (path : Path) → path_at (states s) node ≡ Some path → IsState s (child_path path (at name 0)) x.source
  pub target : x.target ≡ other.target
  pub event : x.event ≡ other.event
  pub guard : x.guard ≡ other.guard
  pub raises : x.raises ≡ other.raises
  pub ordinal : x.ordinal ≡ other.ordinal

-- Behind what was there stands a transition, and then one like it for each of these children.
pub record AddsAlike (s : Spec) (node : ℕ) (first : GroundTransition) (names : List Name) (old new : List GroundTransition) : Type 0 where
  pub others : List GroundTransition
  pub are : AllZip (IsAlike s node first) names others
  pub added : new ≡ old ++ (first ∷ others)

-- Behind what was there stands a transition over numbers for each of these.
pub record AddsAll (ps : List GroundPhrase) (s : Spec) (ts : List TransitionInstance) (old new : List GroundTransition) : Type 0 where
  pub more : List GroundTransition
  pub are : AllZip (TransitionIs ps s) ts more
  pub added : new ≡ old ++ more
