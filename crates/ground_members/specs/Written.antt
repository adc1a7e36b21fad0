-- Transitions and cases of sends as they are written, before their parts have numbers.
use Rattle.std.specs.Prelude.{◌≡◌, ℕ, List, [], ◌++◌, map, flat_map, Some, slice_get}
use Rattle.std.specs.Option.{option_map_or}
use Rattle.rsml_syntax.specs.declared.syntax.Spec.{Spec}
use Rattle.rsml_syntax.specs.declared.syntax.Bus.{Bus}
use Rattle.rsml_syntax.specs.declared.syntax.Transition.{Transition}
use Rattle.rsml_syntax.specs.text.Names.{Name}
use Rattle.rsml_syntax.specs.rules.Globals.{Globals}
use Rattle.rsml_meaning.specs.Words.{Path, Each}
use Rattle.rsml_meaning.specs.Instances.{State, Component, new_component, states}
use Rattle.rsml_meaning.specs.Transitions.{TransitionInstance, innermost, sources, new_transition, transitions_of}
use Rattle.state_tree.specs.nodes.Numbers.{components_of, component_at as state_component}
use Rattle.state_arrays.specs.Places.{path_at}
use Rattle.ground_members.specs.declared.written.Owner.{Owner}
use Rattle.ground_members.specs.declared.written.Written.{Written}

-- a component of what its transitions rest on
abbrev pub component_at : Path → List Bus → List Transition → Component
component_at path buses transitions = new_component path [] [] buses transitions

-- the transition at its place in the component at a path, from a source
abbrev pub made_from : Globals → Path → ℕ → Transition → Name → TransitionInstance
made_from g path n t source = new_transition g (component_at path [] []) (n, t) source

-- the transition at its place in a component with these buses, from each of its sources
abbrev pub made_at : Globals → Path → List Bus → ℕ × Transition → List TransitionInstance
made_at g path buses t = map (made_from g path t.0 t.1) (sources (component_at path buses []) t.1.source)

-- the transition instance that is written, from a source
abbrev pub made_of : Globals → Written → Name → TransitionInstance
made_of g x source = made_from g x.owner.path.now x.ordinal x.transition.now source

-- the transition instances that are written as one: from each source
abbrev pub made_by : Globals → Written → List TransitionInstance
made_by g x = map (made_of g x) x.sources.now

-- the transition instances that are written
abbrev pub all_made_by : Globals → List Written → List TransitionInstance
all_made_by g xs = flat_map (made_by g) xs

-- The numbers of a component are its places, and its index is that of `this`.
pub record IsPlaced (xs : List State) (x : Owner) : Type 0 where
  pub component : slice_get (map (λ c. c.path) (components_of xs)) x.component ≡ Some x.path.now
  pub node : path_at xs x.node ≡ Some x.path.now
  pub this : x.this ≡ innermost x.path.now

-- so is the component of each
abbrev pub ArePlaced : List State → List Written → Type 0
ArePlaced xs ws = Each (λ w. IsPlaced xs w.owner) ws

-- Behind what was written stand transitions of one component.
pub record Adds (owner : Owner) (make : Globals → List TransitionInstance) (old new : List Written) : Type 0 where
  pub made : (g : Globals) → all_made_by g new ≡ all_made_by g old ++ make g
  pub placed : (xs : List State) → IsPlaced xs owner → ArePlaced xs old → ArePlaced xs new

-- the transitions of the state of this number, where it is a component
abbrev pub of_state : Globals → Spec → ℕ → List TransitionInstance
of_state g s node = option_map_or (transitions_of g) (state_component (states s) node) []
