-- The instances of states, components and events, in the order of the text; arrays by rising index.
use Rattle.std.specs.Prelude.{List, [], ◌∷◌, ◌++◌, map, Option, Some, None, flat_map, filter_map}
use Rattle.rsml_syntax.specs.declared.syntax.Spec.{Spec}
use Rattle.rsml_syntax.specs.declared.syntax.Decl.{Decl}
use Rattle.rsml_syntax.specs.declared.syntax.Decl.TheVariants as decl
use Rattle.rsml_syntax.specs.declared.syntax.Amount.{Amount}
use Rattle.rsml_syntax.specs.declared.syntax.Bus.{Bus}
use Rattle.rsml_syntax.specs.declared.syntax.Transition.{Transition}
use Rattle.rsml_syntax.specs.declared.syntax.StateDecl.{StateDecl}
use Rattle.rsml_syntax.specs.declared.syntax.Body.{Body, Basic, One', All', Row_of-StateDecl, end_of-StateDecl, more_of-StateDecl}
use Rattle.rsml_syntax.specs.text.Names.{Name}
use Rattle.rsml_syntax.specs.rules.Globals.{Globals, globals, indices}
use Rattle.rsml_meaning.specs.Words.{Instance, at, Path, child_path}

-- the global names of a specification
abbrev pub globals_of : Spec → Globals
globals_of s = globals s.decls

-- the instances of a name that is declared with this size
abbrev pub instances : Globals → Name → Option Amount → List Instance
instances g name size = map (at name) (indices g size)

-- States and components.

-- An instance of a `one` state: its default child, its children, and what leads between them.
pub record Component : Type 0 where
  pub path : Path
  pub default : Name
  pub children : List Name
  pub buses : List Bus
  pub transitions : List Transition

-- A state instance with its body, and the component that it is, if it is an instance of a `one` state.
pub record State : Type 0 where
  pub path : Path
  pub body : Body
  pub component : Option Component

-- a component of its parts
abbrev pub new_component : Path → Name → List Name → List Bus → List Transition → Component
new_component path default children buses transitions =
    record { path = path; default = default; children = children; buses = buses; transitions = transitions }

-- the names of the children in a row
abbrev pub row_names : {m : _} → Row_of-StateDecl m → List Name
row_names end_of-StateDecl = []
row_names (more_of-StateDecl name size body others) = name ∷ row_names others

-- the component that a state with this body is
abbrev pub component_of : Body → Path → Option Component
component_of (One' default _ children buses transitions) path = Some (new_component path default (row_names children) buses transitions)
component_of _ path = None

-- the state instance with this body at a path
abbrev pub new_state : Body → Path → State
new_state body path = record { path = path; body = body; component = component_of body path }

abbrev mutual
  -- the states inside a state with this body
  pub inside : Globals → Body → Path → List State
  inside g Basic path = []
  inside g (One' default _ children buses transitions) path = row_inside g children path
  inside g (All' _ children) path = row_inside g children path

  -- the states that a row of children makes: each child before what is inside it, an array once for each index
  pub row_inside : {m : _} → Globals → Row_of-StateDecl m → Path → List State
  row_inside g end_of-StateDecl path = []
  row_inside g (more_of-StateDecl name size body others) path =
      flat_map (λ i. new_state body (child_path path (at name i)) ∷ inside g body (child_path path (at name i))) (indices g size)
      ++ row_inside g others path

-- a state with this body, and after it the states inside it
abbrev pub subtree : Globals → Body → Path → List State
subtree g body path = new_state body path ∷ inside g body path

-- the states that a child makes: each instance before what is inside it, an array once for each index
abbrev pub child_states : Globals → Path → StateDecl → List State
child_states g path child = flat_map (λ i. subtree g child.body (child_path path (at child.name i))) (indices g child.size)

-- the state instances
abbrev pub states : Spec → List State
states s = subtree (globals_of s) s.body (at s.top 0 ∷ [])

-- the components
abbrev pub components : Spec → List Component
components s = filter_map (λ x. x.component) (states s)

-- Events.

-- the events that a declaration makes
abbrev pub events_of : Globals → Decl → List Instance
events_of g (decl.Event name size) = instances g name size
events_of g _ = []

-- the event instances
abbrev pub events : Spec → List Instance
events s = flat_map (events_of (globals_of s)) s.decls
