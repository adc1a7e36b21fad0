-- The instances of transitions, and which of them are enabled.
use Rattle.std.specs.Prelude.{ℕ, Bool, ◌&&◌, List, [], ◌∷◌, ◌++◌, map, Option, Some, None, if◌then◌else◌, ◌==◌, fold, flat_map, filter, find, option_map}
use Rattle.rsml_syntax.specs.declared.syntax.Spec.{Spec}
use Rattle.rsml_syntax.specs.declared.syntax.Guard.{Guard}
use Rattle.rsml_syntax.specs.declared.syntax.Transition.{Transition}
use Rattle.rsml_syntax.specs.text.Names.{Name, same}
use Rattle.rsml_syntax.specs.rules.Globals.{Globals}
use Rattle.rsml_meaning.specs.Words.{Instance, at, Path, child_path, same_instance, same_path, is_prefix, numbered, ordinal_of, item_of}
use Rattle.rsml_meaning.specs.Instances.{Component, components, globals_of}
use Rattle.rsml_meaning.specs.Truth.{View, within, instance, guard}

-- A transition of one component from one source, with its place in the component, counted from 1. A stay has no target.
pub record TransitionInstance : Type 0 where
  pub component : Path
  pub ordinal : ℕ
  pub source : Path
  pub target : Option Path
  pub event : Instance
  pub this : ℕ
  pub guard : Guard
  pub raises : List Instance

-- the index of the innermost array state on a path, 0 where there is none
abbrev pub innermost : Path → ℕ
innermost path = fold (λ i step. if step.index == 0 then i else step.index) 0 path

-- the children that a source stands for: those of a bus, or the one of that name
abbrev pub sources : Component → Name → List Name
sources c name = elim (find (λ b. same name b.name) c.buses) [ Some b ↦ b.members | None ↦ name ∷ [] ]

-- the target of a component at this path
abbrev pub target_path : Path → List Name → Path
target_path path names = path ++ map (λ name. at name 0) names

-- a transition, with its place, of a component from one of its sources
abbrev pub new_transition : Globals → Component → ℕ × Transition → Name → TransitionInstance
new_transition g c t source =
    let this = innermost c.path in
    record {
      component = c.path;
      ordinal = ordinal_of t;
      source = child_path c.path (at source 0);
      target = option_map (target_path c.path) (item_of t).target;
      event = instance g (within this) (item_of t).trigger;
      this = this;
      guard = (item_of t).guard;
      raises = map (instance g (within this)) (item_of t).raises;
    }

-- the transitions of a component, in order, each once for each source
abbrev pub transitions_of : Globals → Component → List TransitionInstance
transitions_of g c = flat_map (λ t. map (new_transition g c t) (sources c (item_of t).source)) (numbered c.transitions)

-- the transition instances, by component
abbrev pub transitions : Spec → List TransitionInstance
transitions s = flat_map (transitions_of (globals_of s)) (components s)

-- the transition is on this event
abbrev pub is_on : Instance → TransitionInstance → Bool
is_on e t = same_instance t.event e

-- the source is active and the guard is true
abbrev pub is_enabled : View → TransitionInstance → Bool
is_enabled v t = v.is_active t.source && guard v (within t.this) t.guard

-- a transition on the event from this state
abbrev pub is_from : Path → Instance → TransitionInstance → Bool
is_from path e t = is_on e t && same_path t.source path

-- the transitions on the event whose source is the path or a prefix of it
abbrev pub line : Spec → Instance → Path → List TransitionInstance
line s e path = filter (λ t. is_on e t && is_prefix t.source path) (transitions s)
